use Rattle.std.proofs.Common.{rules}
use Rattle.triples.specs.RowSets.{has}
use Rattle.triples.proofs.Bits.{some_bit}
use Rattle.triples.proofs.row_set.RowSet.any.Goals as goal

pub returns : goal.returns
unfolding has
returns c = some_bit c.args.self.bits 32 (search rules)
