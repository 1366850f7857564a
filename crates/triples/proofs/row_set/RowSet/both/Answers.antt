use Rattle.triples.specs.RowSets.{has}
use Rattle.triples.proofs.Bits.{bit-and}
use Rattle.triples.proofs.row_set.RowSet.both.Goals as goal

pub returns : goal.returns
unfolding has
returns c = bit-and c.args.self.bits c.args.other.bits
