use Rattle.std.proofs.Common.{refl}
use Rattle.triples.specs.RowSets.{has}
use Rattle.triples.proofs.Bits.{bit-zero}
use Rattle.triples.proofs.row_set.RowSet.none.Goals as goal

pub returns : goal.returns
unfolding has
returns c = record { made = refl; empty = bit-zero }
