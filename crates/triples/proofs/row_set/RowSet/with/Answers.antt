use Rattle.std.proofs.Common.{◌^◌, ◌||◌, ap, ◌∙◌}
use lib.Bits.{bit_or}
use Rattle.std.proofs.lemmas.Nat.{one_shl}
use Rattle.triples.specs.RowSets.{has}
use Rattle.triples.proofs.Bits.{bit, bit-or, bit-pow}
use Rattle.triples.proofs.row_set.RowSet.with.Goals as goal

pub returns : goal.returns
unfolding has
returns c k =
    let bits = c.args.self.bits in
    let place = c.args.place.index in
    ap (λ n. bit (bit_or bits n) k) (one_shl place 32 c.args.place.within) ∙ bit-or bits (2 ^ place) k ∙ ap (λ b. b || bit bits k) (bit-pow place k)
