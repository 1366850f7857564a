use Rattle.std.proofs.Common.{[], ◌∷◌, is_ok, ap}
use Rattle.policy.specs.Places.{placed}
use Rattle.associations.specs.Associations.{on_chain}
use Rattle.triples.specs.RowSets.{any_below}
use Rattle.examples.specs.declared.marked.Answer.TheVariants.{Says}
use Rattle.examples.specs.Chains.{three_chains}
use Rattle.examples.specs.Examples.{made_from}
use Rattle.examples.proofs.Made.{made_alone}
use Rattle.examples.proofs.marked.third_item.Goals as goal

pub unwrap-chains-requires : goal.unwrap-chains-requires
unfolding placed
unwrap-chains-requires c = ap is_ok c.three_chains.ensures

pub returns : goal.returns
unfolding placed on_chain any_below
returns c =
    ap (λ v. Says v ∷ [])
    (c.verdict_after.ensures (made_from three_chains ∷ []) (made_alone _ _ _ three_chains c.new-triples.ensures c.unwrap-chains.ensures c.three_chains.ensures))
