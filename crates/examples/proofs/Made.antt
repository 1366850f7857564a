-- The leaf that is made from associations which were added without refusal.
use Rattle.std.proofs.Common.{◌≡◌, List, [], ◌∷◌, Ok, Result, sym, ap, ◌∙◌}
use Rattle.policy.specs.declared.refusal.Refusal.{Refusal}
use Rattle.policy.specs.Leaves.{Leaf}
use Rattle.associations.specs.declared.associations.Associations.{Associations}
use Rattle.examples.specs.Examples.{made_from}

abbrev alone : Leaf → List Leaf
alone leaf = leaf ∷ []

pub made_alone : (leaf : Leaf) (a : Associations) (r s : Result Associations Refusal) → leaf ≡ made_from (Ok a) → r ≡ Ok a → r ≡ s → alone leaf ≡ alone (made_from s)
made_alone leaf a r s made ok same = ap alone (made ∙ ap made_from (sym ok ∙ same))
