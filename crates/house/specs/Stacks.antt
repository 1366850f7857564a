-- The leaves of the stack of four, and what is heard from them.
use Rattle.std.specs.Prelude.{◌≡◌, List, [], ◌∷◌, map}
use Rattle.labels.specs.Orders.{Order}
use Rattle.policy.specs.declared.record.Record.{Record}
use Rattle.policy.specs.declared.stack.Stack.{Stack}
use Rattle.policy.specs.Leaves.{Leaf, joined, Judged}
use Rattle.roles.specs.declared.functional_control.FunctionalControl.{FunctionalControl}
use Rattle.roles.specs.declared.security_information.SecurityInformation.{SecurityInformation}
use Rattle.label_policies.specs.declared.label_policy.MandatoryLabels.{MandatoryLabels}
use Rattle.roles.specs.Roles.{functional_control_leaf, security_information_leaf}
use Rattle.label_policies.specs.LabelPolicy.{label_leaf}
use Rattle.associations.specs.declared.associations.Associations.{Associations}
use Rattle.triples.specs.declared.triples.Triples.{Triples}
use Rattle.triples.specs.Triples.{chart_of, no_candidates, triples_leaf}
use Rattle.triples.specs.Kept.{kept_leaf}
use Rattle.house.specs.declared.stack.Opinions.{Opinions}

abbrev pub four : Leaf → Order → List Leaf
four triples order = functional_control_leaf ∷ security_information_leaf ∷ triples ∷ label_leaf order ∷ []

-- as they are when the stack is new
abbrev pub new_leaves : Order → Associations → List Leaf
new_leaves order associations = four (triples_leaf (chart_of associations) no_candidates) order

-- as they are now
abbrev pub house_leaves : {O : Type 0} → (O → Order) → Stack FunctionalControl (Stack SecurityInformation (Stack Triples (MandatoryLabels O))) → List Leaf
house_leaves meaning s = four (kept_leaf s.second.second.first) (meaning s.second.second.second.order)

-- what each leaf says alone, and what they answer together
pub record Heard (leaves : List Leaf) (asked : Record) (heard : Opinions) : Type 0 where
  pub alone : heard.control ∷ heard.information ∷ heard.triples ∷ heard.labels ∷ [] ≡ map (λ leaf. joined (leaf ∷ []) asked) leaves
  pub together : Judged leaves asked (heard.joined, heard.named)
