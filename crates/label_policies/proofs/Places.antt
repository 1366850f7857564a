-- What stands at a place of the table that a list of rows lays out.
use Rattle.std.proofs.Common.{◌≡◌, ℕ, ◌+◌, ◌<◌, List, map, get_or, Option, ap, ◌∙◌, ap₂, arith}
use Rattle.std.specs.List.{range_with_len}
use Rattle.std.proofs.lemmas.List.FromFn.{get_or-map-range_with_len}
use Rattle.policy.specs.Words.{request_number, kind_number}
use Rattle.policy.specs.declared.words.Request.{Request}
use Rattle.policy.specs.declared.words.Kind.{Kind}
use Rattle.label_policies.specs.declared.label_table.Condition.{Condition}
use Rattle.label_policies.specs.declared.label_table.Row.{Row}
use Rattle.label_policies.specs.LabelTable.{found, condition_in, laid_out}

module _ (ws : List Row) (table : List (List (Option Condition))) (given : table ≡ laid_out ws) (d : List (Option Condition)) (e : Option Condition) where
  pub at_place : (request : Request) (kind : Kind) (i j : ℕ) → 1 + i ≡ request_number request → j ≡ kind_number kind → i < 25 → j < 5
      → get_or (get_or table i d) j e ≡ condition_in ws request kind
  unfolding condition_in
  at_place request kind i j hi hj low few =
      ap (λ t. get_or (get_or t i d) j e) given
      ∙ ap (λ line. get_or line j e) (get_or-map-range_with_len (λ q. map (found ws q) (range_with_len 0 5)) 1 25 i (1 + i) d low (omega arith))
      ∙ get_or-map-range_with_len (found ws (1 + i)) 0 5 j j e few (omega arith)
      ∙ ap₂ (found ws) hi hj
