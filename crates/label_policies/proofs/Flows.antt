-- Whoever learns dominates, and what is changed dominates, each from one test of the rows that the checker computes.
-- Nothing else is asked of a table, so that another edition of it costs two more tests.
use Rattle.std.proofs.Common.{◌≡◌, ℕ, Bool, true, false, not, ◌&&◌, ◌||◌, List, [], ◌∷◌, Some, None, Option, refl, arith}
use Rattle.std.proofs.lemmas.Bool.Decides.{nat_tests}
use Rattle.labels.specs.Orders.{Order, OrderLaws}
use Rattle.policy.specs.Words.{request_number, kind_number}
use Rattle.policy.specs.declared.words.Request.{Request}
use Rattle.policy.specs.declared.words.Kind.{Kind}
use Rattle.policy.specs.declared.words.Verdict.TheVariants.{Yes}
use Rattle.label_policies.specs.declared.label_table.Condition.{Condition}
use Rattle.label_policies.specs.declared.label_table.Condition.TheVariants.{Free, Equal, Dominates}
use Rattle.label_policies.specs.declared.label_table.Row.{Row}
use Rattle.label_policies.specs.LabelTable.{rows, found, condition_in}
use Rattle.label_policies.specs.LabelPolicy.{ruled, label_verdict}
use Rattle.label_policies.specs.Flows.{learning, changing, LearnerDominates, ChangedDominates}

-- under this condition the process's label dominates the object's
abbrev pub process_above : Condition → Bool
process_above Free = false
process_above Equal = true
process_above Dominates = true

-- under this condition the object's label dominates the process's
abbrev pub object_above : Condition → Bool
object_above Free = false
object_above Equal = true
object_above Dominates = false

module _ (order : Order) (laws : OrderLaws order) (process object : ℕ) where
  process_dominates : (c : Condition) → process_above c ≡ true → ruled order (Some c) process object ≡ Yes → order.dominates process object ≡ true
  process_dominates Free above said = grind arith
  process_dominates Equal above said = let itself = laws.reflexive process in grind (arith, nat_tests)
  process_dominates Dominates above said = grind arith

  object_dominates : (c : Condition) → object_above c ≡ true → ruled order (Some c) process object ≡ Yes → order.dominates object process ≡ true
  object_dominates Free above said = grind arith
  object_dominates Equal above said = let itself = laws.reflexive process in grind (arith, nat_tests)
  object_dominates Dominates above said = grind arith

-- each row at a place where `here` holds has a condition of which `needed` holds
abbrev pub each_needs : (ℕ → ℕ → Bool) → (Condition → Bool) → List Row → Bool
each_needs here needed [] = true
each_needs here needed (row ∷ more) =
    (not (here (request_number row.request) (kind_number row.kind)) || needed row.condition) && each_needs here needed more

module _ (here : ℕ → ℕ → Bool) (needed : Condition → Bool) where
  found_needs : (table : List Row) (r k : ℕ) (c : Condition) → each_needs here needed table ≡ true → here r k ≡ true → found table r k ≡ Some c → needed c ≡ true
  found_needs [] r k c each at is = grind arith
  found_needs (row ∷ more) r k c each at is = let later = found_needs more r k c (grind arith) in grind (arith, nat_tests)

  -- what such conditions give where they say YES, a verdict gives that says YES
  granted : (Q : Type 0) (order : Order) (process object : ℕ) → ((c : Condition) → needed c ≡ true → ruled order (Some c) process object ≡ Yes → Q)
      → (f : Option Condition) → ((c : Condition) → f ≡ Some c → needed c ≡ true) → ruled order f process object ≡ Yes → Q
  granted Q order process object gives None is said = absurd (grind arith)
  granted Q order process object gives (Some c) is said = gives c (is c refl) said

module _ (table : List Row) (order : Order) (laws : OrderLaws order) (request : Request) (kind : Kind) (process object : ℕ) where
  pub learner_dominates : each_needs learning process_above table ≡ true → LearnerDominates order request kind process object (label_verdict table order request kind process object)
  unfolding condition_in
  learner_dominates each learns =
      granted learning process_above _ order process object (process_dominates order laws process object)
      (condition_in table request kind) (λ c. found_needs learning process_above table _ _ c each learns)

  pub changed_dominates : each_needs changing object_above table ≡ true → ChangedDominates order request kind process object (label_verdict table order request kind process object)
  unfolding condition_in
  changed_dominates each changes =
      granted changing object_above _ order process object (object_dominates order laws process object)
      (condition_in table request kind) (λ c. found_needs changing object_above table _ _ c each changes)

-- the two tests of the rows
pub rows_learn : each_needs learning process_above rows ≡ true
rows_learn = refl

pub rows_change : each_needs changing object_above rows ≡ true
rows_change = refl
