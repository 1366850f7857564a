-- The places of a chain as a list, which is what the walk along the chain gives.
use Rattle.std.proofs.Common.{◌≡◌, ℕ, zero, suc, ◌+◌, ◌<◌, ◌||◌, eqb, List, [], ◌∷◌, length, Some, None, Option, Bool, false, sym, refl, ap, subst, ap₂, arith}
use denote.Ref.{Bor}
use denote.Param.Members.{Mut}
use Rattle.std.specs.Fn.{CalledAt}
use Rattle.std.specs.Iterator.Adapters.{take_source, take_count, take_steps, successors_next, successors_callee, successors_steps}
use Rattle.std.specs.List.{list_any}
use Rattle.std.specs.declared.iter.Take.{Take}
use Rattle.std.specs.declared.iter.Successors.{Successors}
use Rattle.std.proofs.lemmas.Iterator.{YieldsList}
use Rattle.std.proofs.lemmas.Iterator.Splits.{YieldsList-from_shown_while}
use Rattle.policy.specs.declared.place.Place.{Place}
use Rattle.associations.specs.declared.rows.Cell.{Cell}
use Rattle.associations.specs.Associations.{cell_at, on_chain}

module _ (cells : List (Option Cell)) where
  -- the place with which a chain goes on after this cell
  abbrev goes_on : Option Cell → Option (Place 128)
  goes_on None = None
  goes_on (Some cell) = cell.next

  abbrev is_item : Place 64 → Option Cell → Bool
  is_item item None = false
  is_item item (Some cell) = eqb cell.item.index item.index

  abbrev pub item_at : Place 64 → Place 128 → Bool
  item_at item place = is_item item (cell_at cells (Some place))

  -- the first n places of the chain that begins here
  pub chain : ℕ → Option (Place 128) → List (Place 128)
  chain zero at = []
  chain (suc n) None = []
  chain (suc n) (Some place) = place ∷ chain n (goes_on (cell_at cells (Some place)))

  ended : (item : Place 64) (n : ℕ) → list_any (item_at item) (chain n None) ≡ false
  unfolding chain
  ended item zero = refl
  ended item (suc n) = refl

  any_from : (item : Place 64) (n : ℕ) (at : Option Cell) → ((next : Option (Place 128)) → list_any (item_at item) (chain n next) ≡ on_chain n cells (cell_at cells next) item)
      → (is_item item at || list_any (item_at item) (chain n (goes_on at))) ≡ on_chain (suc n) cells at item
  unfolding on_chain
  any_from item n None later = ended item n
  any_from item n (Some cell) later = ap (λ b. eqb cell.item.index item.index || b) (later cell.next)

  pub any_of_chain : (item : Place 64) (n : ℕ) (at : Option (Place 128)) → list_any (item_at item) (chain n at) ≡ on_chain n cells (cell_at cells at) item
  unfolding on_chain chain
  any_of_chain item zero at = refl
  any_of_chain item (suc n) None = refl
  any_of_chain item (suc n) (Some place) = any_from item n (cell_at cells (Some place)) (any_of_chain item n)

  none_left : (n : ℕ) (at : Option (Place 128)) → (0 < n → None ≡ at) → length (chain n at) ≡ 0
  unfolding chain
  none_left zero at over = refl
  none_left (suc n) at over = ap (λ a. length (chain (suc n) a)) (sym (over (omega arith)))

  one_taken : (n m : ℕ) (at next : Option (Place 128)) (place : Place 128) → m + 1 ≡ n → Some place ≡ at → next ≡ goes_on (cell_at cells (Some place)) → chain n at ≡ place ∷ chain m next
  unfolding chain
  one_taken n m at next place count here on = let more : n ≡ suc m = omega arith in rw (more, sym here, on) refl

  module _ {F : Type 0} (g : Mut F (Bor (Place 128) × Unit {0}) (Option (Place 128))) where
    -- the closure gives the place with which the chain goes on
    abbrev GoesOn : F → Type 0
    GoesOn f = (place : Place 128) (next : Option (Place 128)) (q : F) → CalledAt g f place next q → (q ≡ f) × (next ≡ goes_on (cell_at cells (Some place)))

    abbrev Steps : Take (Successors (Place 128) F) → Option (Place 128) → Take (Successors (Place 128) F) → Type 0
    Steps = take_steps (successors_steps g)

    pub YieldsList-from_chain : {s : Take (Successors (Place 128) F)} (n : ℕ) (at : Option (Place 128)) → take_count s ≡ n → successors_next (take_source s) ≡ at
        → GoesOn (successors_callee (take_source s)) → YieldsList Steps (λ place. place) s (chain n at)
    YieldsList-from_chain {s} n at count here goes =
        subst (YieldsList Steps (λ place. place) s) (ap₂ chain count here)
        (YieldsList-from_shown_while Steps (λ place. place)
        (λ t. chain (take_count t) (successors_next (take_source t)))
        (λ t. GoesOn (successors_callee (take_source t)))
        (λ t u on step. none_left _ _ (λ h. (step h).0))
        (λ t place u on step.
        let called = on place _ _ step.0.1 in
        (subst GoesOn (sym called.0) on, one_taken _ _ _ _ _ step.1 step.0.0 called.1))
        s goes)
