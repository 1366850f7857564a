-- What is kept once each item has its rows.
use Rattle.std.proofs.Common.{◌≡◌, ℕ, zero, suc, ◌+◌, ◌<◌, ◌≤◌, Bool, false, ◌⊎◌, List, get_or, replicate, Option, sym, refl, subst, ap, ◌∙◌, ap₂, inl, inr, arith}
use denote.Param.Members.{Mut}
use mathlib.Core.Path.{fun_ext}
use Rattle.std.specs.Array.{IsFromFnResultFrom}
use Rattle.std.specs.Fn.{Called}
use Rattle.std.proofs.lemmas.Bool.{cases_eq}
use Rattle.std.proofs.lemmas.Nat.Bits.{bit_at-zero}
use Rattle.policy.specs.declared.place.Place.{Place}
use Rattle.policy.proofs.Places.{same_place}
use Rattle.associations.specs.declared.associations.Associations.{Associations}
use Rattle.associations.specs.declared.rows.Cell.{Cell}
use Rattle.associations.specs.Associations.{row_at, on_chain}
use Rattle.triples.specs.declared.row_set.RowSet.{RowSet}
use Rattle.triples.specs.RowSets.{has, has_at, no_rows}
use Rattle.triples.specs.declared.triples.Triples.{Triples}
use Rattle.triples.specs.Triples.{Chart, row_assigned, row_has, chart_of, no_candidates, triples_leaf}
use Rattle.triples.specs.Kept.{kept_chart, kept_candidates, kept_leaf}

-- a chain is walked by the item's index alone
pub same_walk : (n : ℕ) (cells : List (Option Cell)) (at : Option Cell) (item other : Place 64) → item.index ≡ other.index → on_chain n cells at item ≡ on_chain n cells at other
same_walk n cells at item other e = ap (on_chain n cells at) (same_place 64 item.index other.index item.within other.within e)

-- the set has the rows that list the item of the index
pub record Lists (a : Associations) (index : ℕ) (set : RowSet) : Type 0 where
  pub each : (item : Place 64) → item.index ≡ index → (k : ℕ) → has set k ≡ row_has a (row_at a.rows k) item

-- what each call of a closure that changes nothing gives, `array::from_fn` has at its index
module _ {F B : Type 0} (g : Mut F (ℕ × Unit {0}) B) (f : F) (P : ℕ → B → Type 0) (call : (i : ℕ) (y : B) (q : F) → Called g f (i, tt) y q → (q ≡ f) × P i y) where
  pub made : (ys : List B) (d : B) (n i k : ℕ) → IsFromFnResultFrom g f ys i n → i ≤ k → k < i + n → P k (get_or ys k d)
  made ys d zero i k each low high = absurd (omega arith)
  made ys d (suc n) i k (q, y, here, called, later) low high = go (cases_eq i k)
      (λ other. made ys d n (i + 1) k (subst (λ p. IsFromFnResultFrom g p ys (i + 1) n) (call i y q called).0 later) (omega (arith, other)) (omega arith))
    where
      go : (i ≡ k) ⊎ (i ≡ k → ⊥) → ((i ≡ k → ⊥) → P k (get_or ys k d)) → P k (get_or ys k d)
      go (inl e) next = subst (λ j. P j (get_or ys j d)) e (subst (P i) (sym (here.1 d)) (call i y q called).1)
      go (inr other) next = next other

none_kept : (m seat k : ℕ) → has_at (replicate m no_rows) seat k ≡ false
unfolding has
none_kept zero seat k = grind (arith, bit_at-zero)
none_kept (suc m) zero k = grind (arith, bit_at-zero)
none_kept (suc m) (suc seat) k = none_kept m seat k

abbrev charting : (ℕ → Place 16 → Place 64 → Bool) → (ℕ → Place 64 → Bool) → Chart
charting f g = record { assigned = f; lists = g }

-- each item has its rows, and no seat a candidate
pub charted : (a : Associations) (t : Triples) → t.rows ≡ a.rows → ((item : Place 64) → Lists a item.index (get_or t.listing item.index no_rows))
    → t.candidates ≡ replicate 32 no_rows → kept_leaf t ≡ triples_leaf (chart_of a) no_candidates
charted a t same listed idle = ap₂ triples_leaf charts candidates
  where
    charts : kept_chart t ≡ chart_of a
    charts = ap₂ charting
        (ap (λ rows row user procedure. row_assigned (row_at rows row) user procedure) same)
        (fun_ext (λ row. fun_ext (λ item. (listed item).each item refl row)))

    candidates : kept_candidates t ≡ no_candidates
    candidates = fun_ext (λ seat. fun_ext (λ k. ap (λ sets. has_at sets seat k) idle ∙ none_kept 32 seat k))
