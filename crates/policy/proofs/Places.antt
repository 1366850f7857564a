-- The place of a number, inside its range and outside.
use Rattle.std.proofs.Common.{◌≡◌, ℕ, zero, suc, ◌-◌, ◌<◌, ◌≤◌, Bool, true, false, ltb, Ok, Err, Result, refl, ap, ◌∙◌, arith, ltb-false, ltb-true}
use mathlib.Core.HLevel.{is_prop→PathP}
use native.Mathlib.Bridge.{le_prop}
use Rattle.policy.specs.declared.place.Place.{Place}
use Rattle.policy.specs.declared.refusal.Refusal.{Refusal}
use Rattle.policy.specs.declared.refusal.Refusal.TheVariants.{OutOfRange}
use Rattle.policy.specs.Places.{if_inside, placed}

abbrev pub at : (N index : ℕ) → index < N → Place N
at N index h = record { index = index; within = h }

-- two places with one index are the same
pub same_place : (N a b : ℕ) (h : a < N) (k : b < N) → a ≡ b → at N a h ≡ at N b k
same_place N a b h k e = λ i. record { index = e i; within = is_prop→PathP (λ j. e j < N) (λ j. le_prop) h k i }

tested_in : (N index position : ℕ) (h : index < N) (t : Bool) (e : ltb index N ≡ t)
    → ◌≡◌ {A = Result (Place N) Refusal} (Ok (at N index h)) (if_inside N index position t e)
tested_in N index position h true e = ap Ok (same_place N index index h (ltb-true index N e) refl)
tested_in N index position h false e = let z : ⊥ = omega (arith, ltb-false index N e) in absurd z

tested_out : (N index position : ℕ) → N ≤ index → (t : Bool) (e : ltb index N ≡ t)
    → ◌≡◌ {A = Result (Place N) Refusal} (Err (OutOfRange position)) (if_inside N index position t e)
tested_out N index position h true e = let z : ⊥ = omega (arith, ltb-true index N e) in absurd z
tested_out N index position h false e = refl

pub placed_inside : (N n position : ℕ) → 1 ≤ n → (h : n - 1 < N)
    → ◌≡◌ {A = Result (Place N) Refusal} (Ok (at N (n - 1) h)) (placed N n position)
unfolding placed
placed_inside N zero position low h = let z : ⊥ = omega arith in absurd z
placed_inside N (suc index) position low h =
    let k : index < N = omega arith in
    ap Ok (same_place N (suc index - 1) index h k (omega arith)) ∙ tested_in N index position k (ltb index N) refl

pub placed_outside : (N n position : ℕ) → (1 ≤ n → n - 1 < N → ⊥)
    → ◌≡◌ {A = Result (Place N) Refusal} (Err (OutOfRange position)) (placed N n position)
unfolding placed
placed_outside N zero position out = refl
placed_outside N (suc index) position out =
    let past : index < N → ⊥ = λ h. out (omega arith) (omega arith) in
    tested_out N index position (omega (arith, past)) (ltb index N) refl
