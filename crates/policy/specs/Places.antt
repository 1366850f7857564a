-- Places and words by their numbers. A place counts from 0, its number from 1.
use Rattle.std.specs.Prelude.{◌≡◌, ℕ, zero, suc, ◌+◌, Bool, true, false, cond, List, [], ◌∷◌, Some, None, Ok, Err, Option, Result, ◌==◌, nat_lt, refl}
use Rattle.std.proofs.Common.{ltb-true}
use Rattle.policy.specs.declared.place.Place.{Place}
use Rattle.policy.specs.declared.refusal.Refusal.{Refusal}
use Rattle.policy.specs.declared.refusal.Refusal.TheVariants.{OutOfRange}

abbrev pub number_of : {N : ℕ} → Place N → ℕ
number_of place = place.index + 1

-- the place at an index, by the test that it is one of N
abbrev pub if_inside : (N index position : ℕ) (inside : Bool) → nat_lt index N ≡ inside → Result (Place N) Refusal
if_inside N index position true e = Ok (record { index = index; within = ltb-true index N e })
if_inside N index position false e = Err (OutOfRange position)

-- the place of a number from 1 to N; any other number is refused, by its position
unfoldable pub placed : (N number position : ℕ) → Result (Place N) Refusal
placed N zero position = Err (OutOfRange position)
placed N (suc index) position = if_inside N index position (nat_lt index N) refl

abbrev as_some : {N : ℕ} → Result (Place N) Refusal → Result (Option (Place N)) Refusal
as_some (Ok place) = Ok (Some place)
as_some (Err e) = Err e

-- the same where 0 stands for no place
abbrev pub placed_or_none : (N number position : ℕ) → Result (Option (Place N)) Refusal
placed_or_none N number position = cond (number == 0) (Ok None) (as_some (placed N number position))

-- the word of a number, where the words are numbered one by one from the first on; any other number is refused
unfoldable pub word_numbered : {W : Type 0} → List W → (first number position : ℕ) → Result W Refusal
word_numbered [] first number position = Err (OutOfRange position)
word_numbered (word ∷ more) first number position = cond (number == first) (Ok word) (word_numbered more (suc first) number position)
