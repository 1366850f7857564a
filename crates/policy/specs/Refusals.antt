-- Refusals: their numbers, how a check goes on or refuses, and what an addition leaves.
use Rattle.std.specs.Prelude.{◌≡◌, ℕ, Bool, cond, Ok, Err, Result, MatchResult}
use Rattle.policy.specs.declared.refusal.Refusal.{Refusal}
use Rattle.policy.specs.declared.refusal.Refusal.TheVariants.{OutOfRange, SeatEmpty, SeatTaken, NoSuchUser, ObjectUnused, ObjectInUse, NoSuchHome, Held, HomeOfAnother, NotHeldSo, HeldSoAlready, WrongKind, SetTwice, CellNotSet, Denied, Undefined}
use Rattle.policy.specs.declared.refusal.RefusalCode.{RefusalCode}
use Rattle.policy.specs.Words.{request_number}

-- a refusal that names nothing
abbrev plain : ℕ → RefusalCode
plain number = record { number = number; first = 0; second = 0 }

-- the number of each refusal and the two values that it names
abbrev pub refusal_code : Refusal → RefusalCode
refusal_code (OutOfRange position) = record { number = 3; first = position; second = 0 }
refusal_code SeatEmpty = plain 11
refusal_code SeatTaken = plain 12
refusal_code NoSuchUser = plain 13
refusal_code ObjectUnused = plain 14
refusal_code ObjectInUse = plain 15
refusal_code NoSuchHome = plain 16
refusal_code Held = plain 17
refusal_code HomeOfAnother = plain 18
refusal_code NotHeldSo = plain 19
refusal_code HeldSoAlready = plain 20
refusal_code WrongKind = plain 21
refusal_code SetTwice = record { number = 22; first = 0; second = 0 }
refusal_code CellNotSet = record { number = 23; first = 0; second = 0 }
refusal_code (Denied request policy) = record { number = 51; first = request_number request; second = policy }
refusal_code (Undefined request policy) = record { number = 52; first = request_number request; second = policy }

-- a check that finds something goes on with it; one that refuses, refuses
abbrev pub go_on : {X Y : Type 0} → Result X Refusal → (X → Result Y Refusal) → Result Y Refusal
go_on (Ok x) next = next x
go_on (Err e) next = Err e

-- a test that must pass before it goes on
abbrev pub provided : {X : Type 0} → Bool → Refusal → Result X Refusal → Result X Refusal
provided passed refusal next = cond passed next (Err refusal)

-- an addition leaves what the rules give, and one that is refused leaves everything as it stood
abbrev pub Added : {X Y : Type 0} → X → Result X Refusal → Result Y Refusal → X → Type 0
Added before outcome r after = MatchResult r (λ _. outcome ≡ Ok after) (λ e. (outcome ≡ Err e) × (after ≡ before))
