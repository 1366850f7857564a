-- What a call looks up before it asks for anything.
use Rattle.std.specs.Prelude.{ℕ, Bool, true, false, cond, ◌||◌, List, [], ◌∷◌, Some, None, Ok, Err, Option, Result, ◌==◌, nat_lt}
use Rattle.std.specs.Option.{ok_or}
use Rattle.policy.specs.declared.place.Place.{Place}
use Rattle.policy.specs.declared.refusal.Refusal.{Refusal}
use Rattle.policy.specs.declared.refusal.Refusal.TheVariants.{OutOfRange, SeatEmpty, ObjectUnused}
use Rattle.policy.specs.declared.words.Kind.TheVariants.{File, Directory}
use Rattle.policy.specs.Words.{kind_number}
use Rattle.tables.specs.declared.tables.Modes.{Modes}
use Rattle.tables.specs.declared.tables.Process.{Process}
use Rattle.tables.specs.declared.tables.Object.{Object}
use Rattle.tables.specs.declared.tables.Tables.{Tables}
use Rattle.tables.specs.Tables.{process_at, object_in, object_at, modes_of}

-- a length is below 2^32
abbrev pub a_length : (number position : ℕ) → Result ℕ Refusal
a_length number position = cond (nat_lt number 4294967296) (Ok number) (Err (OutOfRange position))

-- 0 is no and 1 is yes
abbrev pub flags : List Bool
flags = false ∷ true ∷ []

-- the process in a seat
abbrev pub seated : Tables → Place 32 → Result Process Refusal
seated t seat = ok_or (process_at t seat) SeatEmpty

-- the object of a number
abbrev pub used : Tables → Place 64 → Result Object Refusal
used t object = ok_or (object_at t object) ObjectUnused

abbrev pub is_file : Object → Bool
is_file o = kind_number o.kind == kind_number File

abbrev pub is_directory : Object → Bool
is_directory o = kind_number o.kind == kind_number Directory

abbrev is_some_directory : Option Object → Bool
is_some_directory None = false
is_some_directory (Some o) = is_directory o

-- a directory stands at the place
abbrev pub has_directory : List (Option Object) → Place 64 → Bool
has_directory objects place = is_some_directory (object_in objects place)

abbrev pub length_of : Option Object → ℕ
length_of None = 0
length_of (Some o) = o.length

-- what is held in mode 1 or 3 may be read, in mode 2 or 3 written
abbrev pub reads : Modes → Bool
reads m = m.read || m.both

abbrev pub writes : Modes → Bool
writes m = m.write || m.both

-- ---- who has to do with an object

abbrev pub some_of : {X : Type 0} → (X → Bool) → List X → Bool
some_of test [] = false
some_of test (x ∷ xs) = test x || some_of test xs

-- the process in a seat holds the object in some mode
abbrev pub holds : Place 64 → Option Process → Bool
holds object None = false
holds object (Some p) = (modes_of p object).read || ((modes_of p object).write || (modes_of p object).both)

abbrev pub is_home : Place 64 → Option (Place 64) → Bool
is_home object None = false
is_home object (Some home) = home.index == object.index

-- the object at a place has this one for its home
abbrev pub stands_in : Place 64 → Option Object → Bool
stands_in object None = false
stands_in object (Some o) = is_home object o.home
