-- What stands at each place of the tables.
use Rattle.std.specs.Prelude.{Bool, false, List, [], ◌∷◌, None, Option, slice_index_or}
use Rattle.policy.specs.declared.place.Place.{Place}
use Rattle.policy.specs.declared.words.Kind.{Kind}
use Rattle.policy.specs.declared.words.Kind.TheVariants.{File, Directory, Ipc}
use Rattle.tables.specs.declared.tables.Mode.{Mode}
use Rattle.tables.specs.declared.tables.Mode.TheVariants.{Read, Write, ReadWrite}
use Rattle.tables.specs.declared.tables.Modes.{Modes}
use Rattle.tables.specs.declared.tables.User.{User}
use Rattle.tables.specs.declared.tables.Process.{Process}
use Rattle.tables.specs.declared.tables.Object.{Object}
use Rattle.tables.specs.declared.tables.Tables.{Tables}

-- every mode, by number
abbrev pub modes : List Mode
modes = Read ∷ Write ∷ ReadWrite ∷ []

-- the kinds that an object may have, by number from 1
abbrev pub object_kinds : List Kind
object_kinds = File ∷ Directory ∷ Ipc ∷ []

abbrev pub no_modes : Modes
no_modes = record { read = false; write = false; both = false }

abbrev pub user_at : Tables → Place 16 → Option User
user_at t user = slice_index_or t.users user.index None

abbrev pub process_at : Tables → Place 32 → Option Process
process_at t seat = slice_index_or t.processes seat.index None

abbrev pub object_in : List (Option Object) → Place 64 → Option Object
object_in objects object = slice_index_or objects object.index None

abbrev pub object_at : Tables → Place 64 → Option Object
object_at t object = object_in t.objects object

-- the modes in which a process holds an object
abbrev pub modes_of : Process → Place 64 → Modes
modes_of process object = slice_index_or process.holds object.index no_modes

-- the mode is in the set
abbrev pub has_mode : Modes → Mode → Bool
has_mode modes Read = modes.read
has_mode modes Write = modes.write
has_mode modes ReadWrite = modes.both
