-- The records of what a call asks for, made from the tables.
use Rattle.std.specs.Prelude.{ℕ, List, [], ◌∷◌, Some, None, Option}
use Rattle.policy.specs.declared.place.Place.{Place}
use Rattle.policy.specs.declared.record.Subject.{Subject}
use Rattle.policy.specs.declared.record.Target.{Target}
use Rattle.policy.specs.declared.record.Record.{Record}
use Rattle.policy.specs.declared.words.Request.{Request}
use Rattle.policy.specs.declared.words.Request.TheVariants.{Terminate}
use Rattle.policy.specs.declared.words.Kind.{Kind}
use Rattle.policy.specs.declared.words.Kind.TheVariants.{NoObject}
use Rattle.policy.specs.declared.words.SystemRole.{SystemRole}
use Rattle.policy.specs.declared.words.IntegrityRole.{IntegrityRole}
use Rattle.policy.specs.declared.words.ProgramType.{ProgramType}
use Rattle.policy.specs.declared.words.Category.{Category}
use Rattle.policy.specs.declared.words.DataType.{DataType}
use Rattle.tables.specs.declared.tables.User.{User}
use Rattle.tables.specs.declared.tables.Process.{Process}
use Rattle.tables.specs.declared.tables.Object.{Object}
use Rattle.tables.specs.declared.tables.Tables.{Tables}
use Rattle.tables.specs.Tables.{user_at, object_at}

abbrev pub asking : Request → Subject → Target → Record
asking request subject target = record { request = request; subject = subject; target = target }

-- a user as the one who asks from a seat, with a label and a type
abbrev pub acting : Place 32 → Place 16 → Option User → (label : ℕ) → ProgramType → Subject
acting seat owner None label type =
    record { seat = seat; owner = owner; role = SystemRole.User; integrity = IntegrityRole.Nil; label = label; runs = type }
acting seat owner (Some user) label type =
    record { seat = seat; owner = owner; role = user.role; integrity = user.integrity; label = label; runs = type }

-- the process in a seat as the one who asks: with its owner's roles
abbrev pub subject_of : Tables → Place 32 → Process → Subject
subject_of t seat p = acting seat p.owner (user_at t p.owner) p.label p.runs

-- what is asked for where it has at most a number, a kind and a label: all else is 0
abbrev pub bare_target : Option (Place 64) → Kind → (label : ℕ) → Target
bare_target object kind label =
    record { object = object; kind = kind; label = label; category = Category.General; program = ProgramType.Nil; content = DataType.Nil }

-- no object at all
abbrev pub no_target : (label : ℕ) → Target
no_target label = bare_target None NoObject label

abbrev pub as_target : Place 64 → Option Object → Target
as_target object None = bare_target (Some object) NoObject 0
as_target object (Some o) =
    record { object = Some object; kind = o.kind; label = o.label; category = o.category; program = o.program; content = o.content }

-- an object as what is asked for
abbrev pub target_of : Tables → Place 64 → Target
target_of t object = as_target object (object_at t object)

-- a request on a home falls away where there is none
abbrev pub at_home : Tables → Request → Subject → Option (Place 64) → Option Record
at_home t request subject None = None
at_home t request subject (Some home) = Some (asking request subject (target_of t home))

-- the record of a process that is ended
abbrev pub terminated : Tables → Place 32 → Process → Record
terminated t seat p = asking Terminate (subject_of t seat p) (no_target 0)

-- the requests of a call: three at most, each at its place, in the order in which they are judged
abbrev pub no_request : List (Option Record)
no_request = None ∷ None ∷ None ∷ []

abbrev pub one_request : Record → List (Option Record)
one_request q = None ∷ None ∷ Some q ∷ []
