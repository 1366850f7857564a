-- The tables after a change: what it names is other, and all else as it was.
use Rattle.std.specs.Prelude.{ℕ, Bool, true, false, cond, List, Some, None, Option, slice_index_or, slice_set}
use Rattle.policy.specs.declared.place.Place.{Place}
use Rattle.policy.specs.declared.words.ProgramType.{ProgramType}
use Rattle.tables.specs.declared.change.Change.{Change}
use Rattle.tables.specs.declared.change.Change.TheVariants.{Nothing, Seat, Become, Hold, LetGo, Length, Put}
use Rattle.tables.specs.declared.tables.Mode.{Mode}
use Rattle.tables.specs.declared.tables.Mode.TheVariants.{Read, Write, ReadWrite}
use Rattle.tables.specs.declared.tables.Modes.{Modes}
use Rattle.tables.specs.declared.tables.Process.{Process}
use Rattle.tables.specs.declared.tables.Object.{Object}
use Rattle.tables.specs.declared.tables.Tables.{Tables}
use Rattle.tables.specs.Tables.{no_modes}

-- a table with what stands at a place changed
abbrev pub changed_at : {X : Type 0} → X → List X → ℕ → (X → X) → List X
changed_at blank xs place change = slice_set xs place (change (slice_index_or xs place blank))

abbrev pub with_process : Tables → Place 32 → (Option Process → Option Process) → Tables
with_process t seat change =
    record { users = t.users; processes = changed_at None t.processes seat.index change; objects = t.objects }

abbrev pub with_object : Tables → Place 64 → (Option Object → Option Object) → Tables
with_object t object change =
    record { users = t.users; processes = t.processes; objects = changed_at None t.objects object.index change }

-- a set of modes with a mode put in or taken out
abbrev pub marked : Mode → Bool → Modes → Modes
marked Read held modes = record { read = held; write = modes.write; both = modes.both }
marked Write held modes = record { read = modes.read; write = held; both = modes.both }
marked ReadWrite held modes = record { read = modes.read; write = modes.write; both = held }

-- the process in a seat once it holds an object in a mode, or has let it go
abbrev pub holding : Place 64 → Mode → Bool → Option Process → Option Process
holding object mode held None = None
holding object mode held (Some p) =
    Some (record { owner = p.owner; label = p.label; runs = p.runs; holds = changed_at no_modes p.holds object.index (marked mode held) })

-- once it is of a type
abbrev pub running : ProgramType → Option Process → Option Process
running type None = None
running type (Some p) = Some (record { owner = p.owner; label = p.label; runs = type; holds = p.holds })

-- an object once it has a length
abbrev pub long : ℕ → Option Object → Option Object
long length None = None
long length (Some o) =
    Some (record { kind = o.kind; home = o.home; label = o.label; category = o.category; program = o.program; content = o.content; length = length })

abbrev pub changed : Tables → Change → Tables
changed t Nothing = t
changed t (Seat seat process) = with_process t seat (λ _. process)
changed t (Become seat type) = with_process t seat (running type)
changed t (Hold seat object mode truncate) =
    with_process (cond truncate (with_object t object (long 0)) t) seat (holding object mode true)
changed t (LetGo seat object mode) = with_process t seat (holding object mode false)
changed t (Length object length) = with_object t object (long length)
changed t (Put object thing) = with_object t object (λ _. thing)
