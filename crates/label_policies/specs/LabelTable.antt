-- The rows of the label table, kind by kind, and the table that a list of rows lays out.
use Rattle.std.specs.Prelude.{ℕ, Bool, cond, ◌&&◌, List, [], ◌∷◌, ◌++◌, map, Some, None, Option, ◌==◌}
use Rattle.std.specs.List.{range_with_len}
use Rattle.policy.specs.Words.{request_number, kind_number}
use Rattle.policy.specs.declared.words.Request.{Request}
use Rattle.policy.specs.declared.words.Request.TheVariants.{Alter, ChangeOwner, Clone, Create, Delete, DeleteData, Execute, GetPermissionsData, GetStatusData, ModifyAccessData, ModifyPermissionsData, Read, ReadWriteOpen, ReadOpen, Search, SendSignal, Write, WriteOpen, Enter}
use Rattle.policy.specs.declared.words.Kind.{Kind}
use Rattle.policy.specs.declared.words.Kind.TheVariants.{NoObject, File, Directory, Ipc, ControlData}
use Rattle.label_policies.specs.declared.label_table.Condition.{Condition}
use Rattle.label_policies.specs.declared.label_table.Condition.TheVariants.{Free, Equal, Dominates}
use Rattle.label_policies.specs.declared.label_table.Row.{Row}

-- on objects of this kind, these requests need this
abbrev needing : Kind → Condition → List Request → List Row
needing kind condition requests = map (λ request. record { request = request; kind = kind; condition = condition }) requests

-- the rows for access
abbrev pub access_rows : List Row
access_rows =
    needing File Equal (Create ∷ Delete ∷ DeleteData ∷ ReadWriteOpen ∷ WriteOpen ∷ [])
    ++ needing File Dominates (Execute ∷ ReadOpen ∷ [])
    ++ needing File Free (Read ∷ Write ∷ [])
    ++ needing Directory Equal (Create ∷ Delete ∷ Write ∷ [])
    ++ needing Directory Dominates (Read ∷ Search ∷ [])
    ++ needing Ipc Equal (Alter ∷ Create ∷ Delete ∷ ReadWriteOpen ∷ [])
    ++ needing Ipc Free (Read ∷ Write ∷ [])
    ++ needing ControlData Equal (ChangeOwner ∷ Create ∷ Delete ∷ ModifyAccessData ∷ ModifyPermissionsData ∷ [])
    ++ needing ControlData Dominates (GetPermissionsData ∷ GetStatusData ∷ [])
    ++ needing NoObject Free (Clone ∷ [])
    ++ needing NoObject Equal (SendSignal ∷ [])

-- and the one for entering: here the process's label is the user's approval, the object's is the label asked for
abbrev pub enter_rows : List Row
enter_rows = needing NoObject Dominates (Enter ∷ [])

abbrev pub rows : List Row
rows = access_rows ++ enter_rows

-- the row is that of the request and the kind with these numbers
abbrev pub stands_at : ℕ → ℕ → Row → Bool
stands_at request kind row = request_number row.request == request && kind_number row.kind == kind

-- the condition of the row at a request and a kind, by their numbers; none where no row stands there
abbrev pub found : List Row → ℕ → ℕ → Option Condition
found [] request kind = None
found (row ∷ more) request kind = cond (stands_at request kind row) (Some row.condition) (found more request kind)

unfoldable pub condition_in : List Row → Request → Kind → Option Condition
condition_in ws request kind = found ws (request_number request) (kind_number kind)

-- a line for each request from the first, in it a place for each kind from none
abbrev pub laid_out : List Row → List (List (Option Condition))
laid_out ws = map (λ request. map (found ws request) (range_with_len 0 5)) (range_with_len 1 25)
