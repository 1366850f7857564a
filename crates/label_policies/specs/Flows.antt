-- Which requests let a process learn of an object and which let it change one, and what the labels then owe.
-- Reading and writing an open file or ipc object are neither: the labels were compared when it was opened.
use Rattle.std.specs.Prelude.{◌≡◌, ℕ, Bool, true, ◌&&◌, ◌||◌, [], ◌∷◌, ◌==◌}
use Rattle.labels.specs.Orders.{Order}
use Rattle.policy.specs.Words.{request_number, kind_number}
use Rattle.policy.specs.Records.{is_one_of}
use Rattle.policy.specs.declared.words.Request.{Request}
use Rattle.policy.specs.declared.words.Request.TheVariants.{Alter, ChangeOwner, Create, Delete, DeleteData, Execute, GetPermissionsData, GetStatusData, ModifyAccessData, ModifyPermissionsData, Read, ReadWriteOpen, ReadOpen, Search, SendSignal, Write, WriteOpen, Enter}
use Rattle.policy.specs.declared.words.Kind.{Kind}
use Rattle.policy.specs.declared.words.Kind.TheVariants.{Directory}
use Rattle.policy.specs.declared.words.Verdict.{Verdict}
use Rattle.policy.specs.declared.words.Verdict.TheVariants.{Yes}

-- the request and kind of these numbers are this request on a directory
abbrev pub on_directory : Request → ℕ → ℕ → Bool
on_directory request n k = n == request_number request && k == kind_number Directory

-- by their numbers: the request on the kind lets a process learn; who enters learns of all that the label asked for covers
abbrev pub learning : ℕ → ℕ → Bool
learning n k =
    is_one_of n (Alter ∷ Execute ∷ GetPermissionsData ∷ GetStatusData ∷ ReadWriteOpen ∷ ReadOpen ∷ Search ∷ Enter ∷ []) || on_directory Read n k

-- and lets it change an object
abbrev pub changing : ℕ → ℕ → Bool
changing n k =
    is_one_of n (Alter ∷ ChangeOwner ∷ Create ∷ Delete ∷ DeleteData ∷ ModifyAccessData ∷ ModifyPermissionsData ∷ ReadWriteOpen ∷ SendSignal ∷ WriteOpen ∷ [])
    || on_directory Write n k

abbrev pub learns : Request → Kind → Bool
learns request kind = learning (request_number request) (kind_number kind)

abbrev pub changes : Request → Kind → Bool
changes request kind = changing (request_number request) (kind_number kind)

-- a process that is let learn of an object dominates it
abbrev pub LearnerDominates : Order → Request → Kind → ℕ → ℕ → Verdict → Type 0
LearnerDominates order request kind process object verdict = learns request kind ≡ true → verdict ≡ Yes → order.dominates process object ≡ true

-- an object that a process is let change dominates it
abbrev pub ChangedDominates : Order → Request → Kind → ℕ → ℕ → Verdict → Type 0
ChangedDominates order request kind process object verdict = changes request kind ≡ true → verdict ≡ Yes → order.dominates object process ≡ true
