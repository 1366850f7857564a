-- The number of each word that a record and its answer are told in, and how verdicts are joined.
use Rattle.std.specs.Prelude.{ℕ, Bool, true, false, cond, List, [], ◌∷◌, nat_lt}
use Rattle.policy.specs.declared.words.Request.{Request}
use Rattle.policy.specs.declared.words.Request.TheVariants.{Alias, Alter, ChangeOwner, ChangeRole, Clone, Create, Delete, DeleteData, Execute, GetPermissionsData, GetStatusData, ModifyAccessData, ModifyAttribute, ModifyPermissionsData, Read, ReadAttribute, ReadWriteOpen, ReadOpen, Search, SendSignal, Terminate, Trace, Write, WriteOpen, Enter}
use Rattle.policy.specs.declared.words.Kind.{Kind}
use Rattle.policy.specs.declared.words.Kind.TheVariants.{NoObject, File, Directory, Ipc, ControlData}
use Rattle.policy.specs.declared.words.SystemRole.{SystemRole}
use Rattle.policy.specs.declared.words.IntegrityRole.{IntegrityRole}
use Rattle.policy.specs.declared.words.ProgramType.{ProgramType}
use Rattle.policy.specs.declared.words.Category.{Category}
use Rattle.policy.specs.declared.words.DataType.{DataType}
use Rattle.policy.specs.declared.words.Verdict.{Verdict}
use Rattle.policy.specs.declared.words.Verdict.TheVariants.{DontCare, Yes, No, Undefined}

abbrev pub request_number : Request → ℕ
request_number Alias = 1
request_number Alter = 2
request_number ChangeOwner = 3
request_number ChangeRole = 4
request_number Clone = 5
request_number Create = 6
request_number Delete = 7
request_number DeleteData = 8
request_number Execute = 9
request_number GetPermissionsData = 10
request_number GetStatusData = 11
request_number ModifyAccessData = 12
request_number ModifyAttribute = 13
request_number ModifyPermissionsData = 14
request_number Read = 15
request_number ReadAttribute = 16
request_number ReadWriteOpen = 17
request_number ReadOpen = 18
request_number Search = 19
request_number SendSignal = 20
request_number Terminate = 21
request_number Trace = 22
request_number Write = 23
request_number WriteOpen = 24
request_number Enter = 25

abbrev pub kind_number : Kind → ℕ
kind_number NoObject = 0
kind_number File = 1
kind_number Directory = 2
kind_number Ipc = 3
kind_number ControlData = 4

abbrev pub role_number : SystemRole → ℕ
role_number SystemRole.User = 0
role_number SystemRole.SecurityOfficer = 1
role_number SystemRole.Administrator = 2

abbrev pub integrity_number : IntegrityRole → ℕ
integrity_number IntegrityRole.Nil = 0
integrity_number IntegrityRole.TpUser = 1
integrity_number IntegrityRole.TpManager = 2
integrity_number IntegrityRole.IvpUser = 3
integrity_number IntegrityRole.IvpManager = 4

abbrev pub program_number : ProgramType → ℕ
program_number ProgramType.Nil = 0
program_number ProgramType.Tp = 1
program_number ProgramType.Ivp = 2
program_number ProgramType.Tpicd = 3

abbrev pub category_number : Category → ℕ
category_number Category.General = 0
category_number Category.Security = 1
category_number Category.System = 2

abbrev pub content_number : DataType → ℕ
content_number DataType.Nil = 0
content_number DataType.Cdi = 1
content_number DataType.Cdiic = 2
content_number DataType.Si = 3

abbrev pub verdict_number : Verdict → ℕ
verdict_number DontCare = 0
verdict_number Yes = 1
verdict_number No = 2
verdict_number Undefined = 3

-- every request and every kind, by number
abbrev pub requests : List Request
requests =
    Alias ∷ Alter ∷ ChangeOwner ∷ ChangeRole ∷ Clone ∷ Create ∷ Delete ∷ DeleteData ∷ Execute ∷ GetPermissionsData ∷ GetStatusData ∷ ModifyAccessData
    ∷ ModifyAttribute ∷ ModifyPermissionsData ∷ Read ∷ ReadAttribute ∷ ReadWriteOpen ∷ ReadOpen ∷ Search ∷ SendSignal ∷ Terminate ∷ Trace ∷ Write
    ∷ WriteOpen ∷ Enter ∷ []

abbrev pub kinds : List Kind
kinds = NoObject ∷ File ∷ Directory ∷ Ipc ∷ ControlData ∷ []

-- the other words, by number
abbrev pub system_roles : List SystemRole
system_roles = SystemRole.User ∷ SystemRole.SecurityOfficer ∷ SystemRole.Administrator ∷ []

abbrev pub integrity_roles : List IntegrityRole
integrity_roles = IntegrityRole.Nil ∷ IntegrityRole.TpUser ∷ IntegrityRole.TpManager ∷ IntegrityRole.IvpUser ∷ IntegrityRole.IvpManager ∷ []

abbrev pub program_types : List ProgramType
program_types = ProgramType.Nil ∷ ProgramType.Tp ∷ ProgramType.Ivp ∷ ProgramType.Tpicd ∷ []

abbrev pub categories : List Category
categories = Category.General ∷ Category.Security ∷ Category.System ∷ []

abbrev pub data_types : List DataType
data_types = DataType.Nil ∷ DataType.Cdi ∷ DataType.Cdiic ∷ DataType.Si ∷ []

abbrev pub yes_or_no : Bool → Verdict
yes_or_no holds = cond holds Yes No

-- joining two verdicts takes the greater
abbrev pub greater : Verdict → Verdict → Verdict
greater v w = cond (nat_lt (verdict_number v) (verdict_number w)) w v

-- a verdict that lets the request through
abbrev pub grants : Verdict → Bool
grants DontCare = true
grants Yes = true
grants No = false
grants Undefined = false
