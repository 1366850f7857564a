-- What is printed for requests, kinds, verdicts and refusals.
use Rattle.std.specs.Prelude.{ℕ, List, ◌++◌, codes, decimal}
use Rattle.policy.specs.declared.words.Request.{Request}
use Rattle.policy.specs.declared.words.Request.TheVariants.{Alias, Alter, ChangeOwner, ChangeRole, Clone, Create, Delete, DeleteData, Execute, GetPermissionsData, GetStatusData, ModifyAccessData, ModifyAttribute, ModifyPermissionsData, Read, ReadAttribute, ReadWriteOpen, ReadOpen, Search, SendSignal, Terminate, Trace, Write, WriteOpen, Enter}
use Rattle.policy.specs.declared.words.Kind.{Kind}
use Rattle.policy.specs.declared.words.Kind.TheVariants.{NoObject, File, Directory, Ipc, ControlData}
use Rattle.policy.specs.declared.words.Verdict.{Verdict}
use Rattle.policy.specs.declared.words.Verdict.TheVariants as verdict
use Rattle.policy.specs.declared.refusal.Refusal.{Refusal}
use Rattle.policy.specs.declared.refusal.Refusal.TheVariants.{OutOfRange, SeatEmpty, SeatTaken, NoSuchUser, ObjectUnused, ObjectInUse, NoSuchHome, Held, HomeOfAnother, NotHeldSo, HeldSoAlready, WrongKind, SetTwice, CellNotSet, Denied, Undefined}

abbrev pub request_name : Request → List ℕ
request_name Alias = codes "alias"
request_name Alter = codes "alter"
request_name ChangeOwner = codes "change-owner"
request_name ChangeRole = codes "change-role"
request_name Clone = codes "clone"
request_name Create = codes "create"
request_name Delete = codes "delete"
request_name DeleteData = codes "delete-data"
request_name Execute = codes "execute"
request_name GetPermissionsData = codes "get-permissions-data"
request_name GetStatusData = codes "get-status-data"
request_name ModifyAccessData = codes "modify-access-data"
request_name ModifyAttribute = codes "modify-attribute"
request_name ModifyPermissionsData = codes "modify-permissions-data"
request_name Read = codes "read"
request_name ReadAttribute = codes "read-attribute"
request_name ReadWriteOpen = codes "read&write-open"
request_name ReadOpen = codes "read-open"
request_name Search = codes "search"
request_name SendSignal = codes "send-signal"
request_name Terminate = codes "terminate"
request_name Trace = codes "trace"
request_name Write = codes "write"
request_name WriteOpen = codes "write-open"
request_name Enter = codes "enter"

abbrev pub kind_name : Kind → List ℕ
kind_name NoObject = codes "no object"
kind_name File = codes "file"
kind_name Directory = codes "directory"
kind_name Ipc = codes "ipc"
kind_name ControlData = codes "scd"

abbrev pub verdict_name : Verdict → List ℕ
verdict_name verdict.DontCare = codes "DC"
verdict_name verdict.Yes = codes "YES"
verdict_name verdict.No = codes "NO"
verdict_name verdict.Undefined = codes "UNDEFINED"

abbrev pub refusal_words : Refusal → List ℕ
refusal_words (OutOfRange position) = codes "the number at position " ++ decimal position ++ codes " is outside its range"
refusal_words SeatEmpty = codes "the seat is empty"
refusal_words SeatTaken = codes "the seat is taken"
refusal_words NoSuchUser = codes "there is no such user"
refusal_words ObjectUnused = codes "the object is not in use"
refusal_words ObjectInUse = codes "the object is in use"
refusal_words NoSuchHome = codes "the home is neither 0 nor a directory in use"
refusal_words Held = codes "some seat holds the object"
refusal_words HomeOfAnother = codes "an object in use has it as its home"
refusal_words NotHeldSo = codes "the object is not held in that mode"
refusal_words HeldSoAlready = codes "the object is held in that mode already"
refusal_words WrongKind = codes "the object is of the wrong kind"
refusal_words SetTwice = codes "it is set already"
refusal_words CellNotSet = codes "the cell is not set"
refusal_words (Denied request policy) = request_name request ++ codes " is denied (policy " ++ decimal policy ++ codes ")"
refusal_words (Undefined request policy) = request_name request ++ codes " has no rule (policy " ++ decimal policy ++ codes ")"
