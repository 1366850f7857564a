-- The two policies that go by the owner's system role.
use Rattle.std.specs.Prelude.{Bool, cond, ◌&&◌, ◌||◌, [], ◌∷◌}
use Rattle.policy.specs.declared.record.Record.{Record}
use Rattle.policy.specs.declared.words.Request.TheVariants.{Alias, Alter, ChangeOwner, ChangeRole, Clone, Create, Delete, DeleteData, ModifyAccessData, ModifyAttribute, ModifyPermissionsData, ReadAttribute, ReadWriteOpen, SendSignal, Terminate, Trace, Write, WriteOpen, Enter}
use Rattle.policy.specs.declared.words.SystemRole.TheVariants.{SecurityOfficer, Administrator}
use Rattle.policy.specs.declared.words.Category.TheVariants.{General, Security, System}
use Rattle.policy.specs.declared.words.DataType.TheVariants.{Si}
use Rattle.policy.specs.declared.words.Verdict.{Verdict}
use Rattle.policy.specs.declared.words.Verdict.TheVariants.{DontCare, Yes, Undefined}
use Rattle.policy.specs.Words.{yes_or_no}
use Rattle.policy.specs.Records.{asks, role_is, category_is, content_is}
use Rattle.policy.specs.Leaves.{Leaf, steady}

-- general objects suit everyone, security objects the security officer, system objects the administrator
abbrev pub suits : Record → Bool
suits q = category_is q General || ((category_is q Security && role_is q SecurityOfficer) || (category_is q System && role_is q Administrator))

abbrev pub functional_control : Record → Verdict
functional_control q =
    cond (asks q (ChangeRole ∷ ModifyAttribute ∷ [])) Undefined
    (cond (asks q (Clone ∷ ReadAttribute ∷ SendSignal ∷ Terminate ∷ Trace ∷ [])) Yes
    (cond (asks q (Enter ∷ [])) DontCare
    (yes_or_no (suits q))))

abbrev pub functional_control_leaf : Leaf
functional_control_leaf = steady 3 functional_control

-- the requests by which security information would be changed or moved
abbrev pub touches : Record → Bool
touches q =
    asks q (Alias ∷ Alter ∷ ChangeOwner ∷ Create ∷ Delete ∷ DeleteData ∷ ModifyAccessData ∷ ModifyPermissionsData ∷ ReadWriteOpen ∷ Write ∷ WriteOpen ∷ [])

abbrev pub security_information : Record → Verdict
security_information q =
    cond (asks q (ChangeRole ∷ ModifyAttribute ∷ [])) Undefined
    (cond (touches q && content_is q Si) (yes_or_no (role_is q SecurityOfficer))
    DontCare)

abbrev pub security_information_leaf : Leaf
security_information_leaf = steady 4 security_information
