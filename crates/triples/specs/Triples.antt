-- The triples policy: which rows are a seat's candidates after what was noted, and the verdict that follows.
use Rattle.std.specs.Prelude.{ℕ, Bool, false, cond, not, ◌&&◌, ◌||◌, List, [], ◌∷◌, Some, None, Option, ◌==◌}
use Rattle.policy.specs.declared.place.Place.{Place}
use Rattle.policy.specs.declared.record.Record.{Record}
use Rattle.policy.specs.declared.words.Request.TheVariants.{Alias, ChangeOwner, ChangeRole, Clone, Delete, DeleteData, Execute, GetPermissionsData, GetStatusData, ModifyAccessData, ModifyAttribute, ModifyPermissionsData, ReadAttribute, ReadWriteOpen, ReadOpen, Terminate, Trace, WriteOpen}
use Rattle.policy.specs.declared.words.Kind.TheVariants.{File}
use Rattle.policy.specs.declared.words.IntegrityRole.TheVariants.{TpUser, TpManager, IvpUser, IvpManager}
use Rattle.policy.specs.declared.words.ProgramType.TheVariants.{Nil, Tp, Ivp, Tpicd}
use Rattle.policy.specs.declared.words.DataType.TheVariants.{Cdi, Cdiic}
use Rattle.policy.specs.declared.words.Verdict.{Verdict}
use Rattle.policy.specs.declared.words.Verdict.TheVariants.{DontCare, Yes, No, Undefined}
use Rattle.policy.specs.Words.{program_number, yes_or_no}
use Rattle.policy.specs.Records.{asks, integrity_is, runs, kind_is, program_is, content_is}
use Rattle.policy.specs.Leaves.{Leaf}
use Rattle.associations.specs.declared.rows.Row.{Row}
use Rattle.associations.specs.declared.associations.Associations.{Associations}
use Rattle.associations.specs.Associations.{row_at, row_lists}
use Rattle.triples.specs.RowSets.{any_below}

-- what the rows say, by a row's place in their table
pub record Chart : Type 0 where
  -- the row is of this user and this procedure
  pub assigned : ℕ → Place 16 → Place 64 → Bool
  -- the row lists this item
  pub lists : ℕ → Place 64 → Bool

abbrev pub row_assigned : Option Row → Place 16 → Place 64 → Bool
row_assigned None user procedure = false
row_assigned (Some row) user procedure = row.user.index == user.index && row.procedure.index == procedure.index

abbrev pub row_has : Associations → Option Row → Place 64 → Bool
row_has a None item = false
row_has a (Some row) item = row_lists a.cells row item

-- what the rows and cells of associations say
abbrev pub chart_of : Associations → Chart
chart_of a = record {
  assigned = λ row user procedure. row_assigned (row_at a.rows row) user procedure;
  lists = λ row item. row_has a (row_at a.rows row) item;
}

-- the candidates of each seat: rows, by their places
abbrev pub Candidates : Type 0
Candidates = ℕ → ℕ → Bool

abbrev pub no_candidates : Candidates
no_candidates seat row = false

abbrev pub passes : Option (Place 64) → (Place 64 → Bool) → Bool
passes None test = false
passes (Some object) test = test object

module _ (chart : Chart) (q : Record) (row : ℕ) where
  -- the row is of the record's user and object
  abbrev pub is_of : Bool
  is_of = passes q.target.object (λ object. chart.assigned row q.subject.owner object)

  -- the row lists the record's object
  abbrev pub lists_object : Bool
  lists_object = passes q.target.object (λ object. chart.lists row object)

module _ (q : Record) where
  abbrev pub opens : Bool
  opens = asks q (DeleteData ∷ ReadWriteOpen ∷ ReadOpen ∷ WriteOpen ∷ [])

  -- a process of no type executes a transformation procedure
  abbrev pub begins : Bool
  begins = asks q (Execute ∷ []) && (runs q Nil && program_is q Tp)

  -- a constrained item is opened
  abbrev pub takes_item : Bool
  takes_item = opens && content_is q Cdi

-- ---- what a noted record does to the candidates of its seat

-- whether a row is a candidate once the record has been noted, from whether it was
abbrev pub candidate_after : Chart → Record → ℕ → Bool → Bool
candidate_after chart noted row was =
    cond (begins noted) (is_of chart noted row)
    (cond (takes_item noted) (was && lists_object chart noted row)
    (cond (asks noted (Terminate ∷ [])) false
    was))

abbrev pub narrowed : Chart → Record → Candidates → Candidates
narrowed chart noted candidates seat row =
    cond (seat == noted.subject.seat.index) (candidate_after chart noted row (candidates seat row)) (candidates seat row)

-- by all that was noted, the oldest first
abbrev pub narrowed_by : Chart → Candidates → List Record → Candidates
narrowed_by chart candidates [] = candidates
narrowed_by chart candidates (noted ∷ later) = narrowed_by chart (narrowed chart noted candidates) later

-- ---- the verdict, by lines: in each the first that fits decides

abbrev pub clone_verdict : Record → Verdict
clone_verdict q = cond (runs q Nil) DontCare No

-- looking after programs and data that integrity rests on
abbrev pub manage_verdict : Record → Verdict
manage_verdict q =
    cond (program_is q Tp || (program_is q Tpicd || content_is q Cdi)) (yes_or_no (integrity_is q TpManager))
    (cond (program_is q Ivp || content_is q Cdiic) (yes_or_no (integrity_is q IvpManager))
    DontCare)

abbrev pub give_away_verdict : Record → Verdict
give_away_verdict q = cond (not (program_is q Nil) || (content_is q Cdi || content_is q Cdiic)) No DontCare

module _ (chart : Chart) (candidate : ℕ → Bool) (q : Record) where
  -- some row is of the user and the object
  abbrev pub has_row : Bool
  has_row = any_below (is_of chart q) 32

  -- some candidate lists the object
  abbrev pub is_listed : Bool
  is_listed = any_below (λ row. candidate row && lists_object chart q row) 32

  abbrev pub execute_verdict : Verdict
  execute_verdict =
      cond (runs q Nil && program_is q Nil) DontCare
      (cond (program_number q.subject.runs == program_number q.target.program) Yes
      (cond (runs q Nil && (program_is q Tp && (integrity_is q TpUser && has_row))) Yes
      (cond (runs q Nil && (program_is q Ivp && integrity_is q IvpUser)) Yes
      (cond (runs q Nil && (program_is q Tpicd && integrity_is q TpManager)) Yes
      No))))

  abbrev pub open_verdict : Verdict
  open_verdict =
      cond (not (kind_is q File)) Undefined
      (cond (content_is q Cdi && (runs q Ivp || (runs q Tp && is_listed))) Yes
      (cond (content_is q Cdiic && runs q Tpicd) Yes
      No))

  abbrev pub triples_verdict : Verdict
  triples_verdict =
      cond (asks q (Clone ∷ [])) (clone_verdict q)
      (cond (asks q (Execute ∷ [])) execute_verdict
      (cond (opens q && (content_is q Cdi || content_is q Cdiic)) open_verdict
      (cond (asks q (Alias ∷ Delete ∷ GetPermissionsData ∷ GetStatusData ∷ ModifyAccessData ∷ ModifyPermissionsData ∷ [])) (manage_verdict q)
      (cond (asks q (ChangeOwner ∷ [])) (give_away_verdict q)
      (cond (asks q (ChangeRole ∷ ModifyAttribute ∷ ReadAttribute ∷ Trace ∷ [])) Undefined
      DontCare)))))

-- the policy with these candidates now: its verdict goes by those of the asking seat after what was noted
abbrev pub triples_leaf : Chart → Candidates → Leaf
triples_leaf chart candidates =
    record { number = 2; book = λ noted q. triples_verdict chart (narrowed_by chart candidates noted q.subject.seat.index) q }
