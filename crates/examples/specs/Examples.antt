-- Eight marked examples as one table: to each question its answer.
use Rattle.std.specs.Prelude.{◌≡◌, ℕ, ◌-◌, true, false, cond, ◌&&◌, T, List, [], ◌∷◌, map, Some, Ok, Err, Result, nat_le, nat_lt, codes}
use Rattle.std.proofs.Common.{lit≤}
use Rattle.labels.specs.Orders.{Order, ladder, compartments}
use Rattle.policy.specs.declared.place.Place.{Place}
use Rattle.policy.specs.declared.refusal.Refusal.{Refusal}
use Rattle.policy.specs.declared.record.Record.{Record}
use Rattle.policy.specs.declared.record.Subject.{Subject}
use Rattle.policy.specs.declared.record.Target.{Target}
use Rattle.policy.specs.declared.words.Request.{Request}
use Rattle.policy.specs.declared.words.Request.TheVariants.{ReadOpen, WriteOpen, Execute}
use Rattle.policy.specs.declared.words.Kind.{Kind}
use Rattle.policy.specs.declared.words.Kind.TheVariants.{File, Ipc}
use Rattle.policy.specs.declared.words.SystemRole.TheVariants.{User}
use Rattle.policy.specs.declared.words.IntegrityRole.TheVariants.{TpUser}
use Rattle.policy.specs.declared.words.ProgramType.{ProgramType}
use Rattle.policy.specs.declared.words.Category.TheVariants.{General}
use Rattle.policy.specs.declared.words.DataType.{DataType}
use Rattle.policy.specs.declared.words.Verdict.TheVariants.{DontCare, Yes, No, Undefined}
use Rattle.policy.specs.Names.{verdict_name}
use Rattle.policy.specs.Leaves.{Leaf, moved, silent}
use Rattle.roles.specs.Roles.{security_information_leaf}
use Rattle.label_policies.specs.LabelPolicy.{label_leaf}
use Rattle.associations.specs.declared.associations.Associations.{Associations}
use Rattle.triples.specs.Triples.{chart_of, no_candidates, triples_leaf}
use Rattle.examples.specs.declared.marked.Answer.{Answer}
use Rattle.examples.specs.declared.marked.Answer.TheVariants.{Holds, Says}
use Rattle.examples.specs.Chains.{three_chains}

-- as it is printed
abbrev pub answer_words : Answer → List ℕ
answer_words (Holds true) = codes "yes"
answer_words (Holds false) = codes "no"
answer_words (Says verdict) = verdict_name verdict

pub data Question : Type 0 where
  -- is the code lawful
  lawful : Order → ℕ → Question
  -- does the first code dominate the second
  dominates : Order → ℕ → ℕ → Question
  -- what the leaf says of the record asked, after these were noted
  verdict : Leaf → List Record → Record → Question

abbrev pub answer_to : Question → Answer
answer_to (lawful order code) = Holds (order.lawful code)
answer_to (dominates order a b) = Holds (order.dominates a b)
answer_to (verdict leaf noted asked) = Says (leaf.book noted asked)

-- the place of a number within its range
abbrev numbered : {N : ℕ} (number : ℕ) → T (nat_lt (number - 1) N) → Place N
numbered number inside = record { index = number - 1; within = lit≤ inside }

-- user 1, who may run transformation procedures, in seat 1
abbrev router : ProgramType → ℕ → Subject
router runs label = record { seat = numbered 1 tt; owner = numbered 1 tt; role = User; integrity = TpUser; label = label; runs = runs }

abbrev object : Place 64 → Kind → ProgramType → DataType → ℕ → Target
object place kind program content label = record { object = Some place; kind = kind; label = label; category = General; program = program; content = content }

-- a plain process at 131,075 and object 1 at 65,537
abbrev labelled : Request → Kind → Record
labelled request kind = record {
  request = request;
  subject = router ProgramType.Nil 131075;
  target = object (numbered 1 tt) kind ProgramType.Nil DataType.Nil 65537;
}

-- security information at the user's own label
abbrev informed : Request → Record
informed request = record {
  request = request;
  subject = router ProgramType.Nil 65537;
  target = object (numbered 1 tt) File ProgramType.Nil DataType.Si 65537;
}

-- the release routine, object 10, begins
abbrev begin : Record
begin = record {
  request = Execute;
  subject = router ProgramType.Nil 65537;
  target = object (numbered 10 tt) File ProgramType.Tp DataType.Nil 65537;
}

-- and opens an item
abbrev open_item : Place 64 → Record
open_item item = record {
  request = ReadOpen;
  subject = router ProgramType.Tp 65537;
  target = object item File ProgramType.Nil DataType.Cdi 65537;
}

-- leaves once these records have been noted, the oldest first
abbrev pub moved_by : List Record → List Leaf → List Leaf
moved_by [] leaves = leaves
moved_by (noted ∷ later) leaves = moved_by later (map (moved noted) leaves)

abbrev pub made_from : Result Associations Refusal → Leaf
made_from (Ok associations) = triples_leaf (chart_of associations) no_candidates
made_from (Err e) = silent

pub record Example : Type 0 where
  pub mark : ℕ
  pub question : Question
  pub answer : Answer

abbrev example : ℕ → Question → Answer → Example
example mark question answer = record { mark = mark; question = question; answer = answer }

abbrev pub examples : List Example
examples =
    example 1 (dominates compartments 131075 65537) (Holds true)
    ∷ example 2 (dominates compartments 131074 65537) (Holds false)
    ∷ example 2 (dominates compartments 65537 131074) (Holds false)
    ∷ example 3 (lawful (ladder 4) 3) (Holds true)
    ∷ example 3 (lawful (ladder 4) 4) (Holds false)
    ∷ example 4 (lawful compartments 16777215) (Holds true)
    ∷ example 4 (lawful compartments 16777216) (Holds false)
    ∷ example 5 (verdict (label_leaf compartments) [] (labelled ReadOpen File)) (Says Yes)
    ∷ example 5 (verdict (label_leaf compartments) [] (labelled WriteOpen File)) (Says No)
    ∷ example 6 (verdict (label_leaf compartments) [] (labelled ReadOpen Ipc)) (Says Undefined)
    ∷ example 7 (verdict (made_from three_chains) (begin ∷ open_item (numbered 2 tt) ∷ open_item (numbered 3 tt) ∷ []) (open_item (numbered 1 tt))) (Says No)
    ∷ example 8 (verdict security_information_leaf [] (informed WriteOpen)) (Says No)
    ∷ example 8 (verdict security_information_leaf [] (informed ReadOpen)) (Says DontCare)
    ∷ []

-- the answers of the examples with these marks, from the first to the last
abbrev answers_in : ℕ → ℕ → List Example → List Answer
answers_in first last [] = []
answers_in first last (e ∷ more) = cond (nat_le first e.mark && nat_le e.mark last) (e.answer ∷ answers_in first last more) (answers_in first last more)

abbrev pub answers : ℕ → ℕ → List Answer
answers first last = answers_in first last examples

-- by the definitions, each question has the answer beside it
abbrev pub ExamplesHold : Type 0
ExamplesHold = map (λ e. answer_to e.question) examples ≡ map (λ e. e.answer) examples
