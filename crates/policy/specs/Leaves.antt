-- What a policy means: a list of leaves, each a number and a book.
use Rattle.std.specs.Prelude.{◌≡◌, ℕ, cond, ◌⊎◌, List, [], ◌∷◌, nat_lt}
use Rattle.policy.specs.declared.record.Record.{Record}
use Rattle.policy.specs.declared.words.Verdict.{Verdict}
use Rattle.policy.specs.declared.words.Verdict.TheVariants.{DontCare, Yes, No, Undefined}
use Rattle.policy.specs.Words.{greater, verdict_number}

-- one verdict for every list of records noted from now on, the oldest first, and every record asked after them
abbrev pub Book : Type 0
Book = List Record → Record → Verdict

pub record Leaf : Type 0 where
  pub number : ℕ
  pub book : Book

-- a leaf once a record has been noted
abbrev pub moved : Record → Leaf → Leaf
moved noted leaf = record { number = leaf.number; book = λ later asked. leaf.book (noted ∷ later) asked }

-- what a leaf says now
abbrev pub says : Leaf → Record → Verdict
says leaf asked = leaf.book [] asked

-- what the leaves say now, joined
abbrev pub joined : List Leaf → Record → Verdict
joined [] asked = DontCare
joined (leaf ∷ more) asked = greater (says leaf asked) (joined more asked)

-- some leaf of this number says this verdict
abbrev pub SaidBy : List Leaf → Record → Verdict → ℕ → Type 0
SaidBy [] asked verdict number = ⊥
SaidBy (leaf ∷ more) asked verdict number = ((says leaf asked ≡ verdict) × (leaf.number ≡ number)) ⊎ SaidBy more asked verdict number

-- the leaf that is named with the leaves' verdict: 0 where they do not care, else some leaf whose own verdict it is
abbrev pub Named : List Leaf → Record → Verdict → ℕ → Type 0
Named leaves asked DontCare number = number ≡ 0
Named leaves asked Yes number = SaidBy leaves asked Yes number
Named leaves asked No number = SaidBy leaves asked No number
Named leaves asked Undefined number = SaidBy leaves asked Undefined number

-- a policy's answer: the verdict of its leaves, and the leaf named
pub record Judged (leaves : List Leaf) (asked : Record) (answer : Verdict × ℕ) : Type 0 where
  pub verdict : answer.0 ≡ joined leaves asked
  pub named : Named leaves asked answer.0 answer.1

-- a leaf that says the same whatever was noted
abbrev pub steady : ℕ → (Record → Verdict) → Leaf
steady number rule = record { number = number; book = λ noted asked. rule asked }

-- the leaf that never cares
abbrev pub silent : Leaf
silent = steady 0 (λ asked. DontCare)

-- a verdict with the leaf that says it, and no leaf where it does not care
abbrev pub answered : Verdict → ℕ → Verdict × ℕ
answered DontCare number = (DontCare, 0)
answered Yes number = (Yes, number)
answered No number = (No, number)
answered Undefined number = (Undefined, number)

-- of two answers the second where its verdict is the greater, else the first
abbrev pub prevailing : Verdict × ℕ → Verdict × ℕ → Verdict × ℕ
prevailing first second = cond (nat_lt (verdict_number first.0) (verdict_number second.0)) second first
