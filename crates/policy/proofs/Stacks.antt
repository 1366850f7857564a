-- What the leaves of a stack say, from what those of its two policies say.
use Rattle.std.proofs.Common.{◌≡◌, ℕ, Bool, true, false, cond, ltb, List, [], ◌∷◌, ◌++◌, sym, refl, ap, ◌∙◌, subst, inl, inr, arith}
use Rattle.policy.specs.declared.record.Record.{Record}
use Rattle.policy.specs.declared.words.Verdict.{Verdict}
use Rattle.policy.specs.declared.words.Verdict.TheVariants.{DontCare, Yes, No, Undefined}
use Rattle.policy.specs.Words.{greater, verdict_number}
use Rattle.policy.specs.Leaves.{Leaf, says, joined, SaidBy, Named, Judged, prevailing}

greater_none : (v : Verdict) → greater DontCare v ≡ v
greater_none v = grind arith

greater_assoc : (u v w : Verdict) → greater (greater u v) w ≡ greater u (greater v w)
greater_assoc u v w = grind arith

module _ (asked : Record) where
  joined_append : (ls ms : List Leaf) → joined (ls ++ ms) asked ≡ greater (joined ls asked) (joined ms asked)
  joined_append [] ms = sym (greater_none (joined ms asked))
  joined_append (l ∷ ls) ms =
      ap (greater (says l asked)) (joined_append ls ms) ∙ sym (greater_assoc (says l asked) (joined ls asked) (joined ms asked))

  said_above : (v : Verdict) (n : ℕ) (ls ms : List Leaf) → SaidBy ls asked v n → SaidBy (ls ++ ms) asked v n
  said_above v n [] ms s = absurd s
  said_above v n (l ∷ ls) ms (inl here) = inl here
  said_above v n (l ∷ ls) ms (inr later) = inr (said_above v n ls ms later)

  said_below : (v : Verdict) (n : ℕ) (ls ms : List Leaf) → SaidBy ms asked v n → SaidBy (ls ++ ms) asked v n
  said_below v n [] ms s = s
  said_below v n (l ∷ ls) ms s = inr (said_below v n ls ms s)

  -- a name stays a name among more leaves, where whatever some leaf of them says is still said
  named_still : (ls ms : List Leaf) → ((v : Verdict) (n : ℕ) → SaidBy ls asked v n → SaidBy ms asked v n)
      → (v : Verdict) (n : ℕ) → Named ls asked v n → Named ms asked v n
  named_still ls ms more DontCare n h = h
  named_still ls ms more Yes n h = more Yes n h
  named_still ls ms more No n h = more No n h
  named_still ls ms more Undefined n h = more Undefined n h

  module _ (ls ms : List Leaf) (a b : Verdict × ℕ) (h : Judged ls asked a) (k : Judged ms asked b) where
    together : greater a.0 b.0 ≡ joined (ls ++ ms) asked
    together = ap (λ v. greater v b.0) h.verdict ∙ ap (greater (joined ls asked)) k.verdict ∙ sym (joined_append ls ms)

    chosen : (t : Bool) → ltb (verdict_number a.0) (verdict_number b.0) ≡ t → Judged (ls ++ ms) asked (cond t b a)
    chosen true e = record {
      verdict = sym (ap (λ z. cond z b.0 a.0) e) ∙ together;
      named = named_still ms (ls ++ ms) (λ v n. said_below v n ls ms) b.0 b.1 k.named;
    }
    chosen false e = record {
      verdict = sym (ap (λ z. cond z b.0 a.0) e) ∙ together;
      named = named_still ls (ls ++ ms) (λ v n. said_above v n ls ms) a.0 a.1 h.named;
    }

  pub stacked : (ls ms : List Leaf) (a b r : Verdict × ℕ) → Judged ls asked a → Judged ms asked b → r ≡ prevailing a b → Judged (ls ++ ms) asked r
  stacked ls ms a b r h k e =
      subst (Judged (ls ++ ms) asked) (sym e) (chosen ls ms a b h k (ltb (verdict_number a.0) (verdict_number b.0)) refl)
