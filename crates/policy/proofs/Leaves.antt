-- What one leaf answers.
use Rattle.std.proofs.Common.{◌≡◌, ℕ, [], ◌∷◌, sym, refl, ap, ◌∙◌, subst, inl, arith}
use Rattle.policy.specs.declared.record.Record.{Record}
use Rattle.policy.specs.declared.words.Verdict.{Verdict}
use Rattle.policy.specs.declared.words.Verdict.TheVariants.{DontCare, Yes, No, Undefined}
use Rattle.policy.specs.Words.{greater}
use Rattle.policy.specs.Leaves.{Leaf, says, Named, Judged, answered}

greater_alone : (v : Verdict) → greater v DontCare ≡ v
greater_alone v = grind arith

answered_verdict : (v : Verdict) (n : ℕ) → (answered v n).0 ≡ v
answered_verdict v n = grind arith

answered_name : (leaf : Leaf) (asked : Record) (v : Verdict) → v ≡ says leaf asked
    → Named (leaf ∷ []) asked (answered v leaf.number).0 (answered v leaf.number).1
answered_name leaf asked DontCare e = refl
answered_name leaf asked Yes e = inl (sym e, refl)
answered_name leaf asked No e = inl (sym e, refl)
answered_name leaf asked Undefined e = inl (sym e, refl)

-- a leaf's own verdict, with its number, is what the leaf alone answers
pub alone : (leaf : Leaf) (asked : Record) (v : Verdict) (r : Verdict × ℕ) → r ≡ answered v leaf.number → v ≡ says leaf asked → Judged (leaf ∷ []) asked r
alone leaf asked v r e s = subst (Judged (leaf ∷ []) asked) (sym e) (record {
  verdict = answered_verdict v leaf.number ∙ sym (greater_alone v) ∙ ap (λ w. greater w DontCare) s;
  named = answered_name leaf asked v s;
})
