-- The word of a number, inside its range and outside.
use Rattle.std.proofs.Common.{◌≡◌, ℕ, zero, suc, ◌-◌, ◌<◌, ◌≤◌, cond, List, [], ◌∷◌, length, get_or, Ok, Err, sym, refl, ap, ◌∙◌, arith}
use Rattle.std.proofs.lemmas.Bool.{eq-eqb, ne_eqb}
use Rattle.policy.specs.declared.refusal.Refusal.TheVariants.{OutOfRange}
use Rattle.policy.specs.Places.{word_numbered}

module _ {W : Type 0} (position : ℕ) where
  -- the first word, and the words behind it
  head_word : (w : W) (ws : List W) (first n : ℕ) → n ≡ first → Ok w ≡ word_numbered (w ∷ ws) first n position
  unfolding word_numbered
  head_word w ws first n e = sym (ap (λ b. cond b (Ok w) (word_numbered ws (suc first) n position)) (eq-eqb n first e))

  tail_word : (w : W) (ws : List W) (first n : ℕ) → (n ≡ first → ⊥) → word_numbered ws (suc first) n position ≡ word_numbered (w ∷ ws) first n position
  unfolding word_numbered
  tail_word w ws first n ne = sym (ap (λ b. cond b (Ok w) (word_numbered ws (suc first) n position)) (ne_eqb n first ne))

  pub word_inside : (ws : List W) (first n k : ℕ) (w : W) → first ≤ n → k ≡ n - first → k < length ws → w ≡ get_or ws k w → Ok w ≡ word_numbered ws first n position
  word_inside [] first n k w low e h is = absurd (omega arith)
  word_inside (v ∷ vs) first n zero w low e h is = ap Ok is ∙ head_word v vs first n (omega arith)
  word_inside (v ∷ vs) first n (suc k) w low e h is =
      word_inside vs (suc first) n k w (omega arith) (omega arith) (omega arith) is ∙ tail_word v vs first n (omega arith)

  pub word_outside : (ws : List W) (first n : ℕ) → (first ≤ n → n - first < length ws → ⊥) → Err (OutOfRange position) ≡ word_numbered ws first n position
  unfolding word_numbered
  word_outside [] first n out = refl
  word_outside (v ∷ vs) first n out =
      word_outside vs (suc first) n (λ low h. out (omega arith) (omega arith)) ∙ tail_word v vs first n (λ e. out (omega arith) (omega arith))
