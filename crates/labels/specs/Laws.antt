-- The laws of the two orders. Proofs, which the impls of the orders cite: nothing here says what is promised.
use Rattle.std.specs.Prelude.{◌≡◌, ℕ, ◌%◌, ◌≤◌, Bool, true, ◌&&◌, nat_le}
use Rattle.std.proofs.Common.{arith}
use Rattle.std.proofs.lemmas.Bool.{and_parts, and_from, leb-true, le-leb}
use Rattle.labels.specs.Orders.{OrderLaws, among_lawful, ladder, level, contains, compartments}
use Rattle.labels.specs.Sets.{Contains, contains_decides, same_set}

-- an order among lawful codes has the laws if its relation is reflexive, antisymmetric and transitive
module _ (lawful : ℕ → Bool) (above : ℕ → ℕ → Bool)
    (itself : (a : ℕ) → above a a ≡ true)
    (both_ways : (a b : ℕ) → above a b ≡ true → above b a ≡ true → a ≡ b)
    (onwards : (a b c : ℕ) → above a b ≡ true → above b c ≡ true → above a c ≡ true) where
  pub lawful_laws : OrderLaws (among_lawful lawful above)
  lawful_laws = record {
    only_lawful = λ a b h. grind arith;
    reflexive = λ a h. let i = itself a in grind arith;
    antisymmetric = λ a b h k. both_ways a b (grind arith) (grind arith);
    transitive = λ a b c h k. let on = onwards a b c (grind arith) (grind arith) in grind arith;
  }

pub ladder_laws : (n : ℕ) → OrderLaws (ladder n)
ladder_laws n = lawful_laws _ (λ a b. nat_le b a) (λ a. grind arith) (λ a b h k. grind arith) (λ a b c h k. grind arith)

-- the relation of compartments: what it says, and how it is shown
record Above (a b : ℕ) : Type 0 where
  higher : level b ≤ level a
  wider : Contains a b

abbrev above : ℕ → ℕ → Bool
above a b = nat_le (level b) (level a) && contains a b

parts : (a b : ℕ) → above a b ≡ true → Above a b
parts a b h =
    let d = and_parts _ _ h in
    record { higher = leb-true _ _ d.0; wider = (contains_decides a b).0 d.1 }

shown : (a b : ℕ) → Above a b → above a b ≡ true
shown a b h = and_from _ _ (le-leb _ _ h.higher) ((contains_decides a b).1 h.wider)

same_code : (a b : ℕ) → level a ≡ level b → a % 65536 ≡ b % 65536 → a ≡ b
same_code a b h k = omega arith

pub compartments_laws : OrderLaws compartments
compartments_laws =
    lawful_laws _ above
    (λ a. shown a a (record { higher = omega arith; wider = λ k lt h. h }))
    (λ a b h k.
    let d = parts a b h in
    let e = parts b a k in
    same_code a b (omega arith) (same_set a b d.wider e.wider))
    (λ a b c h k.
    let d = parts a b h in
    let e = parts b c k in
    shown a c (record { higher = omega arith; wider = λ i lt m. d.wider i lt (e.wider i lt m) }))
