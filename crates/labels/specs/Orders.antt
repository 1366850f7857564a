-- What a label order is, the laws that one keeps, and the orders of this crate.
-- A code is any number here; a label of the program is one below 2 ^ 64.
use Rattle.std.specs.Prelude.{◌≡◌, ℕ, zero, suc, ◌/◌, ◌%◌, ◌^◌, ◌≤◌, Bool, true, not, ◌&&◌, ◌||◌, ◌==◌, nat_le, nat_lt}

pub record Order : Type 0 where
  pub lawful : ℕ → Bool
  pub dominates : ℕ → ℕ → Bool

pub record OrderLaws (o : Order) : Type 0 where
  -- only lawful codes dominate or are dominated
  pub only_lawful : (a b : ℕ) → o.dominates a b ≡ true → (o.lawful a ≡ true) × (o.lawful b ≡ true)
  -- a lawful code dominates itself
  pub reflexive : (a : ℕ) → o.lawful a ≡ true → o.dominates a a ≡ true
  -- two that dominate each other are equal
  pub antisymmetric : (a b : ℕ) → o.dominates a b ≡ true → o.dominates b a ≡ true → a ≡ b
  -- dominance is transitive
  pub transitive : (a b c : ℕ) → o.dominates a b ≡ true → o.dominates b c ≡ true → o.dominates a c ≡ true

-- the order of the lawful codes by a relation: it holds between lawful codes alone
abbrev pub among_lawful : (ℕ → Bool) → (ℕ → ℕ → Bool) → Order
among_lawful lawful above = record { lawful = lawful; dominates = λ a b. (lawful a && lawful b) && above a b }

-- the numbers of steps that a ladder may have
abbrev pub IsHeight : ℕ → Type 0
IsHeight n = (1 ≤ n) × (n ≤ 256)

-- the ladder of n steps: codes 0 to n - 1, by the order of numbers
abbrev pub ladder : ℕ → Order
ladder n = among_lawful (λ c. nat_lt c n) (λ a b. nat_le b a)

-- in compartments, a code is level × 65,536 + set
abbrev pub level : ℕ → ℕ
level c = c / 65536

-- member k, of 0 to 15, is in a code's set: binary digit k of the code is 1
abbrev pub has : ℕ → ℕ → Bool
has c k = c / 2 ^ k % 2 == 1

-- a test passes at each number below another
abbrev pub each_below : (ℕ → Bool) → ℕ → Bool
each_below p zero = true
each_below p (suc n) = p n && each_below p n

-- each member of b's set is in a's
unfoldable pub contains : ℕ → ℕ → Bool
contains a b = each_below (λ k. not (has b k) || has a k) 16

-- compartments: levels 0 to 255, by the order of levels and the containment of sets, both
abbrev pub compartments : Order
compartments = among_lawful (λ c. nat_lt (level c) 256) (λ a b. nat_le (level b) (level a) && contains a b)
