-- Sets of members as binary digits: what containment says, and that one masked comparison decides it.
use Rattle.std.specs.Prelude.{◌≡◌, ℕ, ◌+◌, ◌*◌, ◌/◌, ◌%◌, ◌^◌, ◌<◌, Bool, true, false, not, ◌||◌, Decides, ◌==◌, min, bit_and, refl}
use Rattle.std.specs.Int.{bit_at}
use Rattle.std.proofs.Common.{sym, ap, ◌∙◌, arith}
use Rattle.std.proofs.lemmas.Nat.{pow_pos, mod_below, div-add-mod'}
use Rattle.std.proofs.lemmas.Nat.Bits.{bit_at_and, bit_at-lt, bit_at_cat_low, same_from_bits_below}
use Rattle.std.proofs.lemmas.Bool.{eqb-true, eq-eqb}
use Rattle.std.proofs.lemmas.Bool.Decides.{Decides-below_and, nat_tests}
use Rattle.labels.specs.Orders.{has, each_below, contains}

-- each member of b's set is in a's
abbrev pub Contains : ℕ → ℕ → Type 0
Contains a b = (k : ℕ) → k < 16 → has b k ≡ true → has a k ≡ true

implied : (x y : Bool) → Decides (not x || y) (x ≡ true → y ≡ true)
implied true y = (λ h _. h, λ h. h refl)
implied false y = (λ _ e. grind arith, λ _. refl)

pub contains_decides : (a b : ℕ) → Decides (contains a b) (Contains a b)
unfolding contains
contains_decides a b =
    let p : ℕ → Bool = λ k. not (has b k) || has a k in
    Decides-below_and p (λ k. has b k ≡ true → has a k ≡ true) (each_below p) (λ k. implied (has b k) (has a k)) refl (λ _. refl) 16

-- binary digit k of the last n, and of the whole number
low_digit : (n x k : ℕ) → k < n → bit_at (x % 2 ^ n) k ≡ bit_at x k
low_digit n x k lt =
    sym (bit_at_cat_low (x / 2 ^ n) n (x % 2 ^ n) k lt) ∙ ap (λ m. bit_at m k) (div-add-mod' x (2 ^ n))

-- numbers with equal digits below n agree in the last n, and the other way round
low_digits : (n x y : ℕ) → ((k : ℕ) → k < n → bit_at x k ≡ bit_at y k) → x % 2 ^ n ≡ y % 2 ^ n
low_digits n x y h =
    same_from_bits_below n (x % 2 ^ n) (y % 2 ^ n) (mod_below x (2 ^ n) (pow_pos n)) (mod_below y (2 ^ n) (pow_pos n))
    (λ k lt. low_digit n x k lt ∙ h k lt ∙ sym (low_digit n y k lt))

digits_low : (n x y : ℕ) → x % 2 ^ n ≡ y % 2 ^ n → (k : ℕ) → k < n → bit_at x k ≡ bit_at y k
digits_low n x y h k lt = sym (low_digit n x k lt) ∙ ap (λ m. bit_at m k) h ∙ low_digit n y k lt

-- of two digits, the first keeps the second just if it is 1 where that is
kept : (x y : ℕ) → x < 2 → y < 2 → Decides (min x y == y) ((y == 1) ≡ true → (x == 1) ≡ true)
kept x y hx hy = (λ e one. grind (arith, nat_tests), λ h. grind (arith, nat_tests))

-- b's set, cut down to a's, is b's still: one comparison of the last 16 digits
pub masked : (a b : ℕ) → Decides (bit_and a b % 65536 == b % 65536) (Contains a b)
masked a b =
    let at : (k : ℕ) → Decides (min (bit_at a k) (bit_at b k) == bit_at b k) (has b k ≡ true → has a k ≡ true)
    = λ k. kept (bit_at a k) (bit_at b k) (bit_at-lt a k) (bit_at-lt b k) in (
      λ e k lt. (at k).0 (eq-eqb _ _ (sym (bit_at_and a b k) ∙ digits_low 16 (bit_and a b) b (eqb-true _ _ e) k lt)),
      λ h. eq-eqb _ _ (low_digits 16 (bit_and a b) b (λ k lt. bit_at_and a b k ∙ eqb-true _ _ ((at k).1 (h k lt)))),
    )

same_digit : (x y : ℕ) → x < 2 → y < 2 → ((y == 1) ≡ true → (x == 1) ≡ true) → ((x == 1) ≡ true → (y == 1) ≡ true) → x ≡ y
same_digit x y hx hy h k = grind (arith, nat_tests)

-- sets that contain each other are one
pub same_set : (a b : ℕ) → Contains a b → Contains b a → a % 65536 ≡ b % 65536
same_set a b h k = low_digits 16 a b (λ i lt. same_digit (bit_at a i) (bit_at b i) (bit_at-lt a i) (bit_at-lt b i) (h i lt) (k i lt))
