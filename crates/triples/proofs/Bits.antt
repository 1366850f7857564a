-- The bits of a number as a set of places, from what the library says of a bit as a number.
use Rattle.std.proofs.Common.{◌≡◌, ℕ, zero, suc, ◌/◌, ◌%◌, ◌^◌, ◌<◌, Bool, false, not, ◌&&◌, ◌||◌, eqb, arith}
use Rattle.std.specs.Int.{bit_at}
use lib.Bits.{bit_and, bit_or}
use Rattle.std.proofs.lemmas.Nat.{div_below}
use Rattle.std.proofs.lemmas.Nat.Bits.{bit_at_and, bit_at_or, bit_at-zero, bit_at-pow_same, bit_at-pow_other, bit_at-lt}
use Rattle.std.proofs.lemmas.Bool.Decides.{nat_tests}
use Rattle.triples.specs.RowSets.{any_below}

-- the number has a bit at the place
abbrev pub bit : ℕ → ℕ → Bool
bit n k = eqb (n / 2 ^ k % 2) 1

pub bit-and : (a b k : ℕ) → bit (bit_and a b) k ≡ (bit a k && bit b k)
bit-and a b k = grind (arith, bit_at_and, bit_at-lt)

pub bit-or : (a b k : ℕ) → bit (bit_or a b) k ≡ (bit b k || bit a k)
bit-or a b k = grind (arith, bit_at_or, bit_at-lt)

pub bit-zero : (k : ℕ) → bit 0 k ≡ false
bit-zero k = grind (arith, bit_at-zero)

-- 2 ^ r has its one bit at r
pub bit-pow : (r k : ℕ) → bit (2 ^ r) k ≡ eqb k r
bit-pow r k = grind (arith, nat_tests, bit_at-pow_same, bit_at-pow_other)

without_top : (n j : ℕ) → n < 2 ^ suc j → bit_at n j ≡ 0 → n < 2 ^ j
without_top n j h e = grind (arith, div_below n (2 ^ j) 2)

-- a number of j digits has some bit just if it is not 0
pub some_bit : (n j : ℕ) → n < 2 ^ j → not (eqb n 0) ≡ any_below (bit n) j
unfolding any_below
some_bit n zero h = grind arith
some_bit n (suc j) h = grind (arith, some_bit n j, without_top n j h, bit_at-zero, bit_at-lt)
