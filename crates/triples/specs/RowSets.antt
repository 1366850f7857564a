-- Sets of rows, by their places.
use Rattle.std.specs.Prelude.{ℕ, zero, suc, ◌/◌, ◌%◌, ◌^◌, Bool, false, ◌||◌, List, ◌==◌, slice_index_or}
use Rattle.triples.specs.declared.row_set.RowSet.{RowSet}

-- the row at the place is in the set
unfoldable pub has : RowSet → ℕ → Bool
has s k = s.bits / 2 ^ k % 2 == 1

abbrev pub no_rows : RowSet
no_rows = record { bits = 0 }

-- the row at the place is in the set kept at an index
abbrev pub has_at : List RowSet → ℕ → ℕ → Bool
has_at sets index k = has (slice_index_or sets index no_rows) k

-- the test passes at some number below the bound
unfoldable pub any_below : (ℕ → Bool) → ℕ → Bool
any_below p zero = false
any_below p (suc n) = p n || any_below p n
