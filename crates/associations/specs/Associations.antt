-- Rows and cells as they are added, and the chain of items that a row lists.
use Rattle.std.specs.Prelude.{ℕ, zero, suc, Bool, true, false, not, ◌||◌, List, replicate, Some, None, Ok, Option, Result, ◌==◌, nat_lt, slice_index_or, slice_set}
use Rattle.policy.specs.declared.place.Place.{Place}
use Rattle.policy.specs.declared.refusal.Refusal.{Refusal}
use Rattle.policy.specs.declared.refusal.Refusal.TheVariants.{OutOfRange, SetTwice, CellNotSet}
use Rattle.policy.specs.Places.{placed, placed_or_none}
use Rattle.policy.specs.Refusals.{go_on, provided}
use Rattle.associations.specs.declared.rows.Row.{Row}
use Rattle.associations.specs.declared.rows.Cell.{Cell}
use Rattle.associations.specs.declared.associations.Associations.{Associations}

abbrev pub none_set : Associations
none_set = record { rows = replicate 32 None; cells = replicate 128 None }

abbrev pub is_set : {X : Type 0} → Option X → Bool
is_set None = false
is_set (Some x) = true

-- the row at a place of the table
abbrev pub row_at : List (Option Row) → ℕ → Option Row
row_at rows place = slice_index_or rows place None

-- the cell at which a chain begins or goes on
abbrev pub cell_at : List (Option Cell) → Option (Place 128) → Option Cell
cell_at cells None = None
cell_at cells (Some place) = slice_index_or cells place.index None

-- the next cell of a chain is above its own
abbrev pub goes_up : Place 128 → Option (Place 128) → Bool
goes_up cell None = true
goes_up cell (Some next) = nat_lt cell.index next.index

-- a chain may begin or go on here: it ends, or the cell is set
abbrev pub stands : List (Option Cell) → Option (Place 128) → Bool
stands cells None = true
stands cells (Some next) = is_set (cell_at cells (Some next))

abbrev pub with_cell : Associations → Place 128 → Cell → Associations
with_cell a place cell = record { rows = a.rows; cells = slice_set a.cells place.index (Some cell) }

abbrev pub with_row : Associations → Place 32 → Row → Associations
with_row a place row = record { rows = slice_set a.rows place.index (Some row); cells = a.cells }

-- the associations once a cell has been added, or why it is not: numbers first, in order, then the table
abbrev pub added_cell : Associations → (cell item next : ℕ) → Result Associations Refusal
added_cell a cell item next =
    go_on (placed 128 cell 1) (λ c.
    go_on (placed 64 item 2) (λ i.
    go_on (placed_or_none 128 next 3) (λ n.
    provided (goes_up c n) (OutOfRange 3) (
    provided (not (is_set (cell_at a.cells (Some c)))) SetTwice (
    provided (stands a.cells n) CellNotSet (
    Ok (with_cell a c (record { item = i; next = n }))))))))

-- the same of a row
abbrev pub added_row : Associations → (row user procedure head : ℕ) → Result Associations Refusal
added_row a row user procedure head =
    go_on (placed 32 row 1) (λ r.
    go_on (placed 16 user 2) (λ u.
    go_on (placed 64 procedure 3) (λ p.
    go_on (placed_or_none 128 head 4) (λ h.
    provided (not (is_set (row_at a.rows r.index))) SetTwice (
    provided (stands a.cells h) CellNotSet (
    Ok (with_row a r (record { user = u; procedure = p; head = h }))))))))

-- the item is on the chain that begins with the cell, within so many cells
unfoldable pub on_chain : ℕ → List (Option Cell) → Option Cell → Place 64 → Bool
on_chain zero cells cell item = false
on_chain (suc n) cells None item = false
on_chain (suc n) cells (Some cell) item = cell.item.index == item.index || on_chain n cells (cell_at cells cell.next) item

-- a row lists the items on its chain; a chain only goes up, so that it has no more than the 128 cells there are
abbrev pub row_lists : List (Option Cell) → Row → Place 64 → Bool
row_lists cells row item = on_chain 128 cells (cell_at cells row.head) item
