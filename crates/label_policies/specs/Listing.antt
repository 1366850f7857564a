-- The rows of a table in the order in which they are printed.
use Rattle.std.specs.Prelude.{◌≡◌, ◌+◌, Bool, true, false, not, ◌&&◌, ◌||◌, List, [], ◌∷◌, length, Some, None, Option}
use mathlib.Core.List.{flat_map}
use Rattle.policy.specs.Words.{request_number, kind_number, requests, kinds}
use Rattle.policy.specs.declared.words.Request.{Request}
use Rattle.policy.specs.declared.words.Kind.{Kind}
use Rattle.label_policies.specs.declared.label_table.Condition.{Condition}
use Rattle.label_policies.specs.declared.label_table.Row.{Row}
use Rattle.label_policies.specs.LabelTable.{rows, access_rows, stands_at, condition_in}

-- a condition that was found, as a row
abbrev pub as_row : Request → Kind → Option Condition → List Row
as_row request kind None = []
as_row request kind (Some condition) = record { request = request; kind = kind; condition = condition } ∷ []

abbrev pub row_at : List Row → Request → Kind → List Row
row_at table request kind = as_row request kind (condition_in table request kind)

abbrev pub rows_of : List Row → Request → List Row
rows_of table request = flat_map (row_at table request) kinds

-- by request, and the rows of one request by kind
abbrev pub in_order : List Row → List Row
in_order table = flat_map (rows_of table) requests

abbrev any : (Row → Bool) → List Row → Bool
any test [] = false
any test (row ∷ more) = test row || any test more

-- two rows stand at one place
abbrev pub share_place : Row → Row → Bool
share_place a b = stands_at (request_number a.request) (kind_number a.kind) b

-- no two rows stand at one place
abbrev pub all_apart : List Row → Bool
all_apart [] = true
all_apart (row ∷ more) = not (any (share_place row) more) && all_apart more

-- a list of the table's rows, to be printed: in order, 29 and the one for entering, no two at one place
pub record Listed (list : List Row) : Type 0 where
  pub rows_in_order : list ≡ in_order rows
  pub access_count : length access_rows ≡ 29
  pub count : length list ≡ 29 + 1
  pub apart : all_apart rows ≡ true
