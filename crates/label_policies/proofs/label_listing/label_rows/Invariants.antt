-- what was added and what is ahead make the whole list
use Rattle.std.proofs.Common.{◌≡◌, ◌++◌, drop, vec_items}
use mathlib.Core.List.{flat_map}
use Rattle.label_policies.specs.LabelTable.{rows}
use Rattle.label_policies.specs.Listing.{rows_of}
use Rattle.label_policies.proofs.label_listing.label_rows.Given as goal

abbrev pub invariant-loop-request : goal.invariant-loop-request
invariant-loop-request l =
    vec_items l.rows ++ flat_map (rows_of rows) (drop l.request-index l.request-items) ≡ flat_map (rows_of rows) l.request-items
