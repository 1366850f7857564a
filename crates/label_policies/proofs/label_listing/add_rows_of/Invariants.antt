-- what was added and what is ahead make the rows of the request
use Rattle.std.proofs.Common.{◌≡◌, ◌++◌, drop, vec_items}
use mathlib.Core.List.{flat_map}
use Rattle.label_policies.specs.LabelTable.{rows}
use Rattle.label_policies.specs.Listing.{row_at}
use Rattle.label_policies.proofs.label_listing.add_rows_of.Given as goal

abbrev pub invariant-loop-kind : goal.invariant-loop-kind
invariant-loop-kind l =
    vec_items l.list ++ flat_map (row_at rows l.request) (drop l.kind-index l.kind-items)
    ≡ vec_items l.initial.list ++ flat_map (row_at rows l.request) l.kind-items
