use Rattle.std.proofs.Common.{arith}
use Rattle.policy.specs.Words.{kinds}
use Rattle.label_policies.specs.LabelTable.{rows}
use Rattle.label_policies.specs.Listing.{row_at}
use Rattle.label_policies.proofs.Listing.{turn, ended}
use Rattle.label_policies.proofs.label_listing.add_rows_of.Goals as goal

pub loop-kind-preserved : goal.loop-kind-preserved
loop-kind-preserved c =
    turn (row_at rows c.args.request) kinds c.loop-kind.kind-index _ _ _ _ (omega arith) c.loop-kind.invariant c.in_ok-add_row.ensures

pub returns : goal.returns
returns c = ended (row_at rows c.args.request) kinds c.loop-kind.kind-index _ _ c.loop-kind-test.false c.loop-kind.invariant
