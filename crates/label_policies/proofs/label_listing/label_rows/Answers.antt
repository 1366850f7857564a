use Rattle.std.proofs.Common.{arith}
use Rattle.policy.specs.Words.{requests}
use Rattle.label_policies.specs.LabelTable.{rows}
use Rattle.label_policies.specs.Listing.{rows_of}
use Rattle.label_policies.proofs.Listing.{turn, ended, listed}
use Rattle.label_policies.proofs.label_listing.label_rows.Goals as goal

pub loop-request-preserved : goal.loop-request-preserved
loop-request-preserved c =
    turn (rows_of rows) requests c.loop-request.request-index _ _ _ _ (omega arith) c.loop-request.invariant c.in_ok-add_rows_of.ensures

pub returns : goal.returns
returns c = listed _ (ended (rows_of rows) requests c.loop-request.request-index _ _ c.loop-request-test.false c.loop-request.invariant)
