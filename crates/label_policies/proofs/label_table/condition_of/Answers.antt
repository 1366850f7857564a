use Rattle.std.proofs.Common.{arith}
use Rattle.label_policies.specs.LabelTable.{rows}
use Rattle.label_policies.proofs.Places.{at_place}
use Rattle.label_policies.proofs.label_table.condition_of.Goals as goal

pub returns : goal.returns
returns c = at_place rows _ c.conditions.ensures _ _ c.args.request c.args.kind _ _ (omega arith) (omega arith) (omega arith) (omega arith)
