use Rattle.std.proofs.Common.{◌≡◌, sym, ◌∙◌}
use Rattle.label_policies.specs.LabelTable.{rows}
use Rattle.label_policies.specs.LabelPolicy.{label_verdict}
use Rattle.label_policies.proofs.Flows.{learner_dominates, changed_dominates, rows_learn, rows_change}
use Rattle.label_policies.proofs.label_policy.label_verdict.Goals as goal

pub returns : goal.returns
returns g c =
    let a = c.args in
    let order = g.O.LabelOrder.meaning a.order.now in
    let laws = g.met.O.LabelOrder.laws a.order.now in
    let is : c.ruling.result ≡ label_verdict rows order a.request a.kind a.process a.object = cc in
    record {
      value = is;
      learned = λ learns yes. learner_dominates rows order laws a.request a.kind a.process a.object rows_learn learns (sym is ∙ yes);
      changed = λ changes yes. changed_dominates rows order laws a.request a.kind a.process a.object rows_change changes (sym is ∙ yes);
    }
