use Rattle.policy.proofs.Stacks.{stacked}
use Rattle.policy.proofs.stack.StackPolicy.judge.Goals as goal

pub returns : goal.returns
returns g c = stacked _ _ _ _ _ _ c.judge.ensures c.judge-2.ensures c.stronger.ensures
