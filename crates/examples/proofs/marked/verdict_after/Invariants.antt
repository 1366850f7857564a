-- what is still to be noted makes of the leaves what all of it makes of those at the beginning
use Rattle.std.proofs.Common.{◌≡◌, drop}
use Rattle.examples.specs.Examples.{moved_by}
use Rattle.examples.proofs.marked.verdict_after.Given as goal

abbrev pub invariant-loop-access : goal.invariant-loop-access
invariant-loop-access g l =
    let leaves = g.P.Policy.leaves in
    moved_by (drop l.access-index l.noted) (leaves l.policy) ≡ moved_by l.noted (leaves l.fn.policy)
