use Rattle.std.proofs.Common.{refl, rules}
use Rattle.labels.specs.Orders.{contains}
use Rattle.policy.specs.Places.{placed}
use Rattle.label_policies.specs.LabelTable.{condition_in}
use Rattle.associations.specs.Associations.{on_chain}
use Rattle.triples.specs.RowSets.{any_below}
use Rattle.examples.proofs.marked.marked_examples.Goals as goal

pub returns-clause-found : goal.returns-clause-found
unfolding contains condition_in
returns-clause-found c = search rules

pub returns-clause-defined : goal.returns-clause-defined
unfolding contains placed condition_in on_chain any_below
returns-clause-defined c = refl
