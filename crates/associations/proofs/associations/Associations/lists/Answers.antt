use Rattle.std.proofs.Common.{rules, tests, ◌∙◌}
use Rattle.std.proofs.lemmas.Iterator.Search.{any_from_yields_List}
use Rattle.associations.specs.Associations.{on_chain}
use Rattle.associations.proofs.Chains.{item_at, any_of_chain, YieldsList-from_chain}
use Rattle.associations.proofs.associations.Associations.lists.Goals as goal

pub returns-then-is_some : goal.returns-then-is_some
returns-then-is_some c =
    let cells = c.args.self.now.cells in
    any_from_yields_List (item_at cells c.args.item) _ _ _ c.any.ensures.ran
    (YieldsList-from_chain cells _ 128 _ c.take.ensures.count (cc) (λ x r q k. search (rules, tests)))
    (λ x b q k. search (rules, tests))
    ∙ any_of_chain cells c.args.item 128 _

pub returns-else-is_some : goal.returns-else-is_some
unfolding on_chain
returns-else-is_some c = search rules
