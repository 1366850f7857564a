use Rattle.std.proofs.Common.{replicate, ap, rules}
use Rattle.triples.specs.RowSets.{no_rows}
use Rattle.triples.proofs.Charted.{Lists, same_walk, made, charted}
use Rattle.triples.proofs.triples.Triples.new.Goals as goal

-- the inner `c`, one call, hides the outer, whose 64 calls are more than `search` enters
pub returns : goal.returns
returns c =
    charted c.args.associations.now _ c.rows-rows.ensures
    (let same = c.rows-rows.ensures in λ item. made _ _ (Lists c.args.associations.now) (λ i y q c. search (rules, same_walk, same)) c.from_fn-listing.result no_rows 64 0 item.index c.from_fn-listing.ensures.items.each (search rules) item.within)
    (ap (replicate 32) c.none.ensures.made)
