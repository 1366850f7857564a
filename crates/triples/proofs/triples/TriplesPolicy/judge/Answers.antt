use Rattle.policy.proofs.Leaves.{alone}
use Rattle.triples.specs.Kept.{kept_leaf}
use Rattle.triples.proofs.triples.TriplesPolicy.judge.Goals as goal

pub returns : goal.returns
returns c = alone (kept_leaf c.args.self.now) _ _ _ c.by.ensures c.verdict.ensures
