use Rattle.std.proofs.Common.{rules}
use Rattle.policy.proofs.Places.{placed_inside, placed_outside}
use Rattle.policy.proofs.place.Place.numbered.Goals as goal

pub returns-then-is_among : goal.returns-then-is_among
returns-then-is_among g c = placed_inside g.row.N c.args.number c.args.position (search rules) _

pub returns-else-is_among : goal.returns-else-is_among
returns-else-is_among g c = placed_outside g.row.N c.args.number c.args.position (search rules)
