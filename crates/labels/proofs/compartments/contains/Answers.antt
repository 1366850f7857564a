use Rattle.std.proofs.lemmas.Bool.Decides.{same_from_decides}
use Rattle.labels.specs.Sets.{contains_decides, masked}
use Rattle.labels.proofs.compartments.contains.Goals as goal

pub returns : goal.returns
returns c = same_from_decides _ _ (masked c.args.a c.args.b) (contains_decides c.args.a c.args.b)
