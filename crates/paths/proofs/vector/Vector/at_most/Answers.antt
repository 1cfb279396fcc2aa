use Rattle.std.proofs.Common.{rules}
use Rattle.std.proofs.iter.runs.Made.{chains}
use Rattle.paths.proofs.Places.{at_most_is}
use Rattle.paths.proofs.vector.Vector.at_most.Goals as goal

pub returns : goal.returns
returns c = at_most_is c.args.self.places c.args.other.places c.all.result (search (rules, chains))
