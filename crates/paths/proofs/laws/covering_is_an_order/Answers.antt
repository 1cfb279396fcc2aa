use Rattle.paths.proofs.Levels.{covering}
use Rattle.paths.proofs.laws.covering_is_an_order.Goals as goal

pub returns : goal.returns
returns c = covering
