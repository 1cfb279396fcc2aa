use Rattle.paths.proofs.Levels.{path_order}
use Rattle.paths.proofs.laws.number_order_is_step_order.Goals as goal

pub returns : goal.returns
returns c = path_order
