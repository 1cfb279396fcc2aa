use Rattle.stores.proofs.Bounds.{bounds}
use Rattle.stores.proofs.laws.bounds_hold_below.Goals as goal

pub returns : goal.returns
returns c = bounds
