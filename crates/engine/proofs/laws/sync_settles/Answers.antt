use Rattle.engine.proofs.Settling.{sync_settles}
use Rattle.engine.proofs.laws.sync_settles.Goals as goal

pub returns : goal.returns
returns c = sync_settles
