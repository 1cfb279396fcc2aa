use Rattle.engine.proofs.Acting.{remove_settles}
use Rattle.engine.proofs.laws.remove_settles.Goals as goal

pub returns : goal.returns
returns c = remove_settles
