use Rattle.engine.proofs.Acting.{write_settles}
use Rattle.engine.proofs.laws.write_settles.Goals as goal

pub returns : goal.returns
returns c = write_settles
