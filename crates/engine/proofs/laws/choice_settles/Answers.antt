use Rattle.engine.proofs.Acting.{choice_settles}
use Rattle.engine.proofs.laws.choice_settles.Goals as goal

pub returns : goal.returns
returns c = choice_settles
