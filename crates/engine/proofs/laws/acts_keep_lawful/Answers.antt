use Rattle.engine.proofs.ActsKeeping.{acts_keep_lawful}
use Rattle.engine.proofs.laws.acts_keep_lawful.Goals as goal

pub returns : goal.returns
returns c = acts_keep_lawful
