use Rattle.engine.proofs.Keeping.{sync_keeps_lawful}
use Rattle.engine.proofs.laws.sync_keeps_lawful.Goals as goal

pub returns : goal.returns
returns c = sync_keeps_lawful
