use Rattle.history.proofs.Running.{stores_follow_history}
use Rattle.history.proofs.stores_follow_history.Goals as goal

pub returns : goal.returns
returns c = stores_follow_history
