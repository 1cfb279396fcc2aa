use Rattle.stores.proofs.Entries.{look_ups}
use Rattle.stores.proofs.laws.look_ups_follow_changes.Goals as goal

pub returns : goal.returns
returns c = look_ups
