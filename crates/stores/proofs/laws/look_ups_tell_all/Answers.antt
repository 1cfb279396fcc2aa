use Rattle.stores.proofs.Entries.{equal_look_ups}
use Rattle.stores.proofs.laws.look_ups_tell_all.Goals as goal

pub returns : goal.returns
returns c = equal_look_ups
