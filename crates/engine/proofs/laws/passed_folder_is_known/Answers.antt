use Rattle.engine.proofs.Passing.{passed_is_known}
use Rattle.engine.proofs.laws.passed_folder_is_known.Goals as goal

pub returns : goal.returns
returns c = passed_is_known
