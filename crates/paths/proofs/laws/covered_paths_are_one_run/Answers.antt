use Rattle.paths.proofs.Levels.{run}
use Rattle.paths.proofs.laws.covered_paths_are_one_run.Goals as goal

pub returns : goal.returns
returns c = run
