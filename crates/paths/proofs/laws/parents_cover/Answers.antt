use Rattle.paths.proofs.Levels.{parents}
use Rattle.paths.proofs.laws.parents_cover.Goals as goal

pub returns : goal.returns
returns c = parents
