use Rattle.paths.proofs.Levels.{round_trip}
use Rattle.paths.proofs.laws.number_and_steps_round_trip.Goals as goal

pub returns : goal.returns
returns c = round_trip
