use Rattle.std.proofs.Common.{rules}
use Rattle.std.proofs.iter.runs.Made.{chains}
use Rattle.text.proofs.Splits.{found}
use Rattle.text.proofs.first_mark.Goals as goal

pub returns : goal.returns
returns c = found c.args.mark c.args.text.now c.position.result (search (rules, chains))
