use Rattle.std.proofs.Common.{rules, max, arith}
use Rattle.paths.proofs.Places.{joined_by_rule}
use Rattle.paths.proofs.vector.Vector.greater.Goals as goal

pub returns : goal.returns
returns c = joined_by_rule max _ _ _ (omega arith) (omega arith) c.zip_with.ensures (λ x y z made. search rules)
