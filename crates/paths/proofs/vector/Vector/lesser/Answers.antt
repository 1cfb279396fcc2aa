use Rattle.std.proofs.Common.{rules, min, arith}
use Rattle.paths.proofs.Places.{joined_by_rule}
use Rattle.paths.proofs.vector.Vector.lesser.Goals as goal

pub returns : goal.returns
returns c = joined_by_rule min _ _ _ (omega arith) (omega arith) c.zip_with.ensures (λ x y z made. search rules)
