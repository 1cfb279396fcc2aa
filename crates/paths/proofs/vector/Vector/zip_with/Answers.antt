use Rattle.std.proofs.Common.{rules}
use Rattle.paths.proofs.vector.Vector.zip_with.Goals as goal

pub returns : goal.returns
returns g c =
    record {
      long = c.from_fn.ensures.items.long;
      at = λ k lt. (let at = c.from_fn.ensures.items.at k 0 lt in search rules);
    }
