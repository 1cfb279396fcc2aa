-- From a path through its parents to the root.
use Rattle.std.specs.Prelude.{ℕ, zero, suc, Some, None, Option}
use Rattle.paths.specs.Steps.{levels, parent}

abbrev pub first_of : {X : Type 0} → Option X → Option X → Option X
first_of None y = y
first_of (Some x) y = Some x

-- the first that f gives at p, at its parent, and so on for n parents
unfoldable pub climb_by : {X : Type 0} → ℕ → (ℕ → Option X) → ℕ → Option X
climb_by zero f p = f p
climb_by (suc n) f p = first_of (f p) (climb_by n f (parent levels p))

-- the first that f gives at p or above; no path has more parents than there are levels
unfoldable pub climb : {X : Type 0} → (ℕ → Option X) → ℕ → Option X
climb f p = climb_by levels f p
