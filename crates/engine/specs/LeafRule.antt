-- What a sync from a source A onto a destination B does at one leaf. Of a grade the rule sees only its two stamps.
use Rattle.std.specs.Prelude.{ℕ, Bool, cond, not, ◌&&◌, ◌||◌, List, Some, None, Option, ◌==◌}
use Rattle.paths.specs.Parts.{stamp_parts}
use Rattle.paths.specs.Vectors.{known}
use Rattle.paths.specs.Values.{Grade, StampParts}
use Rattle.engine.specs.declared.leaf.Kind.{Kind}
use Rattle.engine.specs.declared.leaf.Kind.TheVariants.{Concurrent, Tangled, RemovedAtDestination, RemovedAtSource}
use Rattle.engine.specs.declared.leaf.Outcome.{Outcome}
use Rattle.engine.specs.declared.leaf.Outcome.TheVariants.{Kept, Taken, Removed, Conflict}

-- the stamps of a grade: its last act and its birth
pub record Version : Type 0 where
  pub stamp : StampParts
  pub birth : StampParts

abbrev pub version : Grade → Version
version g = record { stamp = stamp_parts g.stamp; birth = stamp_parts g.birth }

abbrev pub kind_number : Kind → ℕ
kind_number Concurrent = 1
kind_number Tangled = 2
kind_number RemovedAtDestination = 3
kind_number RemovedAtSource = 4

abbrev pub same_stamp : StampParts → StampParts → Bool
same_stamp s t = s.panel == t.panel && s.time == t.time

-- whether a panel with the vector v at the leaf knows the act of a stamp
abbrev pub knows : List ℕ → StampParts → Bool
knows v s = known s.panel s.time v

-- A has the version x at the vector v, and B has y at w. One side goes on from the other if it knows the other's stamp,
-- the other does not know its own, and both come from one birth or the other's birth is new to it.
abbrev pub goes_on : Version → List ℕ → Version → List ℕ → Bool
goes_on x v y w =
    knows v y.stamp && not (knows w x.stamp) && (same_stamp x.birth y.birth || not (knows w x.birth))

abbrev pub both_sides : Version → List ℕ → Version → List ℕ → Outcome
both_sides x v y w =
    cond (same_stamp x.stamp y.stamp || goes_on y w x v) Kept
    (cond (goes_on x v y w) Taken
    (cond (not (knows w x.stamp) && not (knows v y.stamp)) (Conflict Concurrent) (Conflict Tangled)))

abbrev pub source_only : Version → List ℕ → Outcome
source_only x w = cond (knows w x.stamp) Kept (cond (knows w x.birth) (Conflict RemovedAtDestination) Taken)

abbrev pub destination_only : List ℕ → Version → Outcome
destination_only v y = cond (knows v y.stamp) Removed (cond (knows v y.birth) (Conflict RemovedAtSource) Kept)

abbrev pub outcome : Option Version → List ℕ → Option Version → List ℕ → Option Outcome
outcome None v None w = None
outcome None v (Some y) w = Some (destination_only v y)
outcome (Some x) v None w = Some (source_only x w)
outcome (Some x) v (Some y) w = Some (both_sides x v y w)
