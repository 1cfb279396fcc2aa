-- What holds of the leaf rule. `laws.rt` promises each.
use Rattle.std.specs.Prelude.{◌≡◌, ℕ, Bool, true, false, ◌⊎◌, List, [], ◌∷◌, Some, None, Option}
use Rattle.engine.specs.LeafRule.{Version, same_stamp, knows, outcome}
use Rattle.engine.specs.declared.leaf.Kind.{Kind}
use Rattle.engine.specs.declared.leaf.Kind.TheVariants.{Concurrent, Tangled, RemovedAtDestination, RemovedAtSource}
use Rattle.engine.specs.declared.leaf.Outcome.{Outcome}
use Rattle.engine.specs.declared.leaf.Outcome.TheVariants.{Kept, Taken, Removed, Conflict}

-- a version by its stamp's panel and time and its birth's
abbrev pub at : ℕ → ℕ → ℕ → ℕ → Option Version
at k t j s = Some (record { stamp = record { panel = k; time = t }; birth = record { panel = j; time = s } })

-- A is panel 1 and B panel 2; places that a vector lacks are 0
pub record WorkedLeaves : Type 0 where
  pub later_write_taken : outcome (at 1 3 1 1) (3 ∷ 0 ∷ []) (at 1 2 1 1) (2 ∷ 4 ∷ []) ≡ Some Taken
  pub later_write_kept : outcome (at 1 2 1 1) (3 ∷ 0 ∷ []) (at 2 4 1 1) (2 ∷ 4 ∷ []) ≡ Some Kept
  pub two_writes_conflict :
      outcome (at 1 3 1 1) (3 ∷ 0 ∷ []) (at 2 4 1 1) (2 ∷ 4 ∷ []) ≡ Some (Conflict Concurrent)
  pub both_known_conflict :
      outcome (at 3 1 3 1) (1 ∷ 0 ∷ 1 ∷ 1 ∷ []) (at 4 1 4 1) (0 ∷ 1 ∷ 1 ∷ 1 ∷ []) ≡ Some (Conflict Tangled)
  pub new_grade_taken : outcome (at 1 3 1 3) (3 ∷ 0 ∷ []) None (2 ∷ 4 ∷ []) ≡ Some Taken
  pub write_after_removal_conflict :
      outcome (at 1 3 1 2) (3 ∷ 0 ∷ []) None (2 ∷ 4 ∷ []) ≡ Some (Conflict RemovedAtDestination)
  pub removal_arrives : outcome None (3 ∷ 4 ∷ []) (at 2 4 2 4) (2 ∷ 5 ∷ []) ≡ Some Removed
  pub removal_of_older_conflict :
      outcome None (3 ∷ 4 ∷ []) (at 2 5 2 4) (2 ∷ 5 ∷ []) ≡ Some (Conflict RemovedAtSource)

abbrev pub exchanged : Kind → Kind
exchanged Concurrent = Concurrent
exchanged Tangled = Tangled
exchanged RemovedAtDestination = RemovedAtSource
exchanged RemovedAtSource = RemovedAtDestination

-- what the outcome r of the exchanged sides is, by the outcome of the sides; both are kept only under one stamp
abbrev pub Exchanged : Bool → Option Outcome → Option Outcome → Type 0
Exchanged one_stamp None r = r ≡ None
Exchanged one_stamp (Some Taken) r = r ≡ Some Kept
Exchanged one_stamp (Some Removed) r = r ≡ Some Kept
Exchanged one_stamp (Some Kept) r = (r ≡ Some Taken) ⊎ ((r ≡ Some Removed) ⊎ ((r ≡ Some Kept) × (one_stamp ≡ true)))
Exchanged one_stamp (Some (Conflict k)) r = r ≡ Some (Conflict (exchanged k))

abbrev pub one_stamp : Option Version → Option Version → Bool
one_stamp None None = true
one_stamp None (Some y) = false
one_stamp (Some x) None = false
one_stamp (Some x) (Some y) = same_stamp x.stamp y.stamp

abbrev pub Symmetric : Type 0
Symmetric =
    (a b : Option Version) (v w : List ℕ) → Exchanged (one_stamp a b) (outcome a v b w) (outcome b w a v)

abbrev pub NotOverKnown : Type 0
NotOverKnown =
    (x : Version) (b : Option Version) (v w : List ℕ) → outcome (Some x) v b w ≡ Some Taken → knows w x.stamp ≡ false

abbrev pub OneStamp : Type 0
OneStamp =
    (x y : Version) (v w : List ℕ) → same_stamp x.stamp y.stamp ≡ true → outcome (Some x) v (Some y) w ≡ Some Kept
