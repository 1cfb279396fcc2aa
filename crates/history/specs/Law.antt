-- What the stores hold at every point of every run, told by the history alone. `lib.rt` promises it.
use Rattle.std.specs.Prelude.{◌≡◌, ℕ, ◌≤◌, Bool, true, false, not, ◌&&◌, List, length, Option}
use Rattle.std.specs.Option.{option_map}
use Rattle.paths.specs.Parts.{grade_parts}
use Rattle.paths.specs.Steps.{levels, is_number, covers}
use Rattle.paths.specs.Values.{GradeParts}
use Rattle.paths.specs.declared.path.Path.{Path}
use Rattle.stores.specs.Meaning.{Model, is_leaf}
use Rattle.engine.specs.Knowledge.{grade_at}
use Rattle.history.specs.History.{Act, standing, side, differ, prevails, sync, Event, History, history, is_among}
use Rattle.history.specs.Runs.{Stores, Step, Run}

-- the grade that a panel holds at a leaf, by its knobs, stamp and birth
abbrev pub held : Model → ℕ → Option GradeParts
held m q = option_map grade_parts (grade_at m q)

-- a panel with these acts holds g: of the acts that set a grade at most one is overruled by none, and g is its grade
pub record Follows (xs : List Act) (g : Option GradeParts) : Type 0 where
  pub one : length (standing xs) ≤ 1
  pub holds : g ≡ side xs

-- what an accepted sync makes of a leaf where the source had the acts xs and the destination ys
pub record Settles (xs ys : List Act) (conflict : Bool) (after : Option GradeParts) : Type 0 where
  pub conflicts : conflict ≡ (differ (side xs) (side ys) && not (prevails xs ys) && not (prevails ys xs))
  pub common : differ (side xs) (side ys) ≡ false → (after ≡ side xs) × (after ≡ side ys)
  pub theirs : differ (side xs) (side ys) ≡ true → prevails xs ys ≡ true → after ≡ side xs
  pub ours : differ (side xs) (side ys) ≡ true → prevails ys xs ≡ true → after ≡ side ys
  pub kept : conflict ≡ true → after ≡ side ys

abbrev pub Leaf : ℕ → Type 0
Leaf q = (is_number levels q ≡ true) × (is_leaf q ≡ true)

-- an accepted sync from a onto b over p
abbrev pub accepted_sync : ℕ → ℕ → Path → (work report : ℕ) → List ℕ → Event
accepted_sync a b p work report reported =
    record { call = sync a b p work report; accepted = true; reported = reported }

-- at a point of a run, of the history h and the stores s
pub record Promises (has : ℕ → Bool) (h : History) (s : Stores) : Type 0 where
  -- every panel holds at every leaf what the acts that reached it there say
  pub follows : (k q : ℕ) → has k ≡ true → Leaf q → Follows (h.notes k q) (held (s k) q)
  -- a sync leaves a covered leaf in conflict exactly if neither side prevails, and else with the side that does
  pub syncs :
      (a b : ℕ) (p : Path) (work report : ℕ) (reported : List ℕ) (after : Stores)
      → Step has (accepted_sync a b p work report reported) s after
      → (q : ℕ) → Leaf q → covers levels p.number q ≡ true
      → Settles (h.notes a q) (h.notes b q) (is_among q reported) (held (after b) q)
  -- a sync back leaves no conflict where there was none, and both panels hold the same
  pub back :
      (a b : ℕ) (p : Path) (work report work' report' : ℕ) (reported reported' : List ℕ) (between after : Stores)
      → Step has (accepted_sync a b p work report reported) s between
      → Step has (accepted_sync b a p work' report' reported') between after
      → (q : ℕ) → Leaf q → covers levels p.number q ≡ true → is_among q reported ≡ false
      → (is_among q reported' ≡ false) × (held (after a) q ≡ held (after b) q)

-- at every point of every run on panels of different numbers
abbrev pub StoresFollowHistory : Type 0
StoresFollowHistory =
    (has : ℕ → Bool) (es : List Event) (s : Stores) → Run has es s → Promises has (history es) s
