-- What a panel knows and holds at each path, from the meaning of its store.
use Rattle.std.specs.Prelude.{ℕ, Bool, true, false, cond, not, ◌||◌, List, is_some, Some, None, Option, ◌==◌}
use Rattle.std.specs.Option.{option_map}
use Rattle.paths.specs.Vectors.{with_place, same_places}
use Rattle.paths.specs.declared.fault.Fault.{Fault}
use Rattle.paths.specs.declared.fault.Site.{Site}
use Rattle.paths.specs.Values.{Grade}
use Rattle.paths.specs.declared.path.Path.{Path}
use Rattle.stores.specs.Meaning.{Model, nearest}
use Rattle.stores.specs.Slots.{lookup}
use Rattle.stores.specs.declared.entry.Entry.{Entry}
use Rattle.engine.specs.LeafRule.{version, outcome}
use Rattle.engine.specs.declared.leaf.Outcome.{Outcome}
use Rattle.engine.specs.declared.leaf.Outcome.TheVariants.{Kept, Taken, Removed, Conflict}

-- a vector with the panel's own place replaced by its clock
abbrev pub own : Model → List ℕ → List ℕ
own m v = with_place v m.number.number m.clock

-- the vector at a path: that of the nearest entered path at or above it
unfoldable pub vector_at : Model → ℕ → List ℕ
vector_at m p = own m (nearest m.entries p)

abbrev pub grade_of : Option Entry → Option Grade
grade_of None = None
grade_of (Some e) = e.grade

abbrev pub grade_at : Model → ℕ → Option Grade
grade_at m p = grade_of (lookup m.entries p)

-- what the leaf rule says of two panels at a leaf
unfoldable pub outcome_at : Model → Model → ℕ → Option Outcome
outcome_at a b p =
    outcome (option_map version (grade_at a p)) (vector_at a p) (option_map version (grade_at b p)) (vector_at b p)

abbrev pub is_conflict : Option Outcome → Bool
is_conflict None = false
is_conflict (Some Kept) = false
is_conflict (Some Taken) = false
is_conflict (Some Removed) = false
is_conflict (Some (Conflict k)) = true

-- a path of vector v and grade g, whose parent has the vector up, is due: it has to be entered
abbrev pub due : ℕ → List ℕ → List ℕ → Option Grade → Bool
due p v up g = p == 0 || is_some g || not (same_places v up)

-- its entry, with 0 in the panel's own place, exactly if it is due
abbrev pub settled : Model → ℕ → List ℕ → List ℕ → Option Grade → Option Entry
settled m p v up g =
    cond (due p v up g)
    (Some (record { vector = record { places = with_place v m.number.number 0 }; grade = g })) None

-- where a call on this panel is refused
abbrev pub site : Model → Path → Site
site m p = record { path = p; panel = Some m.number }

abbrev pub refuse_if : Bool → Fault → Option Fault
refuse_if b f = cond b (Some f) None
