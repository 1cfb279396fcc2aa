-- Runs: calls on panels of different numbers, from blank stores, each as its definition says.
use Rattle.std.specs.Prelude.{◌≡◌, ℕ, ◌≤◌, Bool, true, cond, ◌&&◌, List, [], ◌∷◌, is_ok, Result, ◌≢◌}
use Rattle.paths.specs.declared.fault.Fault.{Fault}
use Rattle.stores.specs.Making.{root_slot}
use Rattle.stores.specs.Meaning.{Model}
use Rattle.engine.specs.Acts.{Writes, Removes}
use Rattle.engine.specs.Conflicts.{Opens, Chooses, Leaves}
use Rattle.engine.specs.Syncs.{Syncs, conflicts_of}
use Rattle.engine.specs.declared.answers.Conflict.{Conflict}
use Rattle.engine.specs.declared.answers.Removal.{Removal}
use Rattle.engine.specs.declared.answers.Reported.{Reported}
use Rattle.engine.specs.declared.tally.Tally.{Tally}
use Rattle.history.specs.History.{Call, write, remove, sync, open_conflict, choose, leave, Event}

-- the store of each panel, by its number
abbrev pub Stores : Type 0
Stores = ℕ → Model

-- a blank store of panel k, of any capacity and height
pub record Blank (k : ℕ) (m : Model) : Type 0 where
  pub number : m.number.number ≡ k
  pub clock : m.clock ≡ 0
  pub some_room : 1 ≤ m.capacity
  pub small : m.capacity ≤ 1000
  pub low : m.height ≤ 255
  pub entries : m.entries ≡ root_slot ∷ []

-- no panel but k is another after a call
abbrev pub OnlyAt : ℕ → Stores → Stores → Type 0
OnlyAt k before after = (j : ℕ) → (j ≢ k) → after j ≡ before j

abbrev pub leaves_of : List Reported → List ℕ
leaves_of [] = []
leaves_of (r ∷ rs) = r.leaf.number ∷ leaves_of rs

-- what a call does to the panels, by the definition that its contract cites
abbrev pub Does : Call → Bool → List ℕ → Stores → Stores → Type 0
Does (write k p s) accepted reported before after =
    (r : Result ℕ Fault) × (is_ok r ≡ accepted) × Writes (before k) p s r (after k) × OnlyAt k before after
Does (remove k p) accepted reported before after =
    (r : Result Removal Fault) × (is_ok r ≡ accepted) × Removes (before k) p r (after k) × OnlyAt k before after
Does (sync a b p work report) accepted reported before after =
    (r : Result Tally Fault) × (is_ok r ≡ accepted) × Syncs (before a) (before b) p work report r (after b)
    × OnlyAt b before after × (reported ≡ cond accepted (leaves_of (conflicts_of (before a) (before b) p)) [])
Does (open_conflict a b p) accepted reported before after =
    (r : Result Conflict Fault) × (is_ok r ≡ accepted) × Opens (before a) (before b) p r × ((j : ℕ) → after j ≡ before j)
Does (choose a b t c) accepted reported before after =
    (r : Result ℕ Fault) × (is_ok r ≡ accepted) × Chooses (before a) (before b) t c r (after b) × OnlyAt b before after
Does (leave t) accepted reported before after = (j : ℕ) → Leaves (before j) (after j)

-- the panels that a call names take part
abbrev pub among_panels : (ℕ → Bool) → Call → Bool
among_panels has (write k p s) = has k
among_panels has (remove k p) = has k
among_panels has (sync a b p work report) = has a && has b
among_panels has (open_conflict a b p) = has a && has b
among_panels has (choose a b t c) = has a && has b
among_panels has (leave t) = true

-- an event on these panels
pub record Step (has : ℕ → Bool) (e : Event) (before after : Stores) : Type 0 where
  pub names : among_panels has e.call ≡ true
  pub does : Does e.call e.accepted e.reported before after

-- after these calls, the latest first, the panels that take part have these stores
abbrev pub Run : (ℕ → Bool) → List Event → Stores → Type 0
Run has [] panels = (k : ℕ) → has k ≡ true → Blank k (panels k)
Run has (e ∷ es) panels = (before : Stores) × Run has es before × Step has e before panels
