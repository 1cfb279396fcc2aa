-- What a request does to the panels, and which calls it comes to.
use Rattle.std.specs.Prelude.{is_ok, MatchBool, ◌≡◌, ℕ, Bool, true, cond, ◌&&◌, ◌⊎◌, List, [], ◌∷◌, ◌++◌, length, drop, Ok, Err, Result}
use Rattle.lists.specs.declared.FrontList.{FrontList}
use Rattle.paths.specs.declared.fault.Fault.{Fault}
use Rattle.paths.specs.declared.path.Path.{Path}
use Rattle.stores.specs.Meaning.{Model}
use Rattle.stores.specs.declared.entry.Slot.{Slot}
use Rattle.engine.specs.Acts.{Writes, Removes}
use Rattle.engine.specs.Conflicts.{Opens, Chooses}
use Rattle.engine.specs.Syncs.{Syncs, conflicts_of}
use Rattle.engine.specs.declared.answers.Choice.{Choice}
use Rattle.engine.specs.declared.answers.Conflict.{Conflict}
use Rattle.engine.specs.declared.answers.Removal.{Removal}
use Rattle.engine.specs.declared.answers.Reported.{Reported}
use Rattle.engine.specs.declared.lent.Lists.{Lists}
use Rattle.engine.specs.declared.tally.Tally.{Tally}
use Rattle.history.specs.History.{Call, write, remove, sync, open_conflict, choose, leave, Event, history}
use Rattle.history.specs.Law.{Promises}
use Rattle.history.specs.Runs.{Stores, OnlyAt, Run}
use Rattle.history.specs.declared.request.Answer.{Answer}
use Rattle.history.specs.declared.request.Answer.TheVariants.{Clock, Removed, Synced, Found}
use Rattle.history.specs.declared.request.Request.{Request}
use Rattle.history.specs.declared.request.Request.TheVariants.{Write, Remove, Sync, Inspect, Resolve}

-- a conflict is opened and chosen at once: where it cannot be opened that is the refusal
abbrev pub Resolves : Model → Model → Path → Choice → Result ℕ Fault → Model → Type 0
Resolves a b p c r after =
    ((f : Fault) × Opens a b p (Err f) × (r ≡ Err f) × (after ≡ b))
    ⊎ ((t : Conflict) × Opens a b p (Ok t) × Chooses a b t c r after)

-- what a call answered, as the answer of a request
abbrev pub answered : {T : Type 0} → (T → Answer) → Result T Fault → Result Answer Fault
answered f (Ok x) = Ok (f x)
answered f (Err e) = Err e

-- the panels that a request names take part
abbrev pub names : (ℕ → Bool) → Request → Bool
names has (Write k p s) = has k.number
names has (Remove k p) = has k.number
names has (Sync m) = has m.source.number && has m.destination.number
names has (Inspect m) = has m.source.number && has m.destination.number
names has (Resolve m c) = has m.source.number && has m.destination.number

abbrev pub all_name : (ℕ → Bool) → List Request → Bool
all_name has [] = true
all_name has (q ∷ qs) = names has q && all_name has qs

-- what a request answers and does, where the work list and the report list have so many places
abbrev pub Performs : (work report : ℕ) → Request → Stores → Result Answer Fault → Stores → Type 0
Performs work report (Write k p s) before r after =
    ((x : Result ℕ Fault) × (r ≡ answered Clock x) × Writes (before k.number) p s x (after k.number))
    × OnlyAt k.number before after
Performs work report (Remove k p) before r after =
    ((x : Result Removal Fault) × (r ≡ answered Removed x) × Removes (before k.number) p x (after k.number))
    × OnlyAt k.number before after
Performs work report (Sync m) before r after =
    ((x : Result Tally Fault) × (r ≡ answered Synced x)
    × Syncs (before m.source.number) (before m.destination.number) m.path work report x (after m.destination.number))
    × OnlyAt m.destination.number before after
Performs work report (Inspect m) before r after =
    ((x : Result Conflict Fault) × (r ≡ answered Found x)
    × Opens (before m.source.number) (before m.destination.number) m.path x)
    × ((j : ℕ) → after j ≡ before j)
Performs work report (Resolve m c) before r after =
    ((x : Result ℕ Fault) × (r ≡ answered Clock x)
    × Resolves (before m.source.number) (before m.destination.number) m.path c x (after m.destination.number))
    × OnlyAt m.destination.number before after

-- what the places of the report list hold after a request that was accepted or not: only a sync fills it, from the front
abbrev pub report_left : Request → Stores → Bool → List Reported → List Reported
report_left (Write k p s) before ok places = places
report_left (Remove k p) before ok places = places
report_left (Sync m) before ok places =
    cond ok
    (conflicts_of (before m.source.number) (before m.destination.number) m.path
    ++ drop (length (conflicts_of (before m.source.number) (before m.destination.number) m.path)) places)
    places
report_left (Inspect m) before ok places = places
report_left (Resolve m c) before ok places = places

-- how many of them are filled
abbrev pub report_count : Request → Stores → Bool → ℕ → ℕ
report_count (Write k p s) before ok filled = filled
report_count (Remove k p) before ok filled = filled
report_count (Sync m) before ok filled =
    cond ok (length (conflicts_of (before m.source.number) (before m.destination.number) m.path)) filled
report_count (Inspect m) before ok filled = filled
report_count (Resolve m c) before ok filled = filled

-- a list that nobody touched
pub record Untouched (before after : FrontList Slot) : Type 0 where
  pub places : after.slots.now ≡ before.slots.now
  pub filled : after.len ≡ before.len

-- what a request may do to what it works in: a sync that is done leaves it open but for its room, all else leaves it as it was
abbrev pub LeftBy : {X : Type 0} → (Roomy Kept : X → X → Type 0) → Request → Bool → X → X → Type 0
LeftBy Roomy Kept (Write k p s) ok before after = Kept before after
LeftBy Roomy Kept (Remove k p) ok before after = Kept before after
LeftBy Roomy Kept (Sync m) ok before after = MatchBool ok (Roomy before after) (Kept before after)
LeftBy Roomy Kept (Inspect m) ok before after = Kept before after
LeftBy Roomy Kept (Resolve m c) ok before after = Kept before after

-- the work list after a request that was accepted or not
abbrev pub WorkLeft : Request → Bool → FrontList Slot → FrontList Slot → Type 0
WorkLeft q ok before after =
    LeftBy (λ (x y : FrontList Slot). length y.slots.now ≡ length x.slots.now) Untouched q ok before after

-- the same of its places alone
abbrev pub PlacesLeft : Request → Bool → List Slot → List Slot → Type 0
PlacesLeft q ok before after =
    LeftBy (λ (x y : List Slot). length y ≡ length x) (λ (x y : List Slot). y ≡ x) q ok before after

-- both lists, and the places of each, are still the ones that were lent
pub record StayLent (before after : Lists) : Type 0 where
  pub work : after.work.ghost_name ≡ before.work.ghost_name
  pub report : after.report.ghost_name ≡ before.report.ghost_name
  pub work_places : after.work.now.slots.ghost_name ≡ before.work.now.slots.ghost_name
  pub report_places : after.report.now.slots.ghost_name ≡ before.report.now.slots.ghost_name

-- where a list of requests has come to
pub record Point : Type 0 where
  pub stores : Stores
  pub lists : Lists

-- what one request, answered so, makes of the stores and the lists
pub record Performed (work report : ℕ) (q : Request) (before : Point) (r : Result Answer Fault) (after : Point) : Type 0 where
  pub done : Performs work report q before.stores r after.stores
  pub reported :
      after.lists.report.now.slots.now ≡ report_left q before.stores (is_ok r) before.lists.report.now.slots.now
  pub filled : after.lists.report.now.len ≡ report_count q before.stores (is_ok r) before.lists.report.now.len
  pub worked : WorkLeft q (is_ok r) before.lists.work.now after.lists.work.now

-- what a list of requests does, one after the other
abbrev pub PerformsAll : (work report : ℕ) → List Request → Point → Point → Type 0
PerformsAll work report [] before after = after ≡ before
PerformsAll work report (q ∷ qs) before after =
    (r : Result Answer Fault) × (between : Point) × Performed work report q before r between
    × PerformsAll work report qs between after

-- the calls of a list of events, the latest first
abbrev pub calls : List Event → List Call
calls [] = []
calls (e ∷ es) = e.call ∷ calls es

-- the calls that a request comes to, the latest first
abbrev pub Asks : (work report : ℕ) → Request → List Call → Type 0
Asks work report (Write k p s) cs = cs ≡ write k.number p s ∷ []
Asks work report (Remove k p) cs = cs ≡ remove k.number p ∷ []
Asks work report (Sync m) cs = cs ≡ sync m.source.number m.destination.number m.path work report ∷ []
Asks work report (Inspect m) cs =
    (cs ≡ open_conflict m.source.number m.destination.number m.path ∷ [])
    ⊎ ((t : Conflict) × (cs ≡ leave t ∷ (open_conflict m.source.number m.destination.number m.path ∷ [])))
Asks work report (Resolve m c) cs =
    (cs ≡ open_conflict m.source.number m.destination.number m.path ∷ [])
    ⊎ ((t : Conflict)
    × (cs
    ≡ choose m.source.number m.destination.number t c ∷ (open_conflict m.source.number m.destination.number m.path ∷ [])))

-- the calls that a list of requests comes to
abbrev pub AsksAll : (work report : ℕ) → List Request → List Call → Type 0
AsksAll work report [] cs = cs ≡ []
AsksAll work report (q ∷ qs) cs =
    (later : List Call) × (first : List Call) × AsksAll work report qs later × Asks work report q first
    × (cs ≡ later ++ first)

-- after any run, these calls make a longer one, and the law's promises hold at its end
abbrev pub Continues : (ℕ → Bool) → (List Call → Type 0) → Stores → Stores → Type 0
Continues has Asked before after =
    (es : List Event) → Run has es before
    → (fs : List Event) × Asked (calls fs) × Run has (fs ++ es) after × Promises has (history (fs ++ es)) after
