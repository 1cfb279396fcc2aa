-- Sync from a source A onto a destination B over one path: what becomes of each path, and what the call answers.
use Rattle.std.specs.Prelude.{◌≡◌, ℕ, Bool, cond, not, ◌&&◌, List, [], ◌∷◌, ◌++◌, length, drop, is_some, Some, None, Ok, Err, Option, Result, ◌==◌, nat_lt}
use Rattle.paths.specs.Steps.{levels, covers, parent}
use Rattle.paths.specs.Vectors.{greater, at_most}
use Rattle.paths.specs.declared.fault.Cause.TheVariants.{Full}
use Rattle.paths.specs.declared.fault.Fault.{Fault}
use Rattle.paths.specs.declared.fault.Fault.TheVariants.{SamePanel, ShortWorkList, ShortReport}
use Rattle.paths.specs.Values.{Grade}
use Rattle.paths.specs.declared.path.Path.{Path}
use Rattle.stores.specs.Climb.{first_of, climb}
use Rattle.stores.specs.Meaning.{Model, is_leaf, least_at, greatest_at, with_entries}
use Rattle.stores.specs.Slots.{lookup}
use Rattle.stores.specs.declared.entry.Entry.{Entry}
use Rattle.stores.specs.declared.entry.Slot.{Slot}
use Rattle.engine.specs.Acts.{slot_of, store_fault}
use Rattle.engine.specs.Counts.{no_counts, counted}
use Rattle.engine.specs.Knowledge.{own, vector_at, grade_at, outcome_at, is_conflict, settled, site, refuse_if}
use Rattle.engine.specs.declared.answers.Reported.{Reported}
use Rattle.engine.specs.declared.leaf.Outcome.{Outcome}
use Rattle.engine.specs.declared.leaf.Outcome.TheVariants.{Kept, Taken, Removed, Conflict}
use Rattle.engine.specs.declared.tally.Tally.{Tally}

-- what is taken of A, onto B, by an outcome at a leaf
abbrev pub grade_after : Option Outcome → Option Grade → Option Grade → Option Grade
grade_after None theirs ours = ours
grade_after (Some Kept) theirs ours = ours
grade_after (Some Taken) theirs ours = theirs
grade_after (Some Removed) theirs ours = None
grade_after (Some (Conflict k)) theirs ours = ours

-- paths in order, each once
abbrev pub with_path : Path → List Path → List Path
with_path p [] = p ∷ []
with_path p (q ∷ qs) =
    cond (nat_lt p.number q.number) (p ∷ (q ∷ qs))
    (cond (p.number == q.number) (q ∷ qs) (q ∷ with_path p qs))

abbrev pub with_paths : List Slot → List Path → List Path
with_paths [] ps = ps
with_paths (s ∷ es) ps = with_path s.path (with_paths es ps)

-- the slots that f gives at these paths
abbrev pub gather : (ℕ → Option Entry) → List Path → List Slot
gather f [] = []
gather f (p ∷ ps) = slot_of p (f p.number) ++ gather f ps

module _ (a b : Model) (top : ℕ) where
  -- a folder is passed by if all that A knows in it B knows everywhere in it
  unfoldable pub passed : ℕ → Bool
  passed p =
      covers levels top p && not (is_leaf p)
      && at_most (own a (greatest_at a.entries p)) (own b (least_at b.entries p))

  -- strictly below a folder that is passed by
  unfoldable pub below_passed : ℕ → Bool
  below_passed p =
      not (p == 0) && is_some (climb (λ q. cond (passed q) (Some (tt {0})) None) (parent levels p))

  -- covered, and not below a folder that is passed by: these paths are settled
  unfoldable pub touched : ℕ → Bool
  touched p = covers levels top p && not (below_passed p)

  unfoldable pub leaf_outcome : ℕ → Option Outcome
  leaf_outcome p = cond (touched p && is_leaf p) (outcome_at a b p) None

  -- a folder that is passed by and a leaf in conflict keep their vector; each other path gets the greater of both
  unfoldable pub vector_after : ℕ → List ℕ
  vector_after p =
      cond (touched p && not (passed p) && not (is_conflict (leaf_outcome p)))
      (own b (greater (vector_at a p) (vector_at b p))) (vector_at b p)

  unfoldable pub entry_after : ℕ → Option Entry
  entry_after p =
      cond (touched p)
      (settled b p (vector_after p) (vector_after (parent levels p))
      (grade_after (leaf_outcome p) (grade_at a p) (grade_at b p))) (lookup b.entries p)

-- only paths entered on either side and the path of the call can be entered after it
abbrev pub candidates : Model → Model → Path → List Path
candidates a b p = with_path p (with_paths a.entries (with_paths b.entries []))

abbrev pub entries_after : Model → Model → Path → List Slot
entries_after a b p = gather (entry_after a b p.number) (candidates a b p)

-- the conflicts, in path order
abbrev pub report_of : Path → Option Outcome → List Reported
report_of p None = []
report_of p (Some Kept) = []
report_of p (Some Taken) = []
report_of p (Some Removed) = []
report_of p (Some (Conflict k)) = record { leaf = p; kind = k } ∷ []

abbrev pub reports : (ℕ → Option Outcome) → List Path → List Reported
reports f [] = []
reports f (p ∷ ps) = report_of p (f p.number) ++ reports f ps

abbrev pub conflicts_of : Model → Model → Path → List Reported
conflicts_of a b p = reports (leaf_outcome a b p.number) (candidates a b p)

-- how many leaves have each outcome
abbrev pub tally_of : (ℕ → Option Outcome) → List Path → Tally
tally_of f [] = no_counts
tally_of f (p ∷ ps) = counted (f p.number) (tally_of f ps)

-- work and report are the places of the two lists
abbrev pub sync_refusal : Model → Model → Path → ℕ → ℕ → Option Fault
sync_refusal a b p work report =
    first_of (refuse_if (a.number.number == b.number.number) (SamePanel (site b p)))
    (first_of (refuse_if (nat_lt work b.capacity) (ShortWorkList (site b p)))
    (first_of (refuse_if (nat_lt report (length (conflicts_of a b p))) (ShortReport (site b p)))
    (refuse_if (nat_lt b.capacity (length (entries_after a b p))) (store_fault b p Full))))

-- A is only read; B's entries are those after the call
abbrev pub Syncs : Model → Model → Path → ℕ → ℕ → Result Tally Fault → Model → Type 0
Syncs a b p work report (Ok tally) after =
    (sync_refusal a b p work report ≡ None)
    × (tally ≡ tally_of (leaf_outcome a b p.number) (candidates a b p))
    × (after ≡ with_entries b (entries_after a b p))
Syncs a b p work report (Err f) after = (sync_refusal a b p work report ≡ Some f) × (after ≡ b)

-- the places of the report list: the conflicts from the front, and later places unchanged; after a refusal, all as before
abbrev pub report_after : Model → Model → Path → Result Tally Fault → List Reported → List Reported
report_after a b p (Ok tally) places = conflicts_of a b p ++ drop (length (conflicts_of a b p)) places
report_after a b p (Err f) places = places

-- how many places of the report list are filled
abbrev pub report_filled : Model → Model → Path → Result Tally Fault → ℕ → ℕ
report_filled a b p (Ok tally) before = length (conflicts_of a b p)
report_filled a b p (Err f) before = before

-- the places of the work list: open after a sync that is done, and as before after one that is refused
abbrev pub WorkAfter : Result Tally Fault → List Slot → List Slot → Type 0
WorkAfter (Ok tally) before after = length after ≡ length before
WorkAfter (Err f) before after = after ≡ before
