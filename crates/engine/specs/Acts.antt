-- Write and remove: what they answer, and what the store means after them.
use Rattle.std.specs.Prelude.{◌≡◌, ℕ, ◌+◌, Bool, cond, not, ◌&&◌, List, [], ◌∷◌, ◌++◌, pos, is_some, Some, None, Ok, Err, Option, Result, ◌==◌}
use Rattle.std.specs.Option.{option_map, unwrap_or}
use Rattle.paths.specs.Parts.{stamp_parts, grade_parts, lawful_setting}
use Rattle.paths.specs.Steps.{levels, covers, parent}
use Rattle.paths.specs.Vectors.{with_place}
use Rattle.paths.specs.declared.fault.Cause.{Cause}
use Rattle.paths.specs.declared.fault.Cause.TheVariants.{Full, LastTime}
use Rattle.paths.specs.declared.fault.Fault.{Fault}
use Rattle.paths.specs.declared.fault.Fault.TheVariants.{NoLeaf, OutOfRange, NothingToRemove, Store}
use Rattle.paths.specs.Values.{Grade, GradeParts, KnobsParts, SettingParts, StampParts}
use Rattle.paths.specs.declared.path.Path.{Path}
use Rattle.stores.specs.Climb.{first_of}
use Rattle.stores.specs.Meaning.{Model, is_leaf, is_full, at_last, with_entries, put_model, tick_model}
use Rattle.stores.specs.Slots.{key}
use Rattle.stores.specs.declared.entry.Entry.{Entry}
use Rattle.stores.specs.declared.entry.Slot.{Slot}
use Rattle.engine.specs.Knowledge.{vector_at, grade_at, settled, site, refuse_if}
use Rattle.engine.specs.declared.answers.Removal.{Removal}

-- the store's own fault at a call
abbrev pub store_fault : Model → Path → Cause → Fault
store_fault m p cause = Store (site m p) (record { cause = cause; height = m.height })

-- the stamp of the panel's next act
abbrev pub next_stamp : Model → StampParts
next_stamp m = record { panel = m.number.number; time = m.clock + 1 }

-- knobs left out are 0
abbrev pub filled : SettingParts → KnobsParts
filled k =
    record {
      lift = unwrap_or k.lift (pos 0);
      gamma = unwrap_or k.gamma (pos 0);
      gain = unwrap_or k.gain (pos 0);
      contrast = unwrap_or k.contrast (pos 0);
    }

-- a write keeps the birth of the grade that was there
abbrev pub written : Model → ℕ → SettingParts → GradeParts
written m p k =
    record {
      knobs = filled k;
      stamp = next_stamp m;
      birth = unwrap_or (option_map (λ g. stamp_parts g.birth) (grade_at m p)) (next_stamp m);
    }

abbrev pub write_refusal : Model → Path → SettingParts → Option Fault
write_refusal m p k =
    first_of (refuse_if (not (is_leaf p.number)) (NoLeaf (site m p)))
    (first_of (refuse_if (not (lawful_setting k)) (OutOfRange (site m p)))
    (first_of (refuse_if (is_full m p.number) (store_fault m p Full))
    (refuse_if (at_last m) (store_fault m p LastTime))))

-- a write at p: the leaf has the written grade and the vector that it had, and the clock ticks
abbrev pub Writes : Model → Path → SettingParts → Result ℕ Fault → Model → Type 0
Writes m p k (Ok clock) after =
    (write_refusal m p k ≡ None) × (clock ≡ m.clock + 1)
    × ((g : Grade) × (grade_parts g ≡ written m p.number k)
    × (after
    ≡ tick_model
    (put_model m p
    (record {
      vector = record { places = with_place (vector_at m p.number) m.number.number 0 };
      grade = Some g;
    }))))
Writes m p k (Err f) after = (write_refusal m p k ≡ Some f) × (after ≡ m)

-- a removal over p touches the covered leaves that have a grade
abbrev pub removes : ℕ → Slot → Bool
removes p s = covers levels p (key s) && is_some s.entry.grade

abbrev pub removed_count : ℕ → List Slot → ℕ
removed_count p [] = 0
removed_count p (s ∷ es) = cond (removes p s) (removed_count p es + 1) (removed_count p es)

abbrev pub slot_of : Path → Option Entry → List Slot
slot_of q None = []
slot_of q (Some e) = record { path = q; entry = e } ∷ []

-- a leaf without its grade is settled: it stays entered exactly if its vector differs from its parent's
abbrev pub without_grade : Model → Slot → List Slot
without_grade m s =
    slot_of s.path
    (settled m (key s) (vector_at m (key s)) (vector_at m (parent levels (key s))) None)

abbrev pub after_removal : Model → ℕ → List Slot → List Slot
after_removal m p [] = []
after_removal m p (s ∷ es) = cond (removes p s) (without_grade m s) (s ∷ []) ++ after_removal m p es

abbrev pub remove_refusal : Model → Path → Option Fault
remove_refusal m p =
    first_of (refuse_if (removed_count p.number m.entries == 0) (NothingToRemove (site m p)))
    (refuse_if (at_last m) (store_fault m p LastTime))

-- a removal over p takes every covered grade away and ticks once
abbrev pub Removes : Model → Path → Result Removal Fault → Model → Type 0
Removes m p (Ok r) after =
    (remove_refusal m p ≡ None)
    × (r ≡ record { removed = removed_count p.number m.entries; clock = m.clock + 1 })
    × (after ≡ tick_model (with_entries m (after_removal m p.number m.entries)))
Removes m p (Err f) after = (remove_refusal m p ≡ Some f) × (after ≡ m)
