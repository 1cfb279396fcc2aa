-- Opening a conflict, choosing and leaving.
use Rattle.std.specs.Prelude.{◌≡◌, ℕ, ◌+◌, Bool, true, false, not, ◌&&◌, ◌||◌, List, is_some, Some, None, Ok, Err, Option, Result, ◌==◌}
use Rattle.std.specs.Option.{option_map}
use Rattle.paths.specs.Parts.{stamp_parts, knobs_parts, grade_parts, lawful_setting}
use Rattle.paths.specs.Steps.{levels, parent}
use Rattle.paths.specs.Vectors.{greater, same_places}
use Rattle.paths.specs.declared.fault.Cause.TheVariants.{Full, LastTime}
use Rattle.paths.specs.declared.fault.Fault.{Fault}
use Rattle.paths.specs.declared.fault.Fault.TheVariants.{NoLeaf, OutOfRange, SamePanel, NoConflict, StaleConflict}
use Rattle.paths.specs.Values.{Grade, GradeParts, KnobsParts, Stamp}
use Rattle.paths.specs.declared.path.Path.{Path}
use Rattle.stores.specs.Climb.{first_of}
use Rattle.stores.specs.Meaning.{Model, is_leaf, is_full, at_last, with_entries, tick_model}
use Rattle.stores.specs.Slots.{put, drop}
use Rattle.stores.specs.declared.entry.Entry.{Entry}
use Rattle.stores.specs.declared.entry.Slot.{Slot}
use Rattle.engine.specs.Acts.{filled, next_stamp, store_fault}
use Rattle.engine.specs.Knowledge.{own, vector_at, grade_at, outcome_at, is_conflict, settled, site, refuse_if}
use Rattle.engine.specs.LeafRule.{same_stamp}
use Rattle.engine.specs.declared.answers.Choice.{Choice}
use Rattle.engine.specs.declared.answers.Choice.TheVariants.{Ours, Theirs, Third}
use Rattle.engine.specs.declared.answers.Conflict.{Conflict}

abbrev pub stamp_at : Model → ℕ → Option Stamp
stamp_at m p = option_map (λ g. g.stamp) (grade_at m p)

-- opening asks the leaf rule only
abbrev pub open_refusal : Model → Model → Path → Option Fault
open_refusal a b p =
    first_of (refuse_if (not (is_leaf p.number)) (NoLeaf (site b p)))
    (first_of (refuse_if (a.number.number == b.number.number) (SamePanel (site b p)))
    (refuse_if (not (is_conflict (outcome_at a b p.number))) (NoConflict (site b p))))

abbrev pub Opens : Model → Model → Path → Result Conflict Fault → Type 0
Opens a b p (Ok t) =
    (open_refusal a b p ≡ None)
    × (t
    ≡ record {
      meeting = record { source = a.number; destination = b.number; path = p };
      theirs = stamp_at a p.number;
      ours = stamp_at b p.number;
    })
Opens a b p (Err f) = open_refusal a b p ≡ Some f

-- two sides have one stamp, or neither has any
abbrev pub agree : Option Stamp → Option Stamp → Bool
agree None None = true
agree None (Some t) = false
agree (Some s) None = false
agree (Some s) (Some t) = same_stamp (stamp_parts s) (stamp_parts t)

-- the conflict is of these panels, and there still is one of these stamps
abbrev pub still_stands : Model → Model → Conflict → Bool
still_stands a b t =
    (a.number.number == t.meeting.source.number) && b.number.number == t.meeting.destination.number
    && is_conflict (outcome_at a b t.meeting.path.number) && agree (stamp_at a t.meeting.path.number) t.theirs
    && agree (stamp_at b t.meeting.path.number) t.ours

abbrev pub bad_knobs : Choice → Bool
bad_knobs Ours = false
bad_knobs Theirs = false
bad_knobs (Third k) = not (lawful_setting k)

-- the knobs of the side that is chosen, none where it is empty
abbrev pub chosen_knobs : Model → Model → ℕ → Choice → Option KnobsParts
chosen_knobs a b p Ours = option_map (λ g. knobs_parts g.knobs) (grade_at b p)
chosen_knobs a b p Theirs = option_map (λ g. knobs_parts g.knobs) (grade_at a p)
chosen_knobs a b p (Third k) = Some (filled k)

-- a chosen grade has the time of the choice as its stamp and as its birth
abbrev pub chosen : Model → Model → ℕ → Choice → Option GradeParts
chosen a b p c =
    option_map (λ k. record { knobs = k; stamp = next_stamp b; birth = next_stamp b }) (chosen_knobs a b p c)

-- the leaf with this grade and the greater of both vectors, entered exactly if due
abbrev pub put_or_drop : List Slot → Path → Option Entry → List Slot
put_or_drop es p None = drop es p.number
put_or_drop es p (Some e) = put es (record { path = p; entry = e })

abbrev pub after_choice : Model → Model → Path → Option Grade → List Slot
after_choice a b p g =
    put_or_drop b.entries p
    (settled b p.number (own b (greater (vector_at a p.number) (vector_at b p.number)))
    (vector_at b (parent levels p.number)) g)

-- whether the leaf is due after the choice; of the grade only its being there matters
abbrev pub due_after_choice : Model → Model → ℕ → Choice → Bool
due_after_choice a b p c =
    is_some (chosen_knobs a b p c)
    || not (same_places (own b (greater (vector_at a p) (vector_at b p))) (vector_at b (parent levels p)))

abbrev pub choose_refusal : Model → Model → Conflict → Choice → Option Fault
choose_refusal a b t c =
    first_of (refuse_if (bad_knobs c) (OutOfRange (site b t.meeting.path)))
    (first_of (refuse_if (not (still_stands a b t)) (StaleConflict (site b t.meeting.path)))
    (first_of
    (refuse_if (due_after_choice a b t.meeting.path.number c && is_full b t.meeting.path.number) (store_fault b t.meeting.path Full))
    (refuse_if (at_last b) (store_fault b t.meeting.path LastTime))))

-- what is chosen of A arrives first, then B ticks
abbrev pub Chooses : Model → Model → Conflict → Choice → Result ℕ Fault → Model → Type 0
Chooses a b t c (Ok clock) after =
    (choose_refusal a b t c ≡ None) × (clock ≡ b.clock + 1)
    × ((g : Option Grade) × (option_map grade_parts g ≡ chosen a b t.meeting.path.number c)
    × (after ≡ tick_model (with_entries b (after_choice a b t.meeting.path g))))
Chooses a b t c (Err f) after = (choose_refusal a b t c ≡ Some f) × (after ≡ b)

-- leaving a conflict changes nothing
abbrev pub Leaves : Model → Model → Type 0
Leaves before after = after ≡ before
