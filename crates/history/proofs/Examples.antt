-- Short runs, computed: what the stores come to by the definitions of the calls, and that the history says the same.
use Rattle.std.proofs.Common.{◌≡◌, ℕ, true, false, T, leb, List, [], ◌∷◌, pos, Some, None, Option, refl, lit≤}
use lib.Signed.{le_z_yes}
use Rattle.paths.specs.Vectors.{with_place}
use Rattle.paths.specs.Values.{Grade, SettingParts, Stamp}
use Rattle.paths.specs.declared.grade.Knob.{Knob}
use Rattle.paths.specs.declared.path.Path.{Path}
use Rattle.paths.specs.declared.stamp.Panel.{Panel}
use Rattle.stores.specs.Climb.{climb, climb_by}
use Rattle.stores.specs.Making.{blank}
use Rattle.stores.specs.Meaning.{Model, nearest, least_at, greatest_at, with_entries, put_model, tick_model}
use Rattle.engine.specs.Acts.{after_removal}
use Rattle.engine.specs.Conflicts.{after_choice}
use Rattle.engine.specs.Knowledge.{vector_at, outcome_at}
use Rattle.engine.specs.Syncs.{passed, below_passed, touched, leaf_outcome, vector_after, entry_after, entries_after}
use Rattle.engine.specs.declared.answers.Choice.TheVariants.{Theirs}
use Rattle.engine.specs.declared.answers.Conflict.{Conflict}
use Rattle.engine.specs.declared.leaf.Kind.TheVariants.{Tangled, RemovedAtSource}
use Rattle.engine.specs.declared.leaf.Outcome.TheVariants.{Taken, Removed, Conflict as InConflict}
use Rattle.history.specs.History.{Act, Call, write, remove, sync, choose, Event, history, reached, overruled, standing, side, arrived, prevails}
use Rattle.history.specs.Law.{held}

abbrev leaf : Path
leaf = record { number = 50397441; lawful = tt }

abbrev root : Path
root = record { number = 0; lawful = tt }

abbrev panel : (k : ℕ) → T (leb 1 k) → T (leb k 8) → Panel
panel k low high = record { number = k; low = lit≤ low; high = lit≤ high }

abbrev one : Panel
one = panel 1 tt tt

abbrev two : Panel
two = panel 2 tt tt

abbrev three : Panel
three = panel 3 tt tt

abbrev four : Panel
four = panel 4 tt tt

abbrev stamp : Panel → (t : ℕ) → T (leb 1 t) → T (leb t 1000000) → Stamp
stamp k t low high = record { panel = k; time = record { value = t; low = lit≤ low; high = lit≤ high } }

abbrev zero_knob : Knob
zero_knob = record { value = pos 0; low = le_z_yes tt; high = le_z_yes tt }

abbrev ten : Knob
ten = record { value = pos 10; low = le_z_yes tt; high = le_z_yes tt }

-- lift 10, the rest 0
abbrev grade : Stamp → Stamp → Grade
grade s b =
    record { knobs = record { lift = ten; gamma = zero_knob; gain = zero_knob; contrast = zero_knob }; stamp = s; birth = b }

abbrev lift_ten : SettingParts
lift_ten = record { lift = Some (pos 10); gamma = None; gain = None; contrast = None }

-- the stores after each call
abbrev written : Model → Grade → Model
written m g =
    tick_model
    (put_model m leaf
    (record {
      vector = record { places = with_place (vector_at m leaf.number) m.number.number 0 };
      grade = Some g;
    }))

abbrev removed : Model → Model
removed m = tick_model (with_entries m (after_removal m 0 m.entries))

abbrev synced : Model → Model → Model
synced a b = with_entries b (entries_after a b root)

abbrev chosen : Model → Model → Option Grade → Model
chosen a b g = tick_model (with_entries b (after_choice a b leaf g))

-- the calls
abbrev done : Call → List ℕ → Event
done c reported = record { call = c; accepted = true; reported = reported }

abbrev w : ℕ → Event
w k = done (write k leaf lift_ten) []

abbrev r : ℕ → Event
r k = done (remove k root) []

abbrev s : ℕ → ℕ → List ℕ → Event
s a b reported = done (sync a b root 16 8) reported

-- panel 1 writes, and a sync brings the grade to panel 2
abbrev one_wrote : Model
one_wrote = written (blank one 16) (grade (stamp one 1 tt tt) (stamp one 1 tt tt))

abbrev two_took : Model
two_took = synced one_wrote (blank two 16)

abbrev taken_run : List Event
taken_run = s 1 2 [] ∷ (w 1 ∷ [])

-- panel 2 removes it, and panel 1, not knowing that, writes again
abbrev two_removed : Model
two_removed = removed two_took

abbrev one_again : Model
one_again = written one_wrote (grade (stamp one 2 tt tt) (stamp one 1 tt tt))

abbrev disputed_run : List Event
disputed_run = w 1 ∷ (r 2 ∷ taken_run)

-- panel 1 chooses the empty side of panel 2, and panel 2 learns of it
abbrev one_chose : Model
one_chose = chosen two_removed one_again None

abbrev two_heard : Model
two_heard = synced one_chose two_removed

abbrev token : Conflict
token =
    record {
      meeting = record { source = two; destination = one; path = leaf };
      theirs = None;
      ours = Some (stamp one 2 tt tt);
    }

abbrev chosen_run : List Event
chosen_run = done (choose 2 1 token Theirs) [] ∷ (s 2 1 (leaf.number ∷ []) ∷ disputed_run)

-- panels 3 and 4 write; panel 1 removes what 4 wrote and takes what 3 wrote, and panel 2 the other way round
abbrev three_wrote : Model
three_wrote = written (blank three 16) (grade (stamp three 1 tt tt) (stamp three 1 tt tt))

abbrev four_wrote : Model
four_wrote = written (blank four 16) (grade (stamp four 1 tt tt) (stamp four 1 tt tt))

abbrev one_has : Model
one_has = synced three_wrote (removed (synced four_wrote (blank one 16)))

abbrev two_has : Model
two_has = synced four_wrote (removed (synced three_wrote (blank two 16)))

abbrev tangled_run : List Event
tangled_run =
    s 4 2 [] ∷ (r 2 ∷ (s 3 2 [] ∷ (s 3 1 [] ∷ (r 1 ∷ (s 4 1 [] ∷ (w 4 ∷ (w 3 ∷ [])))))))

-- the acts that reached a panel at the leaf
abbrev acts : List Event → ℕ → List Act
acts es k = (history es).notes k leaf.number

pub record Computed : Type 0 where
  pub taken : outcome_at one_wrote (blank two 16) leaf.number ≡ Some Taken
  pub taken_prevails : prevails (acts (w 1 ∷ []) 1) (acts (w 1 ∷ []) 2) ≡ true
  pub taken_held : held two_took leaf.number ≡ side (acts taken_run 2)
  -- a second sync finds nothing new, and passes the root by
  pub passed_by : passed one_wrote two_took 0 0 ≡ true
  pub removed_later : outcome_at two_removed one_wrote leaf.number ≡ Some Removed
  pub removed_prevails : prevails (acts (r 2 ∷ taken_run) 2) (acts (r 2 ∷ taken_run) 1) ≡ true
  -- a removal that panel 1 did not know is no reason to pass the root by
  pub not_passed : passed two_removed one_wrote 0 0 ≡ false
  pub disputed : outcome_at two_removed one_again leaf.number ≡ Some (InConflict RemovedAtSource)
  pub neither : (prevails (acts disputed_run 2) (acts disputed_run 1) ≡ false) × (prevails (acts disputed_run 1) (acts disputed_run 2) ≡ false)
  pub chosen_empty : (held one_chose leaf.number ≡ None) × (side (acts chosen_run 1) ≡ None)
  pub heard : (held two_heard leaf.number ≡ None) × (outcome_at two_heard one_chose leaf.number ≡ None)
  -- each panel holds a grade that the other knows and had removed
  pub tangled : outcome_at one_has two_has leaf.number ≡ Some (InConflict Tangled)
  pub tangled_held :
      (held one_has leaf.number ≡ side (acts tangled_run 1)) × (held two_has leaf.number ≡ side (acts tangled_run 2))
  pub tangled_neither :
      (prevails (acts tangled_run 1) (acts tangled_run 2) ≡ false) × (prevails (acts tangled_run 2) (acts tangled_run 1) ≡ false)

pub computed : Computed
unfolding reached overruled standing side prevails arrived leaf_outcome touched below_passed passed vector_after entry_after outcome_at vector_at nearest least_at greatest_at climb climb_by
computed =
    record {
      taken = refl;
      taken_prevails = refl;
      taken_held = refl;
      passed_by = refl;
      removed_later = refl;
      removed_prevails = refl;
      not_passed = refl;
      disputed = refl;
      neither = (refl, refl);
      chosen_empty = (refl, refl);
      heard = (refl, refl);
      tangled = refl;
      tangled_held = (refl, refl);
      tangled_neither = (refl, refl);
    }
