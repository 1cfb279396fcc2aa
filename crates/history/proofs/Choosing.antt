-- What a panel knows and holds at one leaf after a choice that was accepted.
use Rattle.std.proofs.Common.{◌≡◌, ℕ, ◌+◌, ◌≤◌, Bool, true, false, cond, not, ◌&&◌, ◌||◌, eqb, List, length, is_some, Some, None, Ok, Option, sym, refl, ap, ◌∙◌, subst, arith}
use Rattle.std.specs.Option.{option_map}
use Rattle.std.proofs.lemmas.Bool.{and_parts, both_ways, not-false, ne_eqb, false≢true}
use Rattle.paths.specs.Parts.{grade_parts, knobs_parts}
use Rattle.paths.specs.Vectors.{greater, place, same_places}
use Rattle.paths.specs.Values.{Grade, GradeParts}
use Rattle.paths.specs.declared.path.Path.{Path}
use Rattle.paths.specs.Steps.{levels, parent}
use Rattle.stores.proofs.Entries.{put_count, drop-count}
use Rattle.stores.specs.Meaning.{Model, Lawful, is_leaf, is_full, at_last}
use Rattle.stores.specs.Slots.{lookup, put}
use Rattle.stores.specs.declared.entry.Entry.{Entry}
use Rattle.stores.specs.declared.entry.Slot.{Slot}
use Rattle.engine.proofs.Acting.{choice_settles}
use Rattle.engine.proofs.ActsKeeping.{acts_keep_lawful}
use Rattle.engine.proofs.Keeping.{lookup-bare}
use Rattle.engine.specs.Acts.{next_stamp}
use Rattle.engine.specs.Conflicts.{
  agree,
  stamp_at,
  after_choice,
  put_or_drop,
  bad_knobs,
  still_stands,
  due_after_choice,
  chosen,
  chosen_knobs,
  Chooses,
}
use Rattle.engine.specs.Knowledge.{own, vector_at, grade_at, outcome_at, is_conflict, due, settled}
use Rattle.engine.specs.LeafRule.{version, outcome}
use Rattle.engine.specs.declared.answers.Choice.{Choice}
use Rattle.engine.specs.declared.answers.Choice.TheVariants.{Ours, Theirs, Third}
use Rattle.engine.specs.declared.answers.Conflict.{Conflict}
use Rattle.history.specs.History.{picked, chosen_grade}
use Rattle.history.specs.Law.{held, Leaf}
use Rattle.history.proofs.Ticking.{Acted, Ticked, tick_acted, tick_ticked, none_of_four, mapped_cond}

-- a grade stands at a leaf only
grade_at-leaf : (m : Model) (q : ℕ) (g : Grade) → Lawful m → grade_at m q ≡ Some g → is_leaf q ≡ true
grade_at-leaf m q g law is =
    leaf (is_leaf q) (is_some (grade_at m q)) (lookup-bare m.entries q law.bare) (ap is_some is)
  where
    leaf : (x y : Bool) → (x || not y) ≡ true → y ≡ true → x ≡ true
    leaf x y h t = grind arith

-- a conflict stands at a leaf only
conflict_at-leaf :
    (a b : Model) (q : ℕ) → Lawful a → Lawful b → is_conflict (outcome_at a b q) ≡ true → is_leaf q ≡ true
unfolding outcome_at
conflict_at-leaf a b q law-a law-b stands = go (grade_at a q) (grade_at b q) refl refl stands
  where
    go :
        (x y : Option Grade) → grade_at a q ≡ x → grade_at b q ≡ y
        → is_conflict (outcome (option_map version x) (vector_at a q) (option_map version y) (vector_at b q)) ≡ true
        → is_leaf q ≡ true
    go None None e f stands = absurd (false≢true stands)
    go None (Some y) e f stands = grade_at-leaf b q y law-b f
    go (Some x) y e f stands = grade_at-leaf a q x law-a e

-- where there is room for what is due, the entries after the choice fit
fits_after :
    (b : Model) (p : Path) (o : Option Entry) → Lawful b → (is_some o && is_full b p.number) ≡ false
    → length (put_or_drop b.entries p o) ≤ b.capacity
fits_after b p None law room =
    omega (arith, law.fits, drop-count b.entries p.number)
fits_after b p (Some e) law room =
    let s : Slot = record { path = p; entry = e } in
    go (is_some (lookup b.entries p.number)) room (put_count b.entries s law.in_order)
  where
    go :
        (found : Bool) → (true && (not found && eqb (length b.entries) b.capacity)) ≡ false
        → length (put b.entries (record { path = p; entry = e })) ≡ cond found (length b.entries) (length b.entries + 1)
        → length (put b.entries (record { path = p; entry = e })) ≤ b.capacity
    go true room count = omega (arith, count, law.fits)
    go false room count = let f = law.fits in grind arith

knobs_held :
    (o : Option Grade) → option_map (λ g. knobs_parts g.knobs) o ≡ option_map (λ g. g.knobs) (option_map grade_parts o)
knobs_held None = refl
knobs_held (Some g) = refl

picked_is : (a b : Model) (q : ℕ) (c : Choice) → chosen_knobs a b q c ≡ picked c (held a q) (held b q)
picked_is a b q Ours = knobs_held (grade_at b q)
picked_is a b q Theirs = knobs_held (grade_at a q)
picked_is a b q (Third k) = refl

module _
    (a b : Model) (t : Conflict) (c : Choice) (clock : ℕ) (n : Model) (law-a : Lawful a) (law-b : Lawful b)
    (w : Chooses a b t c (Ok clock) n) where
  accepts :
      (bad_knobs c ≡ false) × (not (still_stands a b t) ≡ false)
      × ((due_after_choice a b t.meeting.path.number c && is_full b t.meeting.path.number) ≡ false) × (at_last b ≡ false)
  accepts =
      none_of_four (bad_knobs c) (not (still_stands a b t))
      (due_after_choice a b t.meeting.path.number c && is_full b t.meeting.path.number) (at_last b) _ _ _ _ w.0

  -- the tests by which the conflict still stands
  abbrev panels : Bool
  panels = eqb a.number.number t.meeting.source.number && eqb b.number.number t.meeting.destination.number

  abbrev in_conflict : Bool
  in_conflict = is_conflict (outcome_at a b t.meeting.path.number)

  stands : (panels ≡ true) × (in_conflict ≡ true)
  stands =
      let theirs = agree (stamp_at a t.meeting.path.number) t.theirs in
      let ours = agree (stamp_at b t.meeting.path.number) t.ours in
      let (front, _) = and_parts (panels && in_conflict && theirs) ours (not-false (still_stands a b t) accepts.1) in
      let (front, _) = and_parts (panels && in_conflict) theirs front in and_parts panels in_conflict front

  choice-leaf : is_leaf t.meeting.path.number ≡ true
  choice-leaf = conflict_at-leaf a b t.meeting.path.number law-a law-b stands.1

  abbrev p : ℕ
  p = t.meeting.path.number

  abbrev grade_chosen : Option GradeParts
  grade_chosen = chosen_grade (picked c (held a p) (held b p)) (next_stamp b)

  -- the leaf is due after it as the refusal foresees
  room : (g : Option Grade) → option_map grade_parts g ≡ chosen a b p c → length (after_choice a b t.meeting.path g) ≤ b.capacity
  room g parts =
      fits_after b t.meeting.path (settled b p both up g) law-b
      (ap (λ x. x && is_full b p) (settled-some g ∙ due_is) ∙ accepts.2)
    where
      both : List ℕ
      both = own b (greater (vector_at a p) (vector_at b p))

      up : List ℕ
      up = vector_at b (parent levels p)

      settled-some : (g : Option Grade) → is_some (settled b p both up g) ≡ due p both up g
      settled-some g = some-cond (due p both up g) _
        where
          some-cond : (x : Bool) (e : Entry) → is_some (cond x (Some e) None) ≡ x
          some-cond true e = refl
          some-cond false e = refl

      not_root : eqb p 0 ≡ false
      not_root = ne_eqb p 0 (λ e. both_ways (is_leaf p) (ap is_leaf e) choice-leaf)

      some_mapped : {X Y : Type 0} (f : X → Y) (o : Option X) → is_some (option_map f o) ≡ is_some o
      some_mapped f None = refl
      some_mapped f (Some x) = refl

      due_is : due p both up g ≡ due_after_choice a b p c
      due_is =
          (λ i. not_root i || is_some g || not (same_places both up))
          ∙ ap (λ x. x || not (same_places both up))
          (sym (some_mapped grade_parts g) ∙ ap is_some parts ∙ some_mapped _ (chosen_knobs a b p c))

  pub choice_ticked : Ticked b n
  choice_ticked =
      let (g, parts, is) = w.2 in
      subst (Ticked b) (sym is)
      (tick_ticked b _ refl refl accepts.3 ((acts_keep_lawful b law-b).choice a t.meeting.path g choice-leaf (room g parts)))

  pub choice_acted :
      (q : ℕ) → Leaf q
      → Acted b n q
      (place (cond (eqb p q) (own b (greater (vector_at a q) (vector_at b q))) (vector_at b q)))
      (cond (eqb p q) grade_chosen (held b q))
  choice_acted q leaf =
      let (g, parts, is) = w.2 in
      let settles = choice_settles a b t.meeting.path g q law-b choice-leaf leaf.0 in
      let grade : option_map grade_parts g ≡ grade_chosen =
      parts ∙ ap (λ k. chosen_grade k (next_stamp b)) (picked_is a b p c) in
      subst
      (λ m. Acted b m q (place (cond (eqb p q) (own b (greater (vector_at a q) (vector_at b q))) (vector_at b q)))
      (cond (eqb p q) grade_chosen (held b q)))
      (sym is)
      (tick_acted b _ q _ _ refl refl accepts.3 settles.vector
      (ap (option_map grade_parts) settles.grade ∙ mapped_cond (eqb p q) g (grade_at b q)
      ∙ ap (λ x. cond (eqb p q) x (held b q)) grade))
