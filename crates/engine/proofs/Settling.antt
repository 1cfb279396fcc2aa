-- After a sync the destination knows at every path what it should, and enters a path exactly if that is due.
use Rattle.std.proofs.Common.{◌≡◌, ℕ, zero, suc, ◌-◌, Bool, true, false, cond, not, ◌&&◌, ◌||◌, eqb, List, is_some, Some, None, Option, sym, refl, ap, ◌∙◌, subst, ap₂, inl, inr, arith}
use Rattle.std.proofs.lemmas.Bool.{and_parts, and_from, and_right, cond-true, cond-false, cond_both, cases_Bool, cases_eq, both_ways, not-true, eqb-true, ne_eqb, or_cases, or_parts, or_from}
use Rattle.paths.proofs.Levels.{covering, parents}
use Rattle.paths.proofs.Places.{at_most_itself, put_at_most, greater_joins}
use Rattle.paths.proofs.Values.{path-lawful}
use Rattle.paths.specs.Steps.{levels, is_number, covers, parent}
use Rattle.paths.specs.Vectors.{with_place, greater, at_most, same_places}
use Rattle.paths.specs.declared.path.Path.{Path}
use Rattle.stores.proofs.Bounds.{climb_step}
use Rattle.stores.specs.Climb.{first_of, climb, climb_by}
use Rattle.stores.specs.Meaning.{Model, Lawful, is_leaf, nearest}
use Rattle.stores.specs.Slots.{lookup}
use Rattle.engine.specs.Knowledge.{own, vector_at, grade_at, outcome_at, is_conflict, settled}
use Rattle.engine.specs.SyncLaws.{SyncSettles}
use Rattle.engine.specs.Syncs.{
  grade_after,
  passed,
  below_passed,
  touched,
  leaf_outcome,
  vector_after,
  entry_after,
  candidates,
  entries_after,
}
use Rattle.engine.proofs.Gathered.{has, no_candidate, gathered}
use Rattle.engine.proofs.Knowing.{
  same-itself,
  put_twice,
  own_cleared,
  vector_above,
  vector_cleared,
  parent_folder,
  not_root,
  Fits,
  settled-fits,
  kept-fits,
  knows,
}
use Rattle.engine.proofs.Passing.{passed_is_known}

-- the greater of a vector and one that it is at most is the latter
own-greater :
    (m : Model) (v w : List ℕ) → at_most v (own m w) ≡ true
    → same_places (own m w) (own m (greater v (own m w))) ≡ true
own-greater m v w h =
    let i : ℕ = m.number.number - 1 in
    let again : own m (own m w) ≡ own m w = put_twice w i m.clock m.clock in
    let both : List ℕ = greater v (own m w) in
    subst (λ u. same_places u (own m both) ≡ true) again
    (and_from (at_most (own m (own m w)) (own m both)) _
    (put_at_most (own m w) both i m.clock (greater_joins.right v (own m w)))
    (put_at_most both (own m w) i m.clock
    (greater_joins.least (own m w) v (own m w) h (at_most_itself (own m w)))))

-- what is known adds nothing
known-greater :
    (m : Model) (v : List ℕ) (q : ℕ) → at_most v (vector_at m q) ≡ true
    → same_places (vector_at m q) (own m (greater v (vector_at m q))) ≡ true
unfolding vector_at
known-greater m v q h = own-greater m v (nearest m.entries q) h

-- what a test marks
abbrev marked : (ℕ → Bool) → ℕ → Option (Unit {0})
marked t q = cond (t q) (Some (tt {0})) None

is_marked : (x : Bool) (o : Option (Unit {0})) → is_some (first_of (cond x (Some (tt {0})) None) o) ≡ (x || is_some o)
is_marked true o = refl
is_marked false o = refl

-- from the root a climb finds only what is there
climb-root : (n : ℕ) (t : ℕ → Bool) → is_some (climb_by n (marked t) 0) ≡ t 0
unfolding climb_by
climb-root zero t = grind arith
climb-root (suc n) t = grind (arith, climb-root n t)

-- a path without a grade that has the places of its parent is not due
settled_not :
    (m : Model) (p : ℕ) (v up : List ℕ) → (p ≡ 0 → ⊥) → same_places v up ≡ true → settled m p v up None ≡ None
settled_not m p v up some same = rw (ne_eqb p 0 some, same)

-- where nothing is entered on either side there is nothing to decide
outcome_empty :
    (a b : Model) (p : ℕ) → lookup a.entries p ≡ None → lookup b.entries p ≡ None → outcome_at a b p ≡ None
unfolding outcome_at
outcome_empty a b p none-a none-b = rw (none-a, none-b)

module _ (a b : Model) (top : ℕ) where
  -- the paths that get the greater of both vectors
  abbrev moves : ℕ → Bool
  moves p = touched a b top p && not (passed a b top p) && not (is_conflict (leaf_outcome a b top p))

  after-moves :
      (p : ℕ) → moves p ≡ true → vector_after a b top p ≡ own b (greater (vector_at a p) (vector_at b p))
  unfolding vector_after
  after-moves p h = cond-true (moves p) _ _ h

  after-stays : (p : ℕ) → moves p ≡ false → vector_after a b top p ≡ vector_at b p
  unfolding vector_after
  after-stays p h = cond-false (moves p) _ _ h

  -- either way it has the clock in the panel's own place
  after_cleared :
      (p : ℕ)
      → own b (with_place (vector_after a b top p) b.number.number 0) ≡ vector_after a b top p
  after_cleared p =
      elim (cases_Bool (moves p)) [
        | inl h ↦ rw (after-moves p h) (own_cleared b (greater (vector_at a p) (vector_at b p)))
        | inr h ↦ rw (after-stays p h) (vector_cleared b p)
      ]

  -- touched is covered, and not below a passed folder
  touched_parts :
      (p : ℕ) → touched a b top p ≡ true → (covers levels top p ≡ true) × (below_passed a b top p ≡ false)
  unfolding touched
  touched_parts p h =
      let (over, free) = and_parts (covers levels top p) (not (below_passed a b top p)) h in
      (over, not-true (below_passed a b top p) free)

  touched-from :
      (p : ℕ) → covers levels top p ≡ true → below_passed a b top p ≡ false → touched a b top p ≡ true
  unfolding touched
  touched-from p over free = and_from (covers levels top p) (not (below_passed a b top p)) over (ap not free)

  -- at or below a passed folder
  abbrev within : ℕ → Bool
  within p = is_some (climb (marked (passed a b top)) p)

  below_above : (p : ℕ) → (p ≡ 0 → ⊥) → below_passed a b top p ≡ within (parent levels p)
  unfolding below_passed
  below_above p some = ap (λ x. not x && within (parent levels p)) (ne_eqb p 0 some)

  within-root : within 0 ≡ (passed a b top 0 || below_passed a b top 0)
  unfolding climb below_passed
  within-root = climb-root levels (passed a b top) ∙ grind arith

  within_is : (p : ℕ) → is_number levels p ≡ true → within p ≡ (passed a b top p || below_passed a b top p)
  within_is p h =
      elim (cases_eq p 0) [
        | inl z ↦ rw z within-root
        | inr some ↦
            ap is_some (climb_step (marked (passed a b top)) p h) ∙ is_marked (passed a b top p) _
            ∙ ap (λ x. passed a b top p || x) (sym (below_above p some))
      ]

  -- a path is below a passed folder if its parent is one or is below one
  below_step :
      (p : ℕ) → is_number levels p ≡ true → (p ≡ 0 → ⊥)
      → below_passed a b top p ≡ (passed a b top (parent levels p) || below_passed a b top (parent levels p))
  below_step p h some = below_above p some ∙ within_is (parent levels p) ((parents levels).parent_lawful p h)

  moves_parts : (p : ℕ) → moves p ≡ true → (touched a b top p ≡ true) × (passed a b top p ≡ false)
  moves_parts p h = grind arith

  moves_from :
      (p : ℕ) → touched a b top p ≡ true → passed a b top p ≡ false → leaf_outcome a b top p ≡ None → moves p ≡ true
  moves_from p touch folder none = rw (touch, folder, none)

  -- a folder, and a leaf that is entered on neither side, have no outcome
  pub leaf-at_folder : (p : ℕ) → is_leaf p ≡ false → leaf_outcome a b top p ≡ None
  unfolding leaf_outcome
  leaf-at_folder p folder =
      cond-false (touched a b top p && is_leaf p) _ None (and_right (touched a b top p) (is_leaf p) folder)

  pub leaf_empty :
      (p : ℕ) → lookup a.entries p ≡ None → lookup b.entries p ≡ None → leaf_outcome a b top p ≡ None
  unfolding leaf_outcome
  leaf_empty p none-a none-b =
      cond_both (touched a b top p && is_leaf p) _ None (λ o. o ≡ None) (λ _. outcome_empty a b p none-a none-b)
      (λ _. refl)

  -- what is touched is settled, and all else stays
  pub entry_touched :
      (p : ℕ) → touched a b top p ≡ true
      → entry_after a b top p
      ≡ settled b p (vector_after a b top p) (vector_after a b top (parent levels p))
      (grade_after (leaf_outcome a b top p) (grade_at a p) (grade_at b p))
  unfolding entry_after
  entry_touched p h = cond-true (touched a b top p) _ _ h

  pub entry_kept : (p : ℕ) → touched a b top p ≡ false → entry_after a b top p ≡ lookup b.entries p
  unfolding entry_after
  entry_kept p h = cond-false (touched a b top p) _ _ h

  -- what is not touched keeps its vector
  kept-vector : (p : ℕ) → touched a b top p ≡ false → vector_after a b top p ≡ vector_at b p
  kept-vector p h = after-stays p (rw h)

  -- a folder that is passed by keeps its vector
  passed-stays : (p : ℕ) → passed a b top p ≡ true → vector_after a b top p ≡ vector_at b p
  passed-stays p pass = after-stays p (grind arith)

  -- what is below a path that moves is touched
  moves_down :
      (q : ℕ) → is_number levels q ≡ true → (q ≡ 0 → ⊥) → moves (parent levels q) ≡ true → touched a b top q ≡ true
  moves_down q k some h =
      let (touch, folder) = moves_parts (parent levels q) h in
      let (over, free) = touched_parts (parent levels q) touch in
      touched-from q ((covering levels).through top (parent levels q) q over ((parents levels).parent_covers q k))
      (below_step q k some
      ∙ or_from (passed a b top (parent levels q)) (below_passed a b top (parent levels q)) folder free)

  -- so above a path that is not touched nothing moves
  kept_above :
      (q : ℕ) → is_number levels q ≡ true → (q ≡ 0 → ⊥) → touched a b top q ≡ false
      → vector_after a b top (parent levels q) ≡ vector_at b (parent levels q)
  kept_above q k some h =
      elim (cases_Bool (moves (parent levels q))) [
        | inl m ↦ absurd (both_ways (touched a b top q) h (moves_down q k some m))
        | inr m ↦ after-stays (parent levels q) m
      ]

  -- each path is entered after a sync with its vector, or is not the root and has the places of its parent
  pub entry_fits :
      Lawful b → (q : ℕ) → is_number levels q ≡ true → Fits b (vector_after a b top) q (entry_after a b top q)
  entry_fits lawful q k =
      elim (cases_Bool (touched a b top q)) [
        | inl t ↦
            rw (entry_touched q t) (settled-fits b (vector_after a b top) q _ _ _ refl refl (after_cleared q))
        | inr t ↦
            rw (entry_kept q t)
            (kept-fits b lawful (vector_after a b top) q k (kept-vector q t) (λ some. kept_above q k some t))
      ]

  -- at a path that is entered on neither side, is not the path of the call, and is touched
  module _
      (q : ℕ) (lawful-top : is_number levels top ≡ true) (lawful-q : is_number levels q ≡ true)
      (none-a : lookup a.entries q ≡ None) (none-b : lookup b.entries q ≡ None) (inner : q ≡ 0 → ⊥)
      (other : q ≡ top → ⊥) (touch : touched a b top q ≡ true) where
    parent-covered : covers levels top (parent levels q) ≡ true
    parent-covered =
        elim (or_cases (eqb top q) (not (eqb q 0) && covers levels top (parent levels q)) ways) [
          | inl e ↦ absurd (other (sym (eqb-true top q e)))
          | inr w ↦ (and_parts (not (eqb q 0)) (covers levels top (parent levels q)) w).1
        ]
      where
        ways : (eqb top q || (not (eqb q 0) && covers levels top (parent levels q))) ≡ true
        ways = sym ((parents levels).climbs top q lawful-top lawful-q) ∙ (touched_parts q touch).0

    -- its parent gets the greater of both vectors
    parent-moves : moves (parent levels q) ≡ true
    parent-moves =
        let up : ℕ = parent levels q in
        let out = sym (below_step q lawful-q inner) ∙ (touched_parts q touch).1 in
        let (folder, free) = or_parts (passed a b top up) (below_passed a b top up) out in
        moves_from up (touched-from up parent-covered free) folder (leaf-at_folder up (parent_folder q lawful-q))

    -- and so does it, or else it knows both
    same_above : same_places (vector_after a b top q) (vector_after a b top (parent levels q)) ≡ true
    same_above =
        rw parent-has
        (elim (cases_Bool (passed a b top q)) [
          | inl pass ↦
              rw (passed-stays q pass)
              (known-greater b (vector_at a q) q
              (passed_is_known a b top q q lawful-q lawful-q pass ((covering levels).itself q)).known)
          | inr folder ↦ rw (after-moves q (moves_from q touch folder (leaf_empty q none-a none-b))) (same-itself both)
        ])
      where
        both : List ℕ
        both = own b (greater (vector_at a q) (vector_at b q))

        parent-has : vector_after a b top (parent levels q) ≡ both
        parent-has =
            after-moves (parent levels q) parent-moves
            ∙ ap₂ (λ v w. own b (greater v w)) (sym (vector_above a q lawful-q none-a))
            (sym (vector_above b q lawful-q none-b))

    -- so it is not due
    touched_none : entry_after a b top q ≡ None
    touched_none =
        entry_touched q touch
        ∙ rw (leaf_empty q none-a none-b, none-b)
        (settled_not b q (vector_after a b top q) (vector_after a b top (parent levels q)) inner same_above)

  -- no path is entered anew but that of the call
  nothing_new :
      Lawful b → is_number levels top ≡ true → (q : ℕ) → is_number levels q ≡ true
      → lookup a.entries q ≡ None → lookup b.entries q ≡ None → (q ≡ top → ⊥) → entry_after a b top q ≡ None
  nothing_new lawful h q k none-a none-b other =
      elim (cases_Bool (touched a b top q)) [
        | inl touch ↦ touched_none q h k none-a none-b (not_root b lawful q none-b) other touch
        | inr out ↦ entry_kept q out ∙ none-b
      ]

-- what is found after the call is what each path has after it
pub found_after :
    (a b : Model) (top : Path) → Lawful b → (q : ℕ) → is_number levels q ≡ true
    → lookup (entries_after a b top) q ≡ entry_after a b top.number q
found_after a b top lawful q k =
    gathered (entry_after a b top.number) (candidates a b top) q
    ∙ cond_both (has q (candidates a b top)) _ None (λ o. o ≡ entry_after a b top.number q) (λ _. refl)
    (λ out. (let (other, none-a, none-b) = no_candidate a b top q out in
    sym (nothing_new a b top.number lawful (path-lawful top) q k none-a none-b other)))

pub sync_settles : SyncSettles
sync_settles a b top q lawful-b lawful-q =
    record {
      found = found_after a b top lawful-b q lawful-q;
      vector =
          knows b (entries_after a b top) (vector_after a b top.number)
          (λ r l. rw (found_after a b top lawful-b r l) (entry_fits a b top.number lawful-b r l)) q lawful-q;
      nothing_new = nothing_new a b top.number lawful-b (path-lawful top) q lawful-q;
    }
