-- What holds at every point of a run, and the promises that follow from it.
use Rattle.std.proofs.Common.{◌≡◌, ℕ, ◌-◌, ◌≤◌, Bool, true, false, cond, not, ◌&&◌, eqb, List, [], ◌∷◌, length, is_some, Some, None, Ok, Err, Option, sym, refl, ap, ◌∙◌, subst, inl, inr, arith}
use Rattle.std.specs.Option.{option_map}
use Rattle.std.proofs.lemmas.Bool.{and_parts, both_ways, cases_Bool, cases_eq, cond-true, cond-false, eq-eqb, ne_eqb, false≢true}
use Rattle.paths.proofs.Places.{at_most_at}
use Rattle.paths.specs.Parts.{grade_parts}
use Rattle.paths.specs.Steps.{levels, is_number, covers}
use Rattle.paths.specs.Vectors.{place}
use Rattle.paths.specs.Values.{GradeParts}
use Rattle.paths.specs.declared.path.Path.{Path}
use Rattle.stores.proofs.Bounds.{bounds}
use Rattle.stores.specs.Climb.{climb, climb_by}
use Rattle.stores.specs.Making.{root_slot}
use Rattle.stores.specs.Meaning.{Model, Lawful, nearest, greatest_at, bare_folders}
use Rattle.stores.specs.Slots.{lookup, rises}
use Rattle.stores.specs.declared.entry.Slot.{Slot}
use Rattle.engine.specs.Knowledge.{vector_at, grade_of}
use Rattle.engine.specs.Syncs.{conflicts_of, Syncs}
use Rattle.engine.specs.declared.tally.Tally.{Tally}
use Rattle.history.specs.History.{
  Act,
  Call,
  write,
  remove,
  sync,
  open_conflict,
  choose,
  leave,
  Event,
  History,
  arrived,
  differ,
  is_among,
  note_sync,
  note_call,
  prevails_over,
  unwritten,
  history,
}
use Rattle.history.specs.Law.{held, Leaf, Follows, Settles, accepted_sync, Promises, StoresFollowHistory}
use Rattle.history.specs.Runs.{Stores, Blank, OnlyAt, leaves_of, Does, among_panels, Step, Run}
use Rattle.history.proofs.Joining.{later-prevails, not_both}
use Rattle.history.proofs.Knowing.{agree}
use Rattle.history.proofs.Reaching.{In}
use Rattle.history.proofs.Ruling.{Decided, disputed, same, ours, theirs, settles, differ_swapped}
use Rattle.history.proofs.Sides.{Formed, Held, follows}
use Rattle.history.proofs.Stepping.{Sound, write_sound, removal_sound, choice_sound}
use Rattle.history.proofs.Syncing.{two-panels, leaf-decided, both, sync_sound}
use Rattle.history.proofs.Ticking.{known_at, place_with}

-- a blank store
module _ (k : ℕ) (m : Model) (blank : Blank k m) where
  blank-lawful : Lawful m
  blank-lawful =
      record {
        time = omega (arith, blank.clock);
        some_room = blank.some_room;
        small = blank.small;
        low = blank.low;
        in_order = ap rises blank.entries;
        rooted = ap (λ es. is_some (lookup es 0)) blank.entries;
        bare = ap bare_folders blank.entries;
        fits = subst (λ (es : List Slot). length es ≤ m.capacity) (sym blank.entries) blank.some_room;
      }

  -- it knows nothing
  zeros : (q i : ℕ) → is_number levels q ≡ true → place (nearest (root_slot ∷ []) q) i ≤ 0
  unfolding greatest_at nearest climb climb_by
  zeros q i lawful =
      let within = (bounds (root_slot ∷ []) 0 q refl lawful refl).greatest in
      omega (
        arith,
        at_most_at (nearest (root_slot ∷ []) q) (greatest_at (root_slot ∷ []) 0) within (i - 1),
        at_most_at (greatest_at (root_slot ∷ []) 0) [] refl (i - 1),
      )

  blank-knows : (q i : ℕ) → is_number levels q ≡ true → 1 ≤ i → known_at m q i ≤ 0
  unfolding vector_at
  blank-knows q i lawful hi =
      let at = place_with (nearest m.entries q) m.number.number m.clock i m.number.low hi in
      let none : place (nearest m.entries q) i ≤ 0 =
      subst (λ es. place (nearest es q) i ≤ 0) (sym blank.entries) (zeros q i lawful) in
      elim (cases_Bool (eqb i m.number.number)) [
        | inl e ↦ omega (arith, at, cond-true (eqb i m.number.number) m.clock (place (nearest m.entries q) i) e, blank.clock)
        | inr e ↦ omega (arith, at, cond-false (eqb i m.number.number) m.clock (place (nearest m.entries q) i) e, none)
      ]

  blank-holds : (q : ℕ) → held m q ≡ None
  blank-holds q =
      ap (λ es. option_map grade_parts (grade_of (lookup es q))) blank.entries ∙ go (eqb 0 q)
    where
      go : (b : Bool) → option_map grade_parts (grade_of (cond b (Some root_slot.entry) None)) ≡ None
      go true = refl
      go false = refl

empty_formed : Formed []
empty_formed =
    record { once = tt; closed = λ s (x, m, o). absurd m; formed = λ x g m is. absurd m }

empty_held : Held [] None
empty_held =
    record {
      others = λ x k m sets. absurd m;
      set_by = λ k is. absurd (let z : ◌≡◌ {A = ℕ} 0 1 = cc in omega arith);
      alive = λ k is (x, m, ends, o). m;
      carried = λ s (y, k, m, e, sets, b). absurd m;
    }

blank_sound : (has : ℕ → Bool) (s : Stores) → Run has [] s → Sound has unwritten s
blank_sound has s run =
    record {
      numbers = λ k hk. (run k hk).number;
      lawful = λ k hk. blank-lawful k (s k) (run k hk);
      clocks = λ k hk. sym (run k hk).clock;
      leaves =
          λ q leaf. record {
            known =
                record {
                  bounded =
                      λ p k hp hk. omega (
                        arith,
                        blank-knows p (s p) (run p hp) q k leaf.0 (subst (λ n. 1 ≤ n) (run k hk).number (s k).number.low),
                      );
                  made = λ p x hp m. absurd m;
                  reaches = λ p x hp hk m le. absurd m;
                  formed = λ p hp. empty_formed;
                };
            holds = λ p hp. subst (Held []) (sym (blank-holds p (s p) (run p hp) q)) empty_held;
          };
    }

module _ (has : ℕ → Bool) (h : History) (s after : Stores) (sound : Sound has h s) where
  -- a call that changes no panel and is not noted
  unchanged : ((j : ℕ) → after j ≡ s j) → Sound has h after
  unchanged each = subst (Sound has h) (λ i j. sym (each j) i) sound

  refused : (k : ℕ) → after k ≡ s k → OnlyAt k s after → Sound has h after
  refused k here only =
      unchanged
      (λ j. elim (cases_eq j k) [
        | inl e ↦ subst (λ i. after i ≡ s i) (sym e) here
        | inr other ↦ only j other
      ])

  -- after a call, accepted or not
  abbrev Told : Call → List ℕ → Bool → Type 0
  Told c reported ok = Sound has (cond ok (note_call c reported h) h) after

  unnoted : ((j : ℕ) → after j ≡ s j) → (ok : Bool) → Sound has (cond ok h h) after
  unnoted each true = unchanged each
  unnoted each false = unchanged each

  call_sound :
      (c : Call) (ok : Bool) (reported : List ℕ) → among_panels has c ≡ true → Does c ok reported s after
      → Told c reported ok
  call_sound (write k p knobs) ok reported names (Ok clock, e, w, only) =
      subst (Told (write k p knobs) reported) e (write_sound has h s after sound k names only p knobs clock w)
  call_sound (write k p knobs) ok reported names (Err f, e, w, only) =
      subst (Told (write k p knobs) reported) e (refused k w.1 only)
  call_sound (remove k p) ok reported names (Ok r, e, w, only) =
      subst (Told (remove k p) reported) e (removal_sound has h s after sound k names only p r w)
  call_sound (remove k p) ok reported names (Err f, e, w, only) =
      subst (Told (remove k p) reported) e (refused k w.1 only)
  call_sound (sync a b p work report) ok reported names (Ok tally, e, w, only, rep) =
      let (ha, hb) = and_parts (has a) (has b) names in
      let all : reported ≡ leaves_of (conflicts_of (s a) (s b) p) =
      rep ∙ ap (λ t. cond t (leaves_of (conflicts_of (s a) (s b) p)) []) (sym e) in
      subst (Told (sync a b p work report) reported) e
      (subst (λ r. Sound has (note_sync h a b p r) after) (sym all)
      (sync_sound has h s after sound a b ha hb p work report tally w only))
  call_sound (sync a b p work report) ok reported names (Err f, e, w, only, rep) =
      subst (Told (sync a b p work report) reported) e (refused b w.1 only)
  call_sound (open_conflict a b p) ok reported names (r, e, w, each) = unnoted each ok
  call_sound (choose a b t c) ok reported names (Ok clock, e, w, only) =
      let (ha, hb) = and_parts (has a) (has b) names in
      subst (Told (choose a b t c) reported) e (choice_sound has h s after sound b hb only a ha t c clock w)
  call_sound (choose a b t c) ok reported names (Err f, e, w, only) =
      subst (Told (choose a b t c) reported) e (refused b w.1 only)
  call_sound (leave t) ok reported names each = unnoted each ok

run_sound : (has : ℕ → Bool) (es : List Event) (s : Stores) → Run has es s → Sound has (history es) s
run_sound has [] s run = blank_sound has s run
run_sound has (e ∷ es) s (before, run, step) =
    call_sound has (history es) before s (run_sound has es before run) e.call e.accepted e.reported step.names
    step.does

-- what an accepted sync is
pub record Accepted (has : ℕ → Bool) (s after : Stores) (a b : ℕ) (p : Path) (work report : ℕ) (reported : List ℕ) : Type 0 where
  pub source : has a ≡ true
  pub destination : has b ≡ true
  pub tally : Tally
  pub done : Syncs (s a) (s b) p work report (Ok tally) (after b)
  pub only : OnlyAt b s after
  pub all : leaves_of (conflicts_of (s a) (s b) p) ≡ reported

accepted :
    (has : ℕ → Bool) (s after : Stores) (a b : ℕ) (p : Path) (work report : ℕ) (reported : List ℕ)
    → Step has (accepted_sync a b p work report reported) s after → Accepted has s after a b p work report reported
accepted has s after a b p work report reported step =
    let (ha, hb) = and_parts (has a) (has b) step.names in go ha hb step.does
  where
    go :
        has a ≡ true → has b ≡ true → Does (sync a b p work report) true reported s after
        → Accepted has s after a b p work report reported
    go ha hb (Ok tally, e, w, only, all) =
        record { source = ha; destination = hb; tally = tally; done = w; only = only; all = sym all }
    go ha hb (Err f, e, w, only, all) = absurd (false≢true e)

module _ (has : ℕ → Bool) (h : History) (s : Stores) (sound : Sound has h s) where
  follows-at : (k q : ℕ) → has k ≡ true → Leaf q → Follows (h.notes k q) (held (s k) q)
  follows-at k q hk leaf =
      follows (h.notes k q) (held (s k) q) ((sound.leaves q leaf).known.formed k hk) ((sound.leaves q leaf).holds k hk)

  module _
      (after : Stores) (a b : ℕ) (p : Path) (work report : ℕ) (reported : List ℕ)
      (sync-step : Accepted has s after a b p work report reported) (q : ℕ) (leaf : Leaf q)
      (over : covers levels p.number q ≡ true) where
    decided-at :
        Decided (is_among q reported) (held (after b) q) (held (s a) q) (h.notes a q) (held (s b) q) (h.notes b q)
    decided-at =
        subst (λ r. Decided (is_among q r) (held (after b) q) (held (s a) q) (h.notes a q) (held (s b) q) (h.notes b q))
        sync-step.all
        (leaf-decided has h s after sound a b sync-step.source sync-step.destination p work report sync-step.tally
        sync-step.done sync-step.only q leaf over)

    settles_at : Settles (h.notes a q) (h.notes b q) (is_among q reported) (held (after b) q)
    settles_at =
        settles (is_among q reported) (held (after b) q) (held (s a) q) (held (s b) q) (h.notes a q) (h.notes b q)
        (follows-at a q sync-step.source leaf).holds (follows-at b q sync-step.destination leaf).holds decided-at

    -- what the source has has arrived
    abbrev noted : ℕ → List Act
    noted k = (note_sync h a b p reported).notes k q

    apart : a ≡ b → ⊥
    apart =
        two-panels has h s after sound a b sync-step.source sync-step.destination p work report sync-step.tally
        sync-step.done sync-step.only

    next_sound : Sound has (note_sync h a b p reported) after
    next_sound =
        subst (λ r. Sound has (note_sync h a b p r) after) sync-step.all
        (sync_sound has h s after sound a b sync-step.source sync-step.destination p work report sync-step.tally
        sync-step.done sync-step.only)

    arrived-at : is_among q reported ≡ false → (x : Act) → In x (noted a) → In x (noted b)
    arrived-at quiet x m =
        subst (In x)
        (sym
        (λ i. cond (eq-eqb b b refl i && over i && not (quiet i)) (arrived (h.notes b q) (h.notes a q)) (h.notes b q)))
        ((both has h s after sound a b sync-step.source sync-step.destination p work report sync-step.tally
        sync-step.done sync-step.only q leaf).left x
        (subst (In x)
        (ap
        (λ t. cond (t && covers levels p.number q && not (is_among q reported)) (arrived (h.notes b q) (h.notes a q))
        (h.notes a q))
        (ne_eqb a b apart)) m))

-- where all that a panel has has arrived at another, a sync back leaves both alike
back_alike :
    (xs ys : List Act) (g h now : Option GradeParts) (conflict : Bool) → (differ g h ≡ true → prevails_over h ys g xs ≡ true)
    → Decided conflict now h ys g xs → (conflict ≡ false) × (now ≡ h)
back_alike xs ys g h now conflict later (disputed c a d p q) =
    absurd (both_ways (prevails_over h ys g xs) p (later (differ_swapped h g d)))
back_alike xs ys g h now conflict later (same c a e d) = (c, a ∙ sym e)
back_alike xs ys g h now conflict later (ours c a d p) =
    absurd (not_both h g ys xs d (later (differ_swapped h g d)) p)
back_alike xs ys g h now conflict later (theirs c a d p) = (c, a)

promises : (has : ℕ → Bool) (h : History) (s : Stores) → Sound has h s → Promises has h s
promises has h s sound =
    record {
      follows = follows-at has h s sound;
      syncs =
          λ a b p work report reported after step. settles_at has h s sound after a b p work report reported
          (accepted has s after a b p work report reported step);
      back =
          λ a b p work report work' report' reported reported' between after step back q leaf over quiet.
          returns a b p work report work' report' reported reported' between after
          (accepted has s between a b p work report reported step)
          (accepted has between after b a p work' report' reported' back) q leaf over quiet;
    }
  where
    returns :
        (a b : ℕ) (p : Path) (work report work' report' : ℕ) (reported reported' : List ℕ) (between after : Stores)
        → Accepted has s between a b p work report reported → Accepted has between after b a p work' report' reported'
        → (q : ℕ) → Leaf q → covers levels p.number q ≡ true → is_among q reported ≡ false
        → (is_among q reported' ≡ false) × (held (after a) q ≡ held (after b) q)
    returns a b p work report work' report' reported reported' between after there back q leaf over quiet =
        let next = next_sound has h s sound between a b p work report reported there q leaf over in
        let known = (next.leaves q leaf).known in
        let sub = arrived-at has h s sound between a b p work report reported there q leaf over quiet in
        let (none, alike) =
        back_alike ((note_sync h a b p reported).notes a q) ((note_sync h a b p reported).notes b q) (held (between a) q)
        (held (between b) q) (held (after a) q) (is_among q reported')
        (later-prevails _ _ (known.formed a there.source) (known.formed b there.destination) (held (between a) q)
        (held (between b) q) ((next.leaves q leaf).holds a there.source)
        ((next.leaves q leaf).holds b there.destination) (agree has _ _ known a b there.source there.destination) sub)
        (decided-at has (note_sync h a b p reported) between next after b a p work' report' reported' back q leaf over) in (
          none,
          alike
              ∙ ap (λ m. held m q)
              (sym
              (back.only b (λ e. apart has h s sound between a b p work report reported there q leaf over (sym e)))),
        )

pub stores_follow_history : StoresFollowHistory
stores_follow_history has es s run = promises has (history es) s (run_sound has es s run)
