-- What holds at every point of a run is kept by every sync, and a sync decides each leaf as the law says.
use Rattle.std.proofs.Common.{◌≡◌, ℕ, ◌-◌, ◌≤◌, max, Bool, true, false, cond, not, ◌&&◌, eqb, ltb, List, length, Some, None, Ok, Option, sym, refl, ap, ◌∙◌, subst, ap₂, inl, inr, arith}
use Rattle.std.specs.Option.{option_map}
use Rattle.std.proofs.lemmas.Bool.{both_ways, cases_Bool, cases_eq, cond-true, cond-false, eq-eqb, eqb-false, ltb-false, ne_eqb}
use Rattle.paths.proofs.Places.{at_most_at}
use Rattle.paths.specs.Parts.{grade_parts}
use Rattle.paths.specs.Steps.{levels, covers}
use Rattle.paths.specs.Vectors.{greater, same_places}
use Rattle.paths.specs.Values.{Grade, GradeParts}
use Rattle.paths.specs.declared.path.Path.{Path}
use Rattle.stores.specs.Meaning.{Lawful}
use Rattle.engine.proofs.Keeping.{sync_keeps_lawful}
use Rattle.engine.specs.Knowledge.{own, vector_at, grade_at, outcome_at, is_conflict}
use Rattle.engine.specs.LeafRule.{version, outcome}
use Rattle.engine.specs.Syncs.{grade_after, entries_after, conflicts_of, Syncs}
use Rattle.engine.specs.declared.tally.Tally.{Tally}
use Rattle.engine.specs.declared.leaf.Outcome.{Outcome}
use Rattle.engine.specs.declared.leaf.Outcome.TheVariants.{Kept, Taken, Removed, Conflict}
use Rattle.history.specs.History.{Act, History, arrived, differ, is_among, note_sync}
use Rattle.history.specs.Law.{held, Leaf}
use Rattle.history.specs.Runs.{Stores, OnlyAt, leaves_of}
use Rattle.history.proofs.Joining.{union_swapped, prevailing, prevails-from, common, common-prevails, later-prevails}
use Rattle.history.proofs.Knowing.{Known, agree, known_reached, all_arrived, join_grows}
use Rattle.history.proofs.Merging.{Merged, judged, passed_by, merged, apart}
use Rattle.history.proofs.Reaching.{In, Agree, Union, arrived_union, none_arrive}
use Rattle.history.proofs.Ruling.{version_of, parts_after, Decided, disputed, same, ours, theirs, decided}
use Rattle.history.proofs.Sides.{Formed, Held}
use Rattle.history.proofs.Stepping.{Good, Sound, good_grown}
use Rattle.history.proofs.Ticking.{known_at, own-place, same_place, own-greater, none_of_four}

version-held : (o : Option Grade) → option_map version o ≡ option_map version_of (option_map grade_parts o)
version-held None = refl
version-held (Some g) = refl

parts_held :
    (o : Option Outcome) (x y : Option Grade)
    → option_map grade_parts (grade_after o x y) ≡ parts_after o (option_map grade_parts x) (option_map grade_parts y)
parts_held None x y = refl
parts_held (Some Kept) x y = refl
parts_held (Some Taken) x y = refl
parts_held (Some Removed) x y = refl
parts_held (Some (Conflict k)) x y = refl

-- what is decided without a conflict is held where the acts of both are joined
decided-held :
    (xs ys zs : List Act) (g h after : Option GradeParts) (conflict : Bool) → Formed xs → Formed ys → Agree xs ys
    → Agree ys xs → Union zs xs ys → Held xs g → Held ys h → Decided conflict after g xs h ys → conflict ≡ false
    → Held zs after
decided-held xs ys zs g h after conflict fx fy one back u hx hy (disputed c a d p q) quiet =
    absurd (both_ways conflict quiet c)
decided-held xs ys zs g h after conflict fx fy one back u hx hy (same c a e d) quiet =
    subst (Held zs) (sym a) (prevailing xs ys fx fy one zs u g h hx hy (common-prevails xs ys fx g h hx e))
decided-held xs ys zs g h after conflict fx fy one back u hx hy (ours c a d p) quiet =
    subst (Held zs) (sym a) (prevailing xs ys fx fy one zs u g h hx hy (prevails-from g h xs ys p))
decided-held xs ys zs g h after conflict fx fy one back u hx hy (theirs c a d p) quiet =
    subst (Held zs) (sym a)
    (prevailing ys xs fy fx back zs (union_swapped zs xs ys u) h g hy hx (prevails-from h g ys xs p))

module _
    (has : ℕ → Bool) (h : History) (s after : Stores) (sound : Sound has h s) (a b : ℕ) (ha : has a ≡ true)
    (hb : has b ≡ true) (top : Path) (work report : ℕ) (tally : Tally)
    (w : Syncs (s a) (s b) top work report (Ok tally) (after b)) (only : OnlyAt b s after) where
  accepts :
      (eqb (s a).number.number (s b).number.number ≡ false) × (ltb work (s b).capacity ≡ false)
      × (ltb report (length (conflicts_of (s a) (s b) top)) ≡ false)
      × (ltb (s b).capacity (length (entries_after (s a) (s b) top)) ≡ false)
  accepts =
      none_of_four (eqb (s a).number.number (s b).number.number) (ltb work (s b).capacity)
      (ltb report (length (conflicts_of (s a) (s b) top)))
      (ltb (s b).capacity (length (entries_after (s a) (s b) top))) _ _ _ _ w.0

  pub two-panels : a ≡ b → ⊥
  two-panels e =
      eqb-false (s a).number.number (s b).number.number accepts.0
      (sound.numbers a ha ∙ e ∙ sym (sound.numbers b hb))

  lawful-after : Lawful (after b)
  lawful-after =
      subst Lawful (sym w.2)
      (sync_keeps_lawful (s a) (s b) top (sound.lawful b hb)
      (ltb-false (s b).capacity (length (entries_after (s a) (s b) top)) accepts.3))

  -- the leaves that are reported
  abbrev reported : List ℕ
  reported = leaves_of (conflicts_of (s a) (s b) top)

  module _ (q : ℕ) (leaf : Leaf q) where
    abbrev N : ℕ → List Act
    N p = h.notes p q

    abbrev V : ℕ → ℕ → ℕ
    V p k = known_at (s p) q k

    abbrev H : ℕ → Option GradeParts
    H p = held (s p) q

    abbrev N' : ℕ → List Act
    N' p = (note_sync h a b top reported).notes p q

    abbrev V' : ℕ → ℕ → ℕ
    V' p k = known_at (after p) q k

    abbrev H' : ℕ → Option GradeParts
    H' p = held (after p) q

    known : Known has N V
    known = (sound.leaves q leaf).known

    hx : Held (N a) (H a)
    hx = (sound.leaves q leaf).holds a ha

    hy : Held (N b) (H b)
    hy = (sound.leaves q leaf).holds b hb

    -- the leaf rule decides as the history does
    by_rule :
        Decided (is_conflict (outcome_at (s a) (s b) q)) (parts_after (outcome_at (s a) (s b) q) (H a) (H b)) (H a) (N a) (H b) (N b)
    unfolding outcome_at
    by_rule =
        subst (λ o. Decided (is_conflict o) (parts_after o (H a) (H b)) (H a) (N a) (H b) (N b))
        (sym
        (ap₂ (λ x y. outcome x (vector_at (s a) q) y (vector_at (s b) q)) (version-held (grade_at (s a) q))
        (version-held (grade_at (s b) q))))
        (decided (N a) (N b) (known.formed a ha) (known.formed b hb) (agree has N V known a b ha hb) (vector_at (s a) q)
        (vector_at (s b) q) (known_reached has N V known a b ha hb) (known_reached has N V known b a hb ha) (H a) (H b) hx
        hy)

    -- where the destination knows all that the source knows, its side is the other's or prevails
    known-decided :
        ((x : Act) → In x (N a) → In x (N b)) → (conflict : Bool) (now : Option GradeParts) → conflict ≡ false → now ≡ H b
        → Decided conflict now (H a) (N a) (H b) (N b)
    known-decided sub conflict now quiet is =
        elim (cases_Bool (differ (H a) (H b))) [
          | inl d ↦
              ours quiet is d
              (later-prevails (N a) (N b) (known.formed a ha) (known.formed b hb) (H a) (H b) hx hy
              (agree has N V known a b ha hb) sub d)
          | inr d ↦
              same quiet is
              (common (N a) (N b) (known.formed a ha) (known.formed b hb) (agree has N V known a b ha hb) (H a) (H b) hx hy d) d
        ]

    -- what the sync does here
    happens : covers levels top.number q ≡ true → Merged (s a) (s b) (after b) q (is_among q reported)
    happens over =
        subst (λ m. Merged (s a) (s b) m q (is_among q reported)) (sym w.2)
        (merged (s a) (s b) top (sound.lawful b hb) q leaf.0 leaf.1 over)

    pub leaf-decided :
        covers levels top.number q ≡ true → Decided (is_among q reported) (H' b) (H a) (N a) (H b) (N b)
    leaf-decided over = go (happens over)
      where
        go :
            Merged (s a) (s b) (after b) q (is_among q reported)
            → Decided (is_among q reported) (H' b) (H a) (N a) (H b) (N b)
        go (judged r g v) =
            subst (λ c. Decided c (H' b) (H a) (N a) (H b) (N b)) (sym r)
            (subst (λ o. Decided (is_conflict (outcome_at (s a) (s b) q)) o (H a) (N a) (H b) (N b))
            (sym (ap (option_map grade_parts) g ∙ parts_held (outcome_at (s a) (s b) q) (grade_at (s a) q) (grade_at (s b) q))) by_rule)
        go (passed_by r g v less) =
            known-decided
            (all_arrived has N V known a b ha hb (λ k. at_most_at (vector_at (s a) q) (vector_at (s b) q) less (k - 1)))
            (is_among q reported) (H' b) r (ap (option_map grade_parts) g)

    -- the notes after it
    abbrev brings : Bool
    brings = covers levels top.number q && not (is_among q reported)

    notes-other : (p : ℕ) → (p ≡ b → ⊥) → N' p ≡ N p
    notes-other p other =
        ap (λ t. cond (t && covers levels top.number q && not (is_among q reported)) (arrived (N b) (N a)) (N p))
        (ne_eqb p b other)

    notes-here : N' b ≡ cond brings (arrived (N b) (N a)) (N b)
    notes-here =
        ap (λ t. cond (t && covers levels top.number q && not (is_among q reported)) (arrived (N b) (N a)) (N b))
        (eq-eqb b b refl)

    other_places : (p k : ℕ) → (p ≡ b → ⊥) → V' p k ≡ V p k
    other_places p k other = ap (λ m. known_at m q k) (only p other)

    -- nothing changes
    same_good :
        N' b ≡ N b → grade_at (after b) q ≡ grade_at (s b) q
        → same_places (vector_at (after b) q) (vector_at (s b) q) ≡ true → Good has N' V' H'
    same_good acts grade vector =
        subst (λ n. Good has n V' H') (sym all-acts)
        (subst (λ v. Good has N v H') (sym all-places)
        (subst (λ g. Good has N V g) (sym all_held) (sound.leaves q leaf)))
      where
        all-acts : N' ≡ N
        all-acts = λ i p. each p i
          where
            each : (p : ℕ) → N' p ≡ N p
            each p =
                elim (cases_eq p b) [
                  | inl e ↦ subst (λ k. N' k ≡ N k) (sym e) acts
                  | inr other ↦ notes-other p other
                ]

        all-places : V' ≡ V
        all-places = λ i p k. each p k i
          where
            each : (p k : ℕ) → V' p k ≡ V p k
            each p k =
                elim (cases_eq p b) [
                  | inl e ↦
                      subst (λ j. V' j k ≡ V j k) (sym e) (same_place (vector_at (after b) q) (vector_at (s b) q) k vector)
                  | inr other ↦ other_places p k other
                ]

        all_held : H' ≡ H
        all_held = λ i p. each p i
          where
            each : (p : ℕ) → H' p ≡ H p
            each p =
                elim (cases_eq p b) [
                  | inl e ↦ subst (λ j. H' j ≡ H j) (sym e) (ap (option_map grade_parts) grade)
                  | inr other ↦ ap (λ m. held m q) (only p other)
                ]

    -- the greater of both vectors
    abbrev joint : List ℕ
    joint = own (s b) (greater (vector_at (s a) q) (vector_at (s b) q))

    joined-places :
        same_places (vector_at (after b) q) joint ≡ true
        → (k : ℕ) → has k ≡ true → V' b k ≡ max (V a k) (V b k)
    joined-places vector k hk =
        same_place (vector_at (after b) q) _ k vector
        ∙ own-greater (s b) (vector_at (s a) q) (vector_at (s b) q) k
        (subst (λ n. 1 ≤ n) (sound.numbers k hk) (s k).number.low)
        ∙ elim (cases_eq k b) [
          | inl e ↦
              cond-true (eqb k (s b).number.number) _ _ (eq-eqb k _ (e ∙ sym (sound.numbers b hb)))
              ∙ subst (λ j. (s b).clock ≡ max (V a j) (V b j)) (sym e)
              (omega (arith, known.bounded a b ha hb, subst (λ n. V b n ≡ (s b).clock) (sound.numbers b hb) (own-place (s b) q)))
          | inr other ↦
              cond-false (eqb k (s b).number.number) _ _ (ne_eqb k _ (λ e. other (e ∙ sound.numbers b hb)))
        ]

    pub both : Union (arrived (N b) (N a)) (N a) (N b)
    both = arrived_union (N b) (N a) (agree has N V known a b ha hb)

    joined_good :
        covers levels top.number q ≡ true → is_among q reported ≡ false
        → same_places (vector_at (after b) q) joint ≡ true
        → Good has N' V' H'
    joined_good over quiet vector =
        let acts : N' b ≡ arrived (N b) (N a) = notes-here ∙ ap₂ (λ x y. cond (x && not y) (arrived (N b) (N a)) (N b)) over quiet in
        good_grown has b N N' V V' H H' hb known
        (join_grows has N V known b hb N' V' notes-other other_places a ha acts (joined-places vector))
        (λ p hp other. subst (λ m. Held (N p) (held m q)) (sym (only p other)) ((sound.leaves q leaf).holds p hp))
        (subst (λ zs. Held zs (H' b)) (sym acts)
        (decided-held (N a) (N b) (arrived (N b) (N a)) (H a) (H b) (H' b) (is_among q reported) (known.formed a ha)
        (known.formed b hb) (agree has N V known a b ha hb) (agree has N V known b a hb ha) both hx hy (leaf-decided over)
        quiet))

    good : Good has N' V' H'
    good =
        elim (cases_Bool (covers levels top.number q)) [
          | inl over ↦ covered over (happens over)
          | inr out ↦
              let (_, grade, vector) =
              subst
              (λ m. (is_among q reported ≡ false) × (grade_at m q ≡ grade_at (s b) q)
              × (same_places (vector_at m q) (vector_at (s b) q) ≡ true))
              (sym w.2) (apart (s a) (s b) top (sound.lawful b hb) q leaf.0 leaf.1 out) in
              same_good
              (notes-here ∙ ap (λ x. cond (x && not (is_among q reported)) (arrived (N b) (N a)) (N b)) out) grade vector
        ]
      where
        covered :
            covers levels top.number q ≡ true → Merged (s a) (s b) (after b) q (is_among q reported) → Good has N' V' H'
        covered over (passed_by r g v less) =
            let sub = all_arrived has N V known a b ha hb (λ k. at_most_at (vector_at (s a) q) (vector_at (s b) q) less (k - 1)) in
            same_good
            (notes-here ∙ ap₂ (λ x y. cond (x && not y) (arrived (N b) (N a)) (N b)) over r ∙ none_arrive (N b) (N a) sub) g v
        covered over (judged r g v) = by_conflict (is_conflict (outcome_at (s a) (s b) q)) refl
          where
            by_conflict : (c : Bool) → is_conflict (outcome_at (s a) (s b) q) ≡ c → Good has N' V' H'
            by_conflict true c =
                same_good
                (notes-here ∙ ap₂ (λ x y. cond (x && not y) (arrived (N b) (N a)) (N b)) over (r ∙ c))
                (g ∙ stays (outcome_at (s a) (s b) q) c)
                (subst (λ x. same_places (vector_at (after b) q) (cond x (vector_at (s b) q) joint) ≡ true) c v)
              where
                stays :
                    (o : Option Outcome) → is_conflict o ≡ true → grade_after o (grade_at (s a) q) (grade_at (s b) q) ≡ grade_at (s b) q
                stays None c = refl
                stays (Some Kept) c = refl
                stays (Some Taken) c = grind arith
                stays (Some Removed) c = grind arith
                stays (Some (Conflict k)) c = refl
            by_conflict false c =
                joined_good over (r ∙ c)
                (subst (λ x. same_places (vector_at (after b) q) (cond x (vector_at (s b) q) joint) ≡ true) c v)

  pub sync_sound : Sound has (note_sync h a b top reported) after
  sync_sound =
      record {
        numbers =
            λ k hk. elim (cases_eq k b) [
              | inl e ↦
                  subst (λ j. (after j).number.number ≡ j) (sym e)
                  (ap (λ m. m.number.number) w.2 ∙ sound.numbers b hb)
              | inr other ↦ ap (λ m. m.number.number) (only k other) ∙ sound.numbers k hk
            ];
        lawful =
            λ k hk. elim (cases_eq k b) [
              | inl e ↦ subst (λ j. Lawful (after j)) (sym e) lawful-after
              | inr other ↦ subst Lawful (sym (only k other)) (sound.lawful k hk)
            ];
        clocks =
            λ k hk. elim (cases_eq k b) [
              | inl e ↦
                  subst (λ j. h.acts j ≡ (after j).clock) (sym e) (sound.clocks b hb ∙ sym (ap (λ m. m.clock) w.2))
              | inr other ↦ sound.clocks k hk ∙ sym (ap (λ m. m.clock) (only k other))
            ];
        leaves = good;
      }
