-- What holds at every point of a run is kept by every act.
use Rattle.std.proofs.Common.{◌≡◌, ℕ, ◌+◌, ◌≤◌, max, Bool, true, false, cond, ◌&&◌, eqb, List, [], ◌++◌, is_some, Some, None, Ok, Option, sym, refl, ap, ◌∙◌, subst, ap₂, inl, inr, append-nil, arith}
use Rattle.std.proofs.lemmas.Bool.{cases_eq, cond-true, cond-false, eq-eqb, ne_eqb, eqb-true}
use Rattle.paths.specs.Steps.{levels, covers}
use Rattle.paths.specs.Vectors.{greater, place}
use Rattle.paths.specs.Values.{GradeParts, KnobsParts, SettingParts, StampParts}
use Rattle.paths.specs.declared.path.Path.{Path}
use Rattle.stores.specs.Meaning.{Lawful}
use Rattle.engine.specs.Acts.{next_stamp, Writes, Removes}
use Rattle.engine.specs.Conflicts.{Chooses}
use Rattle.engine.specs.Knowledge.{own, vector_at}
use Rattle.engine.specs.declared.answers.Choice.{Choice}
use Rattle.engine.specs.declared.answers.Conflict.{Conflict}
use Rattle.engine.specs.declared.answers.Removal.{Removal}
use Rattle.history.specs.History.{
  Act,
  History,
  side,
  arrived,
  with_act,
  next_act,
  act_on,
  written_grade,
  picked,
  chosen_grade,
  note_write,
  note_removal,
  note_choice,
}
use Rattle.history.specs.Law.{held, Leaf}
use Rattle.history.specs.Runs.{Stores, OnlyAt}
use Rattle.history.proofs.Acting.{act-formed, ending_held, carrying_held}
use Rattle.history.proofs.Choosing.{choice_ticked, choice_acted}
use Rattle.history.proofs.Knowing.{Known, Grows, grown, act_grows, join_grows}
use Rattle.history.proofs.Reaching.{In, Reached}
use Rattle.history.proofs.Sides.{Born, Formed, Held, follows}
use Rattle.history.proofs.Ticking.{
  known_at,
  own-place,
  own-greater,
  Acted,
  Ticked,
  write_ticked,
  write_acted,
  remove_ticked,
  remove_acted,
}

-- one leaf on all panels: N the acts that reached each, V the places of its vector there, H what it holds
pub record Good (has : ℕ → Bool) (N : ℕ → List Act) (V : ℕ → ℕ → ℕ) (H : ℕ → Option GradeParts) : Type 0 where
  pub known : Known has N V
  pub holds : (p : ℕ) → has p ≡ true → Held (N p) (H p)

-- at every point of a run
pub record Sound (has : ℕ → Bool) (h : History) (s : Stores) : Type 0 where
  pub numbers : (k : ℕ) → has k ≡ true → (s k).number.number ≡ k
  pub lawful : (k : ℕ) → has k ≡ true → Lawful (s k)
  pub clocks : (k : ℕ) → has k ≡ true → h.acts k ≡ (s k).clock
  pub leaves :
      (q : ℕ) → Leaf q → Good has (λ p. h.notes p q) (λ p k. known_at (s p) q k) (λ p. held (s p) q)

-- one panel changes
pub good_grown :
    (has : ℕ → Bool) (b : ℕ) (N N' : ℕ → List Act) (V V' : ℕ → ℕ → ℕ) (H H' : ℕ → Option GradeParts) → has b ≡ true
    → Known has N V → Grows has b N N' V V' → ((p : ℕ) → has p ≡ true → (p ≡ b → ⊥) → Held (N p) (H' p))
    → Held (N' b) (H' b) → Good has N' V' H'
good_grown has b N N' V V' H H' hb known grows others here =
    record {
      known = grown has b N N' V V' hb known grows;
      holds =
          λ p hp. elim (cases_eq p b) [
            | inl e ↦ subst (λ k. Held (N' k) (H' k)) (sym e) here
            | inr other ↦ subst (λ xs. Held xs (H' p)) (sym (grows.other_acts p other)) (others p hp other)
          ];
    }

some_same : {X : Type 0} {x y : X} → Some x ≡ Some y → x ≡ y
some_same e = cc

-- the acts and the grade after a write
module _ (xs : List Act) (s : StampParts) (f : Formed xs) (new : Reached s xs → ⊥) where
  abbrev set_to : SettingParts → Option GradeParts → Option GradeParts
  set_to k before = Some (written_grade before k s)

  pub write-held :
      (k : SettingParts) (before : Option GradeParts) → Held xs before
      → Formed (with_act xs s (set_to k before)) × Held (with_act xs s (set_to k before)) (set_to k before)
  write-held k None held = (
    act-formed xs s (set_to k None) f new
        (λ w is. (sym (ap (λ (g : GradeParts). g.stamp) (some_same is)), inl (sym (ap (λ (g : GradeParts). g.birth) (some_same is))))),
    ending_held xs s (set_to k None) f new refl,
  )
  write-held k (Some j) held = (
    act-formed xs s (set_to k (Some j)) f new
        (λ w is. (
          sym (ap (λ (g : GradeParts). g.stamp) (some_same is)),
          inr
              (let (x, m, sets, _) = held.set_by j refl in
              subst (λ t. Born t xs) (ap (λ (g : GradeParts). g.birth) (some_same is)) (f.formed x j m sets).1),
        )),
    carrying_held xs s (set_to k (Some j)) f new j (written_grade (Some j) k s) held refl refl,
  )

  pub removal-held : Formed (with_act xs s None) × Held (with_act xs s None) None
  removal-held = (
    act-formed xs s None f new (λ w is. absurd (let z : ◌≡◌ {A = ℕ} 0 1 = cc in omega arith)),
    ending_held xs s None f new tt,
  )

  pub choice-held :
      (c : Option KnobsParts)
      → Formed (with_act xs s (chosen_grade c s)) × Held (with_act xs s (chosen_grade c s)) (chosen_grade c s)
  choice-held None = removal-held
  choice-held (Some c) = (
    act-formed xs s (chosen_grade (Some c) s) f new
        (λ w is. (sym (ap (λ (g : GradeParts). g.stamp) (some_same is)), inl (sym (ap (λ (g : GradeParts). g.birth) (some_same is))))),
    ending_held xs s (chosen_grade (Some c) s) f new refl,
  )

module _ (has : ℕ → Bool) (h : History) (s after : Stores) (sound : Sound has h s) (b : ℕ) (hb : has b ≡ true)
    (only : OnlyAt b s after) where
  positive : (k : ℕ) → has k ≡ true → 1 ≤ k
  positive k hk = subst (λ n. 1 ≤ n) (sound.numbers k hk) (s k).number.low

  own-clock : (q : ℕ) → known_at (s b) q b ≡ (s b).clock
  own-clock q = subst (λ n. known_at (s b) q n ≡ (s b).clock) (sound.numbers b hb) (own-place (s b) q)

  module _ (q : ℕ) (leaf : Leaf q) where
    abbrev N : ℕ → List Act
    N p = h.notes p q

    abbrev V : ℕ → ℕ → ℕ
    V p k = known_at (s p) q k

    abbrev V' : ℕ → ℕ → ℕ
    V' p k = known_at (after p) q k

    abbrev H' : ℕ → Option GradeParts
    H' p = held (after p) q

    -- the notes where those of b become xs
    abbrev noted : List Act → ℕ → List Act
    noted xs p = cond (eqb p b) xs (h.notes p q)

    noted_here : (xs : List Act) → noted xs b ≡ xs
    noted_here xs = cond-true (eqb b b) xs (h.notes b q) (eq-eqb b b refl)

    noted_other : (xs : List Act) (p : ℕ) → (p ≡ b → ⊥) → noted xs p ≡ N p
    noted_other xs p other = cond-false (eqb p b) xs (h.notes p q) (ne_eqb p b other)

    other_places : (p k : ℕ) → (p ≡ b → ⊥) → V' p k ≡ V p k
    other_places p k other = ap (λ m. known_at m q k) (only p other)

    other-holds : (p : ℕ) → has p ≡ true → (p ≡ b → ⊥) → Held (N p) (H' p)
    other-holds p hp other =
        subst (λ m. Held (N p) (held m q)) (sym (only p other)) ((sound.leaves q leaf).holds p hp)

    abbrev After : List Act → Type 0
    After xs = Good has (noted xs) V' H'

    -- the stamp of the act is new here
    stamp_new :
        (N₁ : ℕ → List Act) (V₁ : ℕ → ℕ → ℕ) → Known has N₁ V₁ → V₁ b b ≡ (s b).clock → Reached (next_act h b) (N₁ b) → ⊥
    stamp_new N₁ V₁ known own₁ (x, m, e) =
        let (hk, _, le) = known.made b x hb m in
        let panel : x.stamp.panel ≡ b = ap (λ t. t.panel) e in
        let time : x.stamp.time ≡ h.acts b + 1 = ap (λ t. t.time) e in
        omega (arith, time, sound.clocks b hb, own₁, subst (λ k. x.stamp.time ≤ V₁ b k) panel le)

    -- an act on the panel b, of whose acts N₁ had reached it here and which knew V₁ before the tick
    module _
        (N₁ : ℕ → List Act) (V₁ : ℕ → ℕ → ℕ) (known : Known has N₁ V₁) (same-acts : (p : ℕ) → (p ≡ b → ⊥) → N₁ p ≡ N p)
        (same_places : (p k : ℕ) → (p ≡ b → ⊥) → V₁ p k ≡ V p k) (own₁ : V₁ b b ≡ (s b).clock) (v : ℕ → ℕ)
        (knew : (k : ℕ) → has k ≡ true → (k ≡ b → ⊥) → v k ≡ V₁ b k) (g : Option GradeParts)
        (acted : Acted (s b) (after b) q v g) where
      own-ticks : V' b b ≡ V₁ b b + 1
      own-ticks =
          subst (λ n. known_at (after b) q n ≡ (s b).clock + 1) (sound.numbers b hb) acted.own
          ∙ ap (λ c. c + 1) (sym own₁)

      rest : (k : ℕ) → has k ≡ true → (k ≡ b → ⊥) → V' b k ≡ V₁ b k
      rest k hk other =
          acted.rest k (positive k hk) (λ e. other (e ∙ sound.numbers b hb)) ∙ knew k hk other

      grows_by :
          (xs new : List Act) → xs ≡ N₁ b ++ new
          → ((x : Act) → In x new → (x.stamp.panel ≡ b) × (x.stamp.time ≡ V₁ b b + 1)) → Formed xs
          → Grows has b N₁ (noted xs) V₁ V'
      grows_by xs new is stamped formed =
          act_grows has N₁ V₁ known b hb (noted xs) V' (λ p other. noted_other xs p other ∙ sym (same-acts p other))
          (λ p k other. other_places p k other ∙ sym (same_places p k other)) new stamped (noted_here xs ∙ is) own-ticks rest
          (subst Formed (sym (noted_here xs)) formed)

      good_by :
          (xs : List Act) → Grows has b N₁ (noted xs) V₁ V' → Held xs g → After xs
      good_by xs grows held-g =
          good_grown has b N₁ (noted xs) V₁ V' H' H' hb known grows
          (λ p hp other. subst (λ zs. Held zs (H' p)) (sym (same-acts p other)) (other-holds p hp other))
          (subst (λ zs. Held zs (H' b)) (sym (noted_here xs)) (subst (Held xs) (sym acted.holds) held-g))

      -- the act touches this leaf
      pub touched-here :
          (set : Option GradeParts) → set ≡ g
          → Formed (with_act (N₁ b) (next_act h b) set) × Held (with_act (N₁ b) (next_act h b) set) set
          → After (with_act (N₁ b) (next_act h b) set)
      touched-here set is (formed, holds) =
          good_by (with_act (N₁ b) (next_act h b) set)
          (grows_by (with_act (N₁ b) (next_act h b) set) _ refl
          (λ x m. elim m [
            | inl e ↦ (
              ap (λ (t : Act). t.stamp.panel) e,
              ap (λ (t : Act). t.stamp.time) e ∙ ap (λ n. n + 1) (sound.clocks b hb ∙ sym own₁),
            )
            | inr never ↦ absurd never
          ]) formed)
          (subst (Held (with_act (N₁ b) (next_act h b) set)) is holds)

      -- the act is elsewhere
      pub ticked_here : Held (N₁ b) g → After (N₁ b)
      ticked_here holds =
          good_by (N₁ b)
          (grows_by (N₁ b) [] (sym (append-nil (N₁ b))) (λ x m. absurd m) (known.formed b hb)) holds

  -- the stamp that the store gives the act
  next_is : next_act h b ≡ next_stamp (s b)
  next_is =
      ap₂ (λ n t. record { panel = n; time = t + 1 }) (sym (sound.numbers b hb)) (sound.clocks b hb)

  -- what is held is the side of the acts
  pub holds-side : (p q : ℕ) → has p ≡ true → Leaf q → held (s p) q ≡ side (h.notes p q)
  holds-side p q hp leaf =
      (follows (h.notes p q) (held (s p) q) ((sound.leaves q leaf).known.formed p hp) ((sound.leaves q leaf).holds p hp)
      ).holds

  act_sound :
      (notes : ℕ → List Act) → Ticked (s b) (after b) → ((q : ℕ) (leaf : Leaf q) → After q leaf (notes q))
      → Sound has (act_on h b notes) after
  act_sound notes ticked leaves =
      record {
        numbers =
            λ k hk. elim (cases_eq k b) [
              | inl e ↦
                  subst (λ j. (after j).number.number ≡ j) (sym e)
                  (ap (λ n. n.number) ticked.number ∙ sound.numbers b hb)
              | inr other ↦ ap (λ m. m.number.number) (only k other) ∙ sound.numbers k hk
            ];
        lawful =
            λ k hk. elim (cases_eq k b) [
              | inl e ↦ subst (λ j. Lawful (after j)) (sym e) ticked.lawful
              | inr other ↦ subst Lawful (sym (only k other)) (sound.lawful k hk)
            ];
        clocks =
            λ k hk. elim (cases_eq k b) [
              | inl e ↦
                  cond-true (eqb k b) _ _ (eq-eqb k b e) ∙ ap (λ c. c + 1) (sound.clocks b hb) ∙ sym ticked.clock
                  ∙ ap (λ j. (after j).clock) (sym e)
              | inr other ↦
                  cond-false (eqb k b) _ _ (ne_eqb k b other) ∙ sound.clocks k hk
                  ∙ sym (ap (λ m. m.clock) (only k other))
            ];
        leaves = leaves;
      }

  module _ (q : ℕ) (leaf : Leaf q) where
    -- an act on what b has itself
    abbrev here :
        (g : Option GradeParts) → Acted (s b) (after b) q (known_at (s b) q) g → (set : Option GradeParts) → set ≡ g
        → Formed (with_act (h.notes b q) (next_act h b) set)
        × Held (with_act (h.notes b q) (next_act h b) set) set
        → After q leaf (with_act (h.notes b q) (next_act h b) set)
    here g acted =
        touched-here q leaf (N q leaf) (V q leaf) (sound.leaves q leaf).known (λ _ _. refl) (λ _ _ _. refl) (own-clock q)
        (known_at (s b) q) (λ _ _ _. refl) g acted

    elsewhere : (g : Option GradeParts) → Acted (s b) (after b) q (known_at (s b) q) g → g ≡ held (s b) q → After q leaf (h.notes b q)
    elsewhere g acted is =
        ticked_here q leaf (N q leaf) (V q leaf) (sound.leaves q leaf).known (λ _ _. refl) (λ _ _ _. refl) (own-clock q)
        (known_at (s b) q) (λ _ _ _. refl) g acted
        (subst (Held (h.notes b q)) (sym is) ((sound.leaves q leaf).holds b hb))

    new_here : Reached (next_act h b) (h.notes b q) → ⊥
    new_here = stamp_new q leaf (N q leaf) (V q leaf) (sound.leaves q leaf).known (own-clock q)

    formed-here : Formed (h.notes b q)
    formed-here = (sound.leaves q leaf).known.formed b hb

  pub write_sound :
      (p : Path) (k : SettingParts) (clock : ℕ) → Writes (s b) p k (Ok clock) (after b) → Sound has (note_write h b p k) after
  write_sound p k clock w =
      act_sound _ (write_ticked (s b) p k clock (after b) (sound.lawful b hb) w)
      (λ q leaf. at_leaf q leaf (eqb p.number q) refl
      (write_acted (s b) p k clock (after b) (sound.lawful b hb) w q leaf))
    where
      at_leaf :
          (q : ℕ) (leaf : Leaf q) (t : Bool) → eqb p.number q ≡ t
          → Acted (s b) (after b) q (known_at (s b) q)
          (cond (eqb p.number q) (Some (written_grade (held (s b) p.number) k (next_stamp (s b)))) (held (s b) q))
          → After q leaf (cond t (with_act (h.notes b q) (next_act h b) (Some (written_grade (side (h.notes b q)) k (next_act h b)))) (h.notes b q))
      at_leaf q leaf true e acted =
          let same : held (s b) p.number ≡ side (h.notes b q) =
          ap (held (s b)) (eqb-true p.number q e) ∙ holds-side b q hb leaf in
          here q leaf _ acted (Some (written_grade (side (h.notes b q)) k (next_act h b)))
          (ap₂ (λ o t. Some (written_grade o k t)) (sym same) next_is ∙ sym (cond-true (eqb p.number q) _ _ e))
          (write-held (h.notes b q) (next_act h b) (formed-here q leaf) (new_here q leaf) k (side (h.notes b q))
          (subst (Held (h.notes b q)) (holds-side b q hb leaf) ((sound.leaves q leaf).holds b hb)))
      at_leaf q leaf false e acted = elsewhere q leaf _ acted (cond-false (eqb p.number q) _ _ e)

  pub removal_sound :
      (p : Path) (r : Removal) → Removes (s b) p (Ok r) (after b) → Sound has (note_removal h b p) after
  removal_sound p r w =
      act_sound _ (remove_ticked (s b) p r (after b) (sound.lawful b hb) w)
      (λ q leaf. at_leaf q leaf (covers levels p.number q) (side (h.notes b q)) refl refl
      (remove_acted (s b) p r (after b) (sound.lawful b hb) w q leaf))
    where
      at_leaf :
          (q : ℕ) (leaf : Leaf q) (t : Bool) (o : Option GradeParts) → covers levels p.number q ≡ t → side (h.notes b q) ≡ o
          → Acted (s b) (after b) q (known_at (s b) q) (cond (covers levels p.number q) None (held (s b) q))
          → After q leaf (cond (t && is_some o) (with_act (h.notes b q) (next_act h b) None) (h.notes b q))
      at_leaf q leaf true None e is acted =
          elsewhere q leaf _ acted (cond-true (covers levels p.number q) _ _ e ∙ sym (holds-side b q hb leaf ∙ is))
      at_leaf q leaf true (Some g) e is acted =
          here q leaf _ acted None (sym (cond-true (covers levels p.number q) _ _ e))
          (removal-held (h.notes b q) (next_act h b) (formed-here q leaf) (new_here q leaf))
      at_leaf q leaf false o e is acted = elsewhere q leaf _ acted (cond-false (covers levels p.number q) _ _ e)

  module _
      (a : ℕ) (ha : has a ≡ true) (t : Conflict) (c : Choice) (clock : ℕ) (w : Chooses (s a) (s b) t c (Ok clock) (after b)) where
    abbrev chosen_here : ℕ → Option GradeParts
    chosen_here q = chosen_grade (picked c (side (h.notes a q)) (side (h.notes b q))) (next_act h b)

    -- what the store knows before the tick and holds after it
    abbrev vector_there : ℕ → List ℕ
    vector_there q =
        cond (eqb t.meeting.path.number q) (own (s b) (greater (vector_at (s a) q) (vector_at (s b) q))) (vector_at (s b) q)

    abbrev grade_there : ℕ → Option GradeParts
    grade_there q =
        cond (eqb t.meeting.path.number q)
        (chosen_grade (picked c (held (s a) t.meeting.path.number) (held (s b) t.meeting.path.number)) (next_stamp (s b)))
        (held (s b) q)

    -- first what the source has arrives
    abbrev places : ℕ → ℕ → ℕ → ℕ
    places q p k = cond (eqb p b) (max (known_at (s a) q k) (known_at (s b) q k)) (known_at (s p) q k)

    here-places : (q k : ℕ) → places q b k ≡ max (known_at (s a) q k) (known_at (s b) q k)
    here-places q k = cond-true (eqb b b) _ _ (eq-eqb b b refl)

    other_than : (q p k : ℕ) → (p ≡ b → ⊥) → places q p k ≡ known_at (s p) q k
    other_than q p k other = cond-false (eqb p b) _ _ (ne_eqb p b other)

    joined : (q : ℕ) (leaf : Leaf q) → Known has (noted q leaf (arrived (h.notes b q) (h.notes a q))) (places q)
    joined q leaf =
        let known = (sound.leaves q leaf).known in
        let xs : List Act = arrived (h.notes b q) (h.notes a q) in
        grown has b (N q leaf) (noted q leaf xs) (V q leaf) (places q) hb known
        (join_grows has (N q leaf) (V q leaf) known b hb (noted q leaf xs) (places q) (noted_other q leaf xs) (other_than q) a ha
        (noted_here q leaf xs) (λ k _. here-places q k))

    own-joined : (q : ℕ) → Leaf q → places q b b ≡ (s b).clock
    own-joined q leaf =
        omega (arith, here-places q b, own-clock q, (sound.leaves q leaf).known.bounded a b ha hb)

    knew :
        (q : ℕ) → eqb t.meeting.path.number q ≡ true → (k : ℕ) → has k ≡ true → (k ≡ b → ⊥)
        → place (vector_there q) k ≡ places q b k
    knew q e k hk other =
        ap (λ v. place v k) (cond-true (eqb t.meeting.path.number q) _ _ e)
        ∙ own-greater (s b) (vector_at (s a) q) (vector_at (s b) q) k (positive k hk)
        ∙ cond-false (eqb k (s b).number.number) _ _ (ne_eqb k _ (λ f. other (f ∙ sound.numbers b hb)))
        ∙ sym (here-places q k)

    at_leaf :
        (q : ℕ) (leaf : Leaf q) (x : Bool) → eqb t.meeting.path.number q ≡ x
        → Acted (s b) (after b) q (place (vector_there q)) (grade_there q)
        → After q leaf
        (cond x (with_act (arrived (h.notes b q) (h.notes a q)) (next_act h b) (chosen_here q)) (h.notes b q))
    at_leaf q leaf true e acted =
        let xs : List Act = arrived (h.notes b q) (h.notes a q) in
        let N₁ : ℕ → List Act = noted q leaf xs in
        let known = joined q leaf in
        let theirs : held (s a) t.meeting.path.number ≡ side (h.notes a q) =
        ap (held (s a)) (eqb-true t.meeting.path.number q e) ∙ holds-side a q ha leaf in
        let ours : held (s b) t.meeting.path.number ≡ side (h.notes b q) =
        ap (held (s b)) (eqb-true t.meeting.path.number q e) ∙ holds-side b q hb leaf in
        subst (λ zs. After q leaf (with_act zs (next_act h b) (chosen_here q))) (noted_here q leaf xs)
        (touched-here q leaf N₁ (places q) known (noted_other q leaf xs) (other_than q) (own-joined q leaf) (place (vector_there q)) (knew q e)
        (grade_there q) acted
        (chosen_here q)
        ((λ i. chosen_grade (picked c (sym theirs i) (sym ours i)) (next_is i))
        ∙ sym (cond-true (eqb t.meeting.path.number q) _ _ e))
        (choice-held (N₁ b) (next_act h b) (known.formed b hb) (stamp_new q leaf N₁ (places q) known (own-joined q leaf))
        (picked c (side (h.notes a q)) (side (h.notes b q)))))
    at_leaf q leaf false e acted =
        elsewhere q leaf (grade_there q)
        (subst (λ v. Acted (s b) (after b) q (place v) (grade_there q)) (cond-false (eqb t.meeting.path.number q) _ _ e) acted)
        (ap (λ x. cond x (chosen_grade (picked c (held (s a) t.meeting.path.number) (held (s b) t.meeting.path.number)) (next_stamp (s b))) (held (s b) q)) e)

    pub choice_sound : Sound has (note_choice h a b t.meeting.path c) after
    choice_sound =
        act_sound _ (choice_ticked (s a) (s b) t c clock (after b) (sound.lawful a ha) (sound.lawful b hb) w)
        (λ q leaf. at_leaf q leaf (eqb t.meeting.path.number q) refl
        (choice_acted (s a) (s b) t c clock (after b) (sound.lawful a ha) (sound.lawful b hb) w q leaf))
