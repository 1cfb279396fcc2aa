-- One leaf on all panels: an act has reached a panel exactly if its time is at most the panel's place for it.
use Rattle.std.proofs.Common.{◌≡◌, ℕ, ◌+◌, ◌<◌, ◌≤◌, max, Bool, true, false, leb, ◌⊎◌, List, ◌++◌, sym, refl, ap, ◌∙◌, subst, inl, inr, arith}
use Rattle.std.proofs.lemmas.Bool.{both_ways, cases_eq, cases_lt, le-leb, leb-true}
use Rattle.paths.specs.Values.{StampParts}
use Rattle.history.specs.History.{Act, reached, arrived}
use Rattle.history.proofs.Reaching.{
  In,
  Reached,
  Agree,
  Union,
  in_front,
  in_either,
  reached_is,
  is_reached,
  false_from,
  once-one,
  arrived_union,
  arrived-once,
}
use Rattle.history.proofs.Joining.{formed_union}
use Rattle.history.proofs.Sides.{Formed}

-- has: the panels that take part. N: the acts that reached each. V: the places of each one's vector
pub record Known (has : ℕ → Bool) (N : ℕ → List Act) (V : ℕ → ℕ → ℕ) : Type 0 where
  pub bounded : (p k : ℕ) → has p ≡ true → has k ≡ true → V p k ≤ V k k
  pub made :
      (p : ℕ) (x : Act) → has p ≡ true → In x (N p)
      → (has x.stamp.panel ≡ true) × In x (N x.stamp.panel) × (x.stamp.time ≤ V p x.stamp.panel)
  pub reaches :
      (p : ℕ) (x : Act) → has p ≡ true → has x.stamp.panel ≡ true → In x (N x.stamp.panel)
      → x.stamp.time ≤ V p x.stamp.panel → In x (N p)
  pub formed : (p : ℕ) → has p ≡ true → Formed (N p)

-- one panel's acts and places grow
pub record Grows
    (has : ℕ → Bool) (b : ℕ) (N N' : ℕ → List Act) (V V' : ℕ → ℕ → ℕ) : Type 0 where
  pub other_acts : (p : ℕ) → (p ≡ b → ⊥) → N' p ≡ N p
  pub other_places : (p k : ℕ) → (p ≡ b → ⊥) → V' p k ≡ V p k
  pub more_acts : (x : Act) → In x (N b) → In x (N' b)
  pub more_places : (k : ℕ) → has k ≡ true → V b k ≤ V' b k
  pub still_bounded : (k : ℕ) → has k ≡ true → (k ≡ b → ⊥) → V' b k ≤ V k k
  -- an act that is there now was made before, or is one that this panel makes
  pub new_acts :
      (x : Act) → In x (N' b)
      → (has x.stamp.panel ≡ true) × (x.stamp.time ≤ V' b x.stamp.panel)
      × (In x (N x.stamp.panel) ⊎ ((x.stamp.panel ≡ b) × (V b b < x.stamp.time)))
  pub arrives :
      (x : Act) → has x.stamp.panel ≡ true → In x (N x.stamp.panel) → x.stamp.time ≤ V' b x.stamp.panel
      → In x (N' b)
  pub formed : Formed (N' b)

module _
    (has : ℕ → Bool) (b : ℕ) (N N' : ℕ → List Act) (V V' : ℕ → ℕ → ℕ) (hb : has b ≡ true) (known : Known has N V)
    (g : Grows has b N N' V V') where
  -- panel by panel: the one that changed, or another
  more : (p : ℕ) (x : Act) → In x (N p) → In x (N' p)
  more p x m =
      elim (cases_eq p b) [
        | inl e ↦ subst (λ k. In x (N' k)) (sym e) (g.more_acts x (subst (λ k. In x (N k)) e m))
        | inr other ↦ subst (In x) (sym (g.other_acts p other)) m
      ]

  own_grows : (k : ℕ) → has k ≡ true → V k k ≤ V' k k
  own_grows k hk =
      elim (cases_eq k b) [
        | inl e ↦ subst (λ j. V j j ≤ V' j j) (sym e) (g.more_places b hb)
        | inr other ↦ omega (arith, g.other_places k k other)
      ]

  new_bounded : (p k : ℕ) → has p ≡ true → has k ≡ true → V' p k ≤ V' k k
  new_bounded p k hp hk =
      elim (cases_eq p b) [
        | inl e ↦
            elim (cases_eq k b) [
              | inl f ↦ subst (λ j. V' p k ≤ V' j k) (e ∙ sym f) (omega arith)
              | inr other ↦
                  subst (λ j. V' j k ≤ V' k k) (sym e)
                  (omega (arith, g.still_bounded k hk other, own_grows k hk))
            ]
        | inr other ↦ omega (arith, g.other_places p k other, known.bounded p k hp hk, own_grows k hk)
      ]

  abbrev Made : ℕ → Act → Type 0
  Made p x = (has x.stamp.panel ≡ true) × In x (N' x.stamp.panel) × (x.stamp.time ≤ V' p x.stamp.panel)

  made_here : (x : Act) → In x (N' b) → Made b x
  made_here x m =
      let (hk, le, from) = g.new_acts x m in (
        hk,
        elim from [
          | inl n ↦ more x.stamp.panel x n
          | inr (e, _) ↦ subst (λ k. In x (N' k)) (sym e) m
        ],
        le,
      )

  new_made : (p : ℕ) (x : Act) → has p ≡ true → In x (N' p) → Made p x
  new_made p x hp m =
      elim (cases_eq p b) [
        | inl e ↦ subst (λ k. Made k x) (sym e) (made_here x (subst (λ k. In x (N' k)) e m))
        | inr other ↦
            let (hk, n, le) = known.made p x hp (subst (In x) (g.other_acts p other) m) in
            (hk, more x.stamp.panel x n, omega (arith, le, g.other_places p x.stamp.panel other))
      ]

  -- an act that was made before reaches each panel that knows it
  old_reaches :
      (p : ℕ) (x : Act) → has p ≡ true → has x.stamp.panel ≡ true → In x (N x.stamp.panel)
      → x.stamp.time ≤ V' p x.stamp.panel → In x (N' p)
  old_reaches p x hp hk m le =
      elim (cases_eq p b) [
        | inl e ↦
            subst (λ j. In x (N' j)) (sym e) (g.arrives x hk m (subst (λ j. x.stamp.time ≤ V' j x.stamp.panel) e le))
        | inr other ↦
            subst (In x) (sym (g.other_acts p other))
            (known.reaches p x hp hk m (omega (arith, le, g.other_places p x.stamp.panel other)))
      ]

  new_reaches :
      (p : ℕ) (x : Act) → has p ≡ true → has x.stamp.panel ≡ true → In x (N' x.stamp.panel)
      → x.stamp.time ≤ V' p x.stamp.panel → In x (N' p)
  new_reaches p x hp hk m le =
      elim (cases_eq x.stamp.panel b) [
        | inl e ↦
            elim (g.new_acts x (subst (λ j. In x (N' j)) e m)).2 [
              | inl n ↦ old_reaches p x hp hk n le
              | inr (_, late) ↦
                  elim (cases_eq p b) [
                    | inl f ↦ subst (λ j. In x (N' j)) (e ∙ sym f) m
                    | inr other ↦
                        absurd
                        (omega (
                          arith,
                          late,
                          subst (λ j. x.stamp.time ≤ V' p j) e le,
                          g.other_places p b other,
                          known.bounded p b hp hb,
                        ))
                  ]
            ]
        | inr other ↦ old_reaches p x hp hk (subst (In x) (g.other_acts x.stamp.panel other) m) le
      ]

  pub grown : Known has N' V'
  grown =
      record {
        bounded = new_bounded;
        made = new_made;
        reaches = new_reaches;
        formed =
            λ p hp. elim (cases_eq p b) [
              | inl e ↦ subst (λ j. Formed (N' j)) (sym e) g.formed
              | inr other ↦ subst Formed (sym (g.other_acts p other)) (known.formed p hp)
            ];
      }

module _ (has : ℕ → Bool) (N : ℕ → List Act) (V : ℕ → ℕ → ℕ) (known : Known has N V) where
  -- acts of one stamp are one, wherever they are noted
  pub agree : (p q : ℕ) → has p ≡ true → has q ≡ true → Agree (N p) (N q)
  agree p q hp hq x y m n e =
      let (hk, at, _) = known.made p x hp m in
      let (_, also, _) = known.made q y hq n in
      let panels : y.stamp.panel ≡ x.stamp.panel = sym (ap (λ s. s.panel) e) in
      once-one (N x.stamp.panel) (known.formed x.stamp.panel hk).once x y at
      (subst (λ k. In y (N k)) panels also) e

  -- an act of p is known at q exactly if it has reached q
  pub known_reached :
      (p q : ℕ) → has p ≡ true → has q ≡ true → (s : StampParts) → Reached s (N p)
      → leb s.time (V q s.panel) ≡ reached s (N q)
  known_reached p q hp hq s (x, m, e) = go (leb s.time (V q s.panel)) refl
    where
      go : (b : Bool) → leb s.time (V q s.panel) ≡ b → leb s.time (V q s.panel) ≡ reached s (N q)
      go true le =
          let (hk, at, _) = known.made p x hp m in
          let time = leb-true s.time (V q s.panel) le in
          le
          ∙ sym
          (is_reached s (N q)
          (x, known.reaches q x hq hk at (subst (λ t. t.time ≤ V q t.panel) (sym e) time), e))
      go false late =
          late
          ∙ sym
          (false_from (reached s (N q))
          (λ r. (let (y, n, f) = reached_is s (N q) r in
          let (_, _, le) = known.made q y hq n in
          both_ways (leb s.time (V q s.panel)) late
          (le-leb s.time (V q s.panel) (subst (λ t. t.time ≤ V q t.panel) f le)))))

  -- a panel that knows all that another knows has all its acts
  pub all_arrived :
      (p q : ℕ) → has p ≡ true → has q ≡ true → ((k : ℕ) → V p k ≤ V q k) → (x : Act) → In x (N p) → In x (N q)
  all_arrived p q hp hq less x m =
      let (hk, at, le) = known.made p x hp m in
      known.reaches q x hq hk at (omega (arith, le, less x.stamp.panel))

  module _ (b : ℕ) (hb : has b ≡ true) (N' : ℕ → List Act) (V' : ℕ → ℕ → ℕ) (acts-same : (p : ℕ) → (p ≡ b → ⊥) → N' p ≡ N p) (places_same : (p k : ℕ) → (p ≡ b → ⊥) → V' p k ≡ V p k) where
    -- the panel makes an act here, or elsewhere
    pub act_grows :
        (new : List Act) → ((x : Act) → In x new → (x.stamp.panel ≡ b) × (x.stamp.time ≡ V b b + 1))
        → N' b ≡ N b ++ new → V' b b ≡ V b b + 1 → ((k : ℕ) → has k ≡ true → (k ≡ b → ⊥) → V' b k ≡ V b k) → Formed (N' b)
        → Grows has b N N' V V'
    act_grows new stamped acts own rest formed =
        record {
          other_acts = acts-same;
          other_places = places_same;
          more_acts = λ x m. subst (In x) (sym acts) (in_front x (N b) new m);
          more_places = grows;
          still_bounded = λ k hk other. omega (arith, rest k hk other, known.bounded b k hb hk);
          new_acts =
              λ x m. elim (in_either x (N b) new (subst (In x) acts m)) [
                | inl n ↦
                    let (hk, at, le) = known.made b x hb n in
                    (hk, omega (arith, le, grows x.stamp.panel hk), inl at)
                | inr n ↦
                    let (e, t) = stamped x n in (
                      subst (λ k. has k ≡ true) (sym e) hb,
                      subst (λ k. x.stamp.time ≤ V' b k) (sym e) (omega (arith, t, own)),
                      inr (e, omega (arith, t)),
                    )
              ];
          arrives =
              λ x hk m le. subst (In x) (sym acts)
              (in_front x (N b) new
              (elim (cases_eq x.stamp.panel b) [
                | inl e ↦ subst (λ k. In x (N k)) e m
                | inr other ↦ known.reaches b x hb hk m (omega (arith, le, rest x.stamp.panel hk other))
              ]));
          formed = formed;
        }
      where
        grows : (k : ℕ) → has k ≡ true → V b k ≤ V' b k
        grows k hk =
            elim (cases_eq k b) [
              | inl e ↦ subst (λ j. V b j ≤ V' b j) (sym e) (omega (arith, own))
              | inr other ↦ omega (arith, rest k hk other)
            ]

    -- what another panel has arrives
    pub join_grows :
        (a : ℕ) → has a ≡ true → N' b ≡ arrived (N b) (N a)
        → ((k : ℕ) → has k ≡ true → V' b k ≡ max (V a k) (V b k)) → Grows has b N N' V V'
    join_grows a ha acts places =
        record {
          other_acts = acts-same;
          other_places = places_same;
          more_acts = λ x m. subst (In x) (sym acts) (both.right x m);
          more_places = λ k hk. omega (arith, places k hk);
          still_bounded = λ k hk _. omega (arith, places k hk, known.bounded a k ha hk, known.bounded b k hb hk);
          new_acts =
              λ x m. elim (both.from x (subst (In x) acts m)) [
                | inl n ↦
                    let (hk, at, le) = known.made a x ha n in
                    (hk, omega (arith, le, places x.stamp.panel hk), inl at)
                | inr n ↦
                    let (hk, at, le) = known.made b x hb n in
                    (hk, omega (arith, le, places x.stamp.panel hk), inl at)
              ];
          arrives =
              λ x hk m le. subst (In x) (sym acts)
              (elim (either x.stamp.time (V a x.stamp.panel) (V b x.stamp.panel) (omega (arith, le, places x.stamp.panel hk))) [
                | inl l ↦ both.left x (known.reaches a x ha hk m l)
                | inr l ↦ both.right x (known.reaches b x hb hk m l)
              ]);
          formed =
              subst Formed (sym acts)
              (formed_union (N a) (N b) (known.formed a ha) (known.formed b hb) (agree a b ha hb) (arrived (N b) (N a)) both
              (arrived-once (N b) (N a) (known.formed b hb).once (known.formed a ha).once));
        }
      where
        both : Union (arrived (N b) (N a)) (N a) (N b)
        both = arrived_union (N b) (N a) (agree a b ha hb)

        either : (t m n : ℕ) → t ≤ max m n → (t ≤ m) ⊎ (t ≤ n)
        either t m n le = elim (cases_lt m t) [ inl late ↦ inr (omega arith) | inr l ↦ inl l ]
