-- Two panels at one leaf: what the one's acts leave where the other's arrive.
use Rattle.std.proofs.Common.{◌≡◌, Bool, true, false, not, ◌&&◌, ◌⊎◌, List, Some, None, Option, sym, refl, ap, ◌∙◌, subst, ap₂, inl, inr}
use Rattle.std.proofs.lemmas.Bool.{and_parts, and_from, both_ways, not-true, not-false, or_cases, or_left, or_right, false≢true, true≢false}
use Rattle.paths.specs.Values.{GradeParts, StampParts}
use Rattle.engine.specs.LeafRule.{same_stamp}
use Rattle.history.specs.History.{Act, reached, overruled, differ, is_overruled, not_overruled, birth_shared, prevails_over}
use Rattle.history.proofs.Reaching.{
  In,
  Reached,
  Overruled,
  Union,
  Agree,
  Once,
  stamp_is,
  same-itself,
  reached_is,
  is_reached,
  not_reached,
  overruled_is,
  is_overruled as is_overruled_from,
  not_overruled as not_overruled_from,
  false_from,
}
use Rattle.history.proofs.Sides.{Born, Ended, Formed, Held}

pub union_swapped : (zs xs ys : List Act) → Union zs xs ys → Union zs ys xs
union_swapped zs xs ys u =
    record {
      left = u.right;
      right = u.left;
      from = λ z m. elim (u.from z m) [ inl h ↦ inr h | inr h ↦ inl h ];
    }

-- the side h prevails, or is the other's too
pub record Prevails (g : Option GradeParts) (xs : List Act) (h : Option GradeParts) (ys : List Act) : Type 0 where
  pub other : (k : GradeParts) → g ≡ Some k → (h ≡ Some k) ⊎ Overruled k.stamp ys
  pub itself : (k : GradeParts) → h ≡ Some k → Overruled k.stamp xs → ⊥
  pub shared :
      (k : GradeParts) → h ≡ Some k → Reached k.birth xs → (j : GradeParts) × (g ≡ Some j) × (j.birth ≡ k.birth)

module _ (xs ys : List Act) (fx : Formed xs) (fy : Formed ys) (one : Agree xs ys) where
  module _ (zs : List Act) (u : Union zs xs ys) where
    pub formed_union : Once zs → Formed zs
    formed_union once =
        record {
          once = once;
          closed =
              λ s (x, m, o). elim (u.from x m) [
                | inl h ↦ let (y, n, e) = fx.closed s (x, h, o) in (y, u.left y n, e)
                | inr h ↦ let (y, n, e) = fy.closed s (x, h, o) in (y, u.right y n, e)
              ];
          formed =
              λ x g m is. elim (u.from x m) [
                | inl h ↦
                    let (e, (y, k, n, p, q, r)) = fx.formed x g h is in (e, (y, k, u.left y n, p, q, r))
                | inr h ↦
                    let (e, (y, k, n, p, q, r)) = fy.formed x g h is in (e, (y, k, u.right y n, p, q, r))
              ];
        }

    -- the side that prevails is held where both lists of acts are joined
    pub prevailing :
        (g h : Option GradeParts) → Held xs g → Held ys h → Prevails g xs h ys → Held zs h
    prevailing g h hx hy p =
        record {
          others =
              λ x k m sets. elim (u.from x m) [
                | inl n ↦
                    elim (hx.others x k n sets) [
                      | inl e ↦
                          elim (p.other k e) [
                            | inl f ↦ inl f
                            | inr (w, v, o) ↦
                                inr (w, u.right w v, subst (λ t. In t w.overrules) (fx.formed x k n sets).0 o)
                          ]
                      | inr (w, v, o) ↦ inr (w, u.left w v, o)
                    ]
                | inr n ↦
                    elim (hy.others x k n sets) [ inl e ↦ inl e | inr (w, v, o) ↦ inr (w, u.right w v, o) ]
              ];
          set_by =
              λ k is. (let (x, m, sets, free) = hy.set_by k is in (
                x,
                u.right x m,
                sets,
                λ (w, v, o). elim (u.from w v) [
                  | inl n ↦
                      p.itself k is (w, n, subst (λ t. In t w.overrules) (sym (fy.formed x k m sets).0) o)
                  | inr n ↦ free (w, n, o)
                ],
              ));
          alive =
              λ k is (x, m, ends, o). elim (u.from x m) [
                | inl n ↦
                    let (j, at, births) = p.shared k is (fx.closed k.birth (x, n, o)) in
                    hx.alive j at (x, n, ends, subst (λ t. In t x.overrules) (sym births) o)
                | inr n ↦ hy.alive k is (x, n, ends, o)
              ];
          carried =
              λ s (y, k, m, e, sets, b). elim (u.from y m) [
                | inl n ↦ from_left s (y, k, n, e, sets, b)
                | inr n ↦ from_right s (y, k, n, e, sets, b)
              ];
        }
      where
        from_right : (s : StampParts) → Born s ys → ((k : GradeParts) × (h ≡ Some k) × (k.birth ≡ s)) ⊎ Ended s zs
        from_right s born =
            elim (hy.carried s born) [ inl k ↦ inl k | inr (x, m, ends, o) ↦ inr (x, u.right x m, ends, o) ]

        -- the other's grade reached the panel whose side prevails, and its birth with it
        through :
            (s : StampParts) (k : GradeParts) → g ≡ Some k → k.birth ≡ s
            → ((j : GradeParts) × (h ≡ Some j) × (j.birth ≡ s)) ⊎ Ended s zs
        through s k is b =
            elim (p.other k is) [
              | inl same ↦ inl (k, same, b)
              | inr o ↦
                  let (w, v, e) = fy.closed k.stamp o in
                  let (x, m, sets, free) = hx.set_by k is in
                  let same : x ≡ w = one x w m v (sym (fx.formed x k m sets).0 ∙ sym e) in
                  let also : w.sets ≡ Some k = subst (λ (t : Act). t.sets ≡ Some k) same sets in
                  from_right s (subst (λ t. Born t ys) b (fy.formed w k v also).1)
            ]

        from_left : (s : StampParts) → Born s xs → ((k : GradeParts) × (h ≡ Some k) × (k.birth ≡ s)) ⊎ Ended s zs
        from_left s born =
            elim (hx.carried s born) [
              | inl (k, is, b) ↦ through s k is b
              | inr (x, m, ends, o) ↦ inr (x, u.left x m, ends, o)
            ]

  -- sides that do not differ are one
  pub common : (g h : Option GradeParts) → Held xs g → Held ys h → differ g h ≡ false → g ≡ h
  common None None hx hy d = refl
  common None (Some k) hx hy d = absurd (true≢false d)
  common (Some j) None hx hy d = absurd (true≢false d)
  common (Some j) (Some k) hx hy d =
      let (x, m, sets, free) = hx.set_by j refl in
      let (y, n, also, _) = hy.set_by k refl in
      let stamps : j.stamp ≡ k.stamp = stamp_is j.stamp k.stamp (not-false (same_stamp j.stamp k.stamp) d) in
      let same : x ≡ y =
      one x y m n (sym (fx.formed x j m sets).0 ∙ stamps ∙ (fy.formed y k n also).0) in
      sym sets ∙ ap (λ (t : Act). t.sets) same ∙ also

  -- sides that differ: a grade that reached the other panel is overruled there
  pub reached_overruled :
      (g h : Option GradeParts) → Held xs g → Held ys h → differ g h ≡ true → (k : GradeParts) → g ≡ Some k
      → reached k.stamp ys ≡ overruled k.stamp ys
  reached_overruled g h hx hy d k is = go (reached k.stamp ys) refl
    where
      same_side : (o : Option GradeParts) → o ≡ Some k → differ g o ≡ true → ⊥
      same_side o e t =
          both_ways (differ (Some k) (Some k)) (ap not (same-itself k.stamp))
          (ap₂ differ (sym is) (sym e) ∙ t)

      go : (b : Bool) → reached k.stamp ys ≡ b → reached k.stamp ys ≡ overruled k.stamp ys
      go true r =
          let (y, n, e) = reached_is k.stamp ys r in
          let (x, m, sets, free) = hx.set_by k is in
          let same : x ≡ y = one x y m n (sym (fx.formed x k m sets).0 ∙ sym e) in
          let also : y.sets ≡ Some k = subst (λ (t : Act). t.sets ≡ Some k) same sets in
          elim (hy.others y k n also) [
            | inl held ↦ absurd (same_side h held d)
            | inr o ↦ r ∙ sym (is_overruled_from k.stamp ys (subst (λ t. Overruled t ys) e o))
          ]
      go false r =
          r
          ∙ sym
          (false_from (overruled k.stamp ys)
          (λ t. not_reached k.stamp ys r (fy.closed k.stamp (overruled_is k.stamp ys t))))

-- both sides cannot prevail
pub not_both :
    (g h : Option GradeParts) (xs ys : List Act) → differ g h ≡ true → prevails_over g xs h ys ≡ true
    → prevails_over h ys g xs ≡ true → ⊥
not_both None None xs ys d p q = false≢true d
not_both None (Some k) xs ys d p q =
    let (over, _) = and_parts (overruled k.stamp xs && true) true p in
    let (o, _) = and_parts (overruled k.stamp xs) true over in
    let (free, _) = and_parts (true && not (overruled k.stamp xs)) (birth_shared (Some k) None xs) q in
    let (_, f) = and_parts true (not (overruled k.stamp xs)) free in
    both_ways (overruled k.stamp xs) (not-true (overruled k.stamp xs) f) o
not_both (Some k) h xs ys d p q =
    let (free, _) = and_parts (is_overruled h xs && not (overruled k.stamp ys)) (birth_shared (Some k) h ys) p in
    let (_, f) = and_parts (is_overruled h xs) (not (overruled k.stamp ys)) free in
    let (over, _) = and_parts (overruled k.stamp ys && not_overruled h xs) (birth_shared h (Some k) xs) q in
    let (o, _) = and_parts (overruled k.stamp ys) (not_overruled h xs) over in
    both_ways (overruled k.stamp ys) (not-true (overruled k.stamp ys) f) o

-- what the test tells
pub prevails-from :
    (g h : Option GradeParts) (xs ys : List Act) → prevails_over h ys g xs ≡ true → Prevails g xs h ys
prevails-from g h xs ys t =
    let (both, shares) = and_parts (is_overruled g ys && not_overruled h xs) (birth_shared h g xs) t in
    let (over, free) = and_parts (is_overruled g ys) (not_overruled h xs) both in
    record {
      other =
          λ k is. inr (overruled_is k.stamp ys (subst (λ o. is_overruled o ys ≡ true) is over));
      itself =
          λ k is. not_overruled_from k.stamp xs
          (not-true (overruled k.stamp xs) (subst (λ o. not_overruled o xs ≡ true) is free));
      shared =
          λ k is r. births k r g (subst (λ o. birth_shared o g xs ≡ true) is shares);
    }
  where
    births :
        (k : GradeParts) → Reached k.birth xs → (o : Option GradeParts) → birth_shared (Some k) o xs ≡ true
        → (j : GradeParts) × (o ≡ Some j) × (j.birth ≡ k.birth)
    births k r None new = absurd (not_reached k.birth xs (not-true (reached k.birth xs) new) r)
    births k r (Some j) either =
        elim (or_cases (same_stamp k.birth j.birth) (not (reached k.birth xs)) either) [
          | inl same ↦ (j, refl, sym (stamp_is k.birth j.birth same))
          | inr new ↦ absurd (not_reached k.birth xs (not-true (reached k.birth xs) new) r)
        ]

module _ (xs ys : List Act) (fx : Formed xs) (g h : Option GradeParts) (hx : Held xs g) where
  -- a side in common is overruled on neither panel
  pub common-prevails : g ≡ h → Prevails g xs h ys
  common-prevails same =
      record {
        other = λ k is. inl (sym same ∙ is);
        itself =
            λ k is (w, v, o). (let (x, m, sets, free) = hx.set_by k (same ∙ is) in
            free (w, v, subst (λ t. In t w.overrules) (fx.formed x k m sets).0 o));
        shared = λ k is _. (k, same ∙ is, refl);
      }

-- where all acts of xs have arrived at ys, sides that differ are settled: that of ys prevails
module _
    (xs ys : List Act) (fx : Formed xs) (fy : Formed ys) (g h : Option GradeParts) (hx : Held xs g) (hy : Held ys h)
    (one : Agree xs ys) (sub : (x : Act) → In x xs → In x ys) where
  over : differ g h ≡ true → (o : Option GradeParts) → g ≡ o → is_overruled o ys ≡ true
  over d None is = refl
  over d (Some k) is =
      let (x, m, sets, free) = hx.set_by k is in
      sym (reached_overruled xs ys fx fy one g h hx hy d k is)
      ∙ is_reached k.stamp ys (x, sub x m, sym (fx.formed x k m sets).0)

  free_there : (o : Option GradeParts) → h ≡ o → not_overruled o xs ≡ true
  free_there None is = refl
  free_there (Some k) is =
      ap not
      (false_from (overruled k.stamp xs)
      (λ t. (let (w, v, o) = overruled_is k.stamp xs t in
      let (y, n, sets, free) = hy.set_by k is in
      free (w, sub w v, subst (λ t. In t w.overrules) (fy.formed y k n sets).0 o))))

  -- the birth of h, where it reached xs, is the birth of g
  birth-there : (o p : Option GradeParts) → h ≡ o → g ≡ p → birth_shared o p xs ≡ true
  birth-there None p is at = refl
  birth-there (Some k) p is at = go (reached k.birth xs) refl
    where
      born : Reached k.birth xs → Born k.birth xs
      born (x, m, e) =
          let (y, n, sets, free) = hy.set_by k is in
          let (z, j, v, p, q, r) = (fy.formed y k n sets).1 in
          let same : x ≡ z = one x z m v (e ∙ sym p) in (x, j, m, e, ap (λ (t : Act). t.sets) same ∙ q, r)

      same-birth :
          (q : Option GradeParts) → (j : GradeParts) → q ≡ Some j → j.birth ≡ k.birth
          → birth_shared (Some k) q xs ≡ true
      same-birth q j e b =
          subst (λ o. birth_shared (Some k) o xs ≡ true) (sym e)
          (or_left (same_stamp k.birth j.birth) (not (reached k.birth xs))
          (subst (λ s. same_stamp k.birth s ≡ true) (sym b) (same-itself k.birth)))

      new_birth : (q : Option GradeParts) → reached k.birth xs ≡ false → birth_shared (Some k) q xs ≡ true
      new_birth None new = ap not new
      new_birth (Some j) new = or_right (same_stamp k.birth j.birth) (not (reached k.birth xs)) (ap not new)

      go : (b : Bool) → reached k.birth xs ≡ b → birth_shared (Some k) p xs ≡ true
      go true r =
          elim (hx.carried k.birth (born (reached_is k.birth xs r))) [
            | inl (j, e, b) ↦ same-birth p j (sym at ∙ e) b
            | inr (x, m, ends, o) ↦ absurd (hy.alive k is (x, sub x m, ends, o))
          ]
      go false r = new_birth p r

  pub later-prevails : differ g h ≡ true → prevails_over h ys g xs ≡ true
  later-prevails d =
      and_from (is_overruled g ys && not_overruled h xs) (birth_shared h g xs)
      (and_from (is_overruled g ys) (not_overruled h xs) (over d g refl) (free_there h refl))
      (birth-there h g refl refl)
