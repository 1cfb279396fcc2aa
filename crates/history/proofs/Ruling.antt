-- The leaf rule decides as the history does: where a side prevails it stays or is taken, and else there is a conflict.
use Rattle.std.proofs.Common.{◌≡◌, ℕ, Bool, true, false, cond, not, ◌&&◌, ◌||◌, List, Some, None, Option, sym, refl, ap, ◌∙◌, subst, ap₂, arith}
use Rattle.std.specs.Option.{option_map}
use Rattle.std.proofs.lemmas.Bool.{both_ways}
use Rattle.paths.specs.Values.{GradeParts, StampParts}
use Rattle.engine.specs.Knowledge.{is_conflict}
use Rattle.engine.specs.LeafRule.{Version, same_stamp, knows, goes_on, outcome}
use Rattle.engine.specs.declared.leaf.Kind.TheVariants.{Concurrent, Tangled, RemovedAtDestination, RemovedAtSource}
use Rattle.engine.specs.declared.leaf.Outcome.{Outcome}
use Rattle.engine.specs.declared.leaf.Outcome.TheVariants.{Kept, Taken, Removed, Conflict}
use Rattle.history.specs.History.{Act, reached, overruled, side, differ, prevails_over, prevails}
use Rattle.history.specs.Law.{Settles}
use Rattle.history.proofs.Joining.{common, reached_overruled, not_both}
use Rattle.history.proofs.Reaching.{Reached, Agree}
use Rattle.history.proofs.Sides.{Formed, Held}

abbrev pub version_of : GradeParts → Version
version_of g = record { stamp = g.stamp; birth = g.birth }

-- the grade that an outcome leaves at the destination
abbrev pub parts_after : Option Outcome → Option GradeParts → Option GradeParts → Option GradeParts
parts_after None theirs ours = ours
parts_after (Some Kept) theirs ours = ours
parts_after (Some Taken) theirs ours = theirs
parts_after (Some Removed) theirs ours = None
parts_after (Some (Conflict k)) theirs ours = ours

-- a leaf is in conflict or not, and has a grade after; the source had g by the acts xs, the destination h by ys
pub data Decided (conflict : Bool) (after g : Option GradeParts) (xs : List Act) (h : Option GradeParts) (ys : List Act) : Type 0 where
  disputed :
      conflict ≡ true → after ≡ h → differ g h ≡ true → prevails_over g xs h ys ≡ false → prevails_over h ys g xs ≡ false
      → Decided conflict after g xs h ys
  same : conflict ≡ false → after ≡ h → g ≡ h → differ g h ≡ false → Decided conflict after g xs h ys
  ours :
      conflict ≡ false → after ≡ h → differ g h ≡ true → prevails_over h ys g xs ≡ true → Decided conflict after g xs h ys
  theirs :
      conflict ≡ false → after ≡ g → differ g h ≡ true → prevails_over g xs h ys ≡ true → Decided conflict after g xs h ys

abbrev By : Option Outcome → Option GradeParts → List Act → Option GradeParts → List Act → Type 0
By o g xs h ys = Decided (is_conflict o) (parts_after o g h) g xs h ys

pub differ_swapped : (g h : Option GradeParts) → differ g h ≡ true → differ h g ≡ true
differ_swapped None None d = d
differ_swapped None (Some k) d = refl
differ_swapped (Some j) None d = refl
differ_swapped (Some j) (Some k) d = grind arith

-- the rule where both have a grade, by its tests: one stamp; ours goes on; theirs goes on; neither stamp is known
abbrev by_tests : Bool → Bool → Bool → Bool → Option Outcome
by_tests alike one two neither =
    Some (cond (alike || one) Kept (cond two Taken (cond neither (Conflict Concurrent) (Conflict Tangled))))

pick_both :
    (one two third : Bool) (j k : GradeParts) (xs ys : List Act) → differ (Some j) (Some k) ≡ true
    → prevails_over (Some k) ys (Some j) xs ≡ one → prevails_over (Some j) xs (Some k) ys ≡ two
    → By (by_tests false one two third) (Some j) xs (Some k) ys
pick_both true two third j k xs ys d p q = ours refl refl d p
pick_both false true third j k xs ys d p q = theirs refl refl d q
pick_both false false true j k xs ys d p q = disputed refl refl d q p
pick_both false false false j k xs ys d p q = disputed refl refl d q p

pick_source :
    (o r : Bool) (j : GradeParts) (xs ys : List Act) → overruled j.stamp ys ≡ o → reached j.birth ys ≡ r
    → By (Some (cond o Kept (cond r (Conflict RemovedAtDestination) Taken))) (Some j) xs None ys
pick_source true r j xs ys is at = ours refl refl refl (ap (λ b. b && true && true) is)
pick_source false true j xs ys is at =
    disputed refl refl refl (ap₂ (λ b c. true && not b && not c) is at) (ap (λ b. b && true && true) is)
pick_source false false j xs ys is at = theirs refl refl refl (ap₂ (λ b c. true && not b && not c) is at)

pick_destination :
    (o r : Bool) (k : GradeParts) (xs ys : List Act) → overruled k.stamp xs ≡ o → reached k.birth xs ≡ r
    → By (Some (cond o Removed (cond r (Conflict RemovedAtSource) Kept))) None xs (Some k) ys
pick_destination true r k xs ys is at = theirs refl refl refl (ap (λ b. b && true && true) is)
pick_destination false true k xs ys is at =
    disputed refl refl refl (ap (λ b. b && true && true) is) (ap₂ (λ b c. true && not b && not c) is at)
pick_destination false false k xs ys is at = ours refl refl refl (ap₂ (λ b c. true && not b && not c) is at)

module _
    (xs ys : List Act) (fx : Formed xs) (fy : Formed ys) (one : Agree xs ys) (v w : List ℕ)
    (at-destination : (s : StampParts) → Reached s xs → knows w s ≡ reached s ys)
    (at_source : (s : StampParts) → Reached s ys → knows v s ≡ reached s xs) where
  stamp-reached : (zs : List Act) (g : GradeParts) → Formed zs → Held zs (Some g) → Reached g.stamp zs
  stamp-reached zs g f h = let (x, m, sets, free) = h.set_by g refl in (x, m, sym (f.formed x g m sets).0)

  birth-reached : (zs : List Act) (g : GradeParts) → Formed zs → Held zs (Some g) → Reached g.birth zs
  birth-reached zs g f h =
      let (x, m, sets, free) = h.set_by g refl in let (y, k, n, e, _, _) = (f.formed x g m sets).1 in (y, n, e)

  one_swapped : Agree ys xs
  one_swapped x y m n e = sym (one y x n m (sym e))

  module _ (g h : Option GradeParts) (hx : Held xs g) (hy : Held ys h) (d : differ g h ≡ true) where
    known-source : (j : GradeParts) → g ≡ Some j → knows w j.stamp ≡ overruled j.stamp ys
    known-source j is =
        at-destination j.stamp (stamp-reached xs j fx (subst (Held xs) is hx))
        ∙ reached_overruled xs ys fx fy one g h hx hy d j is

    known-destination : (k : GradeParts) → h ≡ Some k → knows v k.stamp ≡ overruled k.stamp xs
    known-destination k is =
        at_source k.stamp (stamp-reached ys k fy (subst (Held ys) is hy))
        ∙ reached_overruled ys xs fy fx one_swapped h g hy hx (differ_swapped g h d) k is

  abbrev ours_goes_on : GradeParts → GradeParts → Bool
  ours_goes_on j k = goes_on (version_of k) w (version_of j) v

  abbrev theirs_goes_on : GradeParts → GradeParts → Bool
  theirs_goes_on j k = goes_on (version_of j) v (version_of k) w

  abbrev neither : GradeParts → GradeParts → Bool
  neither j k = not (knows w j.stamp) && not (knows v k.stamp)

  both :
      (j k : GradeParts) → Held xs (Some j) → Held ys (Some k) → (b : Bool) → same_stamp j.stamp k.stamp ≡ b
      → By (outcome (Some (version_of j)) v (Some (version_of k)) w) (Some j) xs (Some k) ys
  both j k hx hy true is =
      subst (λ b. By (by_tests b (ours_goes_on j k) (theirs_goes_on j k) (neither j k)) (Some j) xs (Some k) ys) (sym is)
      (same refl refl (common xs ys fx fy one (Some j) (Some k) hx hy (ap not is)) (ap not is))
  both j k hx hy false is =
      let d : differ (Some j) (Some k) ≡ true = ap not is in
      let s = known-source (Some j) (Some k) hx hy d j refl in
      let t = known-destination (Some j) (Some k) hx hy d k refl in
      let p : ours_goes_on j k ≡ prevails_over (Some k) ys (Some j) xs =
      tests (same_stamp k.birth j.birth) s t (at_source k.birth (birth-reached ys k fy hy)) in
      let q : theirs_goes_on j k ≡ prevails_over (Some j) xs (Some k) ys =
      tests (same_stamp j.birth k.birth) t s (at-destination j.birth (birth-reached xs j fx hx)) in
      subst (λ b. By (by_tests b (ours_goes_on j k) (theirs_goes_on j k) (neither j k)) (Some j) xs (Some k) ys) (sym is)
      (pick_both (ours_goes_on j k) (theirs_goes_on j k) (neither j k) j k xs ys d (sym p) (sym q))
    where
      tests :
          {a a' b b' c c' : Bool} (s : Bool) → a ≡ a' → b ≡ b' → c ≡ c'
          → (a && not b && (s || not c)) ≡ (a' && not b' && (s || not c'))
      tests s e f g = λ i. e i && not (f i) && (s || not (g i))

  pub decided :
      (g h : Option GradeParts) → Held xs g → Held ys h
      → By (outcome (option_map version_of g) v (option_map version_of h) w) g xs h ys
  decided None None hx hy = same refl refl refl refl
  decided None (Some k) hx hy =
      subst (λ b. By (Some (cond b Removed (cond (knows v k.birth) (Conflict RemovedAtSource) Kept))) None xs (Some k) ys)
      (sym (known-destination None (Some k) hx hy refl k refl))
      (subst (λ b. By (Some (cond (overruled k.stamp xs) Removed (cond b (Conflict RemovedAtSource) Kept))) None xs (Some k) ys)
      (sym (at_source k.birth (birth-reached ys k fy hy)))
      (pick_destination (overruled k.stamp xs) (reached k.birth xs) k xs ys refl refl))
  decided (Some j) None hx hy =
      subst (λ b. By (Some (cond b Kept (cond (knows w j.birth) (Conflict RemovedAtDestination) Taken))) (Some j) xs None ys)
      (sym (known-source (Some j) None hx hy refl j refl))
      (subst (λ b. By (Some (cond (overruled j.stamp ys) Kept (cond b (Conflict RemovedAtDestination) Taken))) (Some j) xs None ys)
      (sym (at-destination j.birth (birth-reached xs j fx hx)))
      (pick_source (overruled j.stamp ys) (reached j.birth ys) j xs ys refl refl))
  decided (Some j) (Some k) hx hy = both j k hx hy (same_stamp j.stamp k.stamp) refl

-- what is decided is what the law says of a sync
pub settles :
    (conflict : Bool) (after g h : Option GradeParts) (xs ys : List Act) → g ≡ side xs → h ≡ side ys
    → Decided conflict after g xs h ys → Settles xs ys conflict after
unfolding prevails
settles conflict after g h xs ys e f decision =
    record {
      conflicts =
          disputes decision
          ∙ (λ i. differ (e i) (f i) && not (prevails_over (e i) xs (f i) ys) && not (prevails_over (f i) ys (e i) xs));
      common = λ d. (let (p, q) = shares decision (ap₂ differ e f ∙ d) in (p ∙ e, q ∙ f));
      theirs = λ d p. takes decision (ap₂ differ e f ∙ d) ((λ i. prevails_over (e i) xs (f i) ys) ∙ p) ∙ e;
      ours = λ d p. keeps decision (ap₂ differ e f ∙ d) ((λ i. prevails_over (f i) ys (e i) xs) ∙ p) ∙ f;
      kept = λ c. stays decision c ∙ f;
    }
  where
    disputes :
        Decided conflict after g xs h ys
        → conflict ≡ (differ g h && not (prevails_over g xs h ys) && not (prevails_over h ys g xs))
    disputes (disputed c a d p q) = c ∙ sym (λ i. d i && not (p i) && not (q i))
    disputes (same c a e d) = c ∙ sym (ap (λ b. b && not (prevails_over g xs h ys) && not (prevails_over h ys g xs)) d)
    disputes (ours c a d p) = c ∙ sym (last_false (differ g h && not (prevails_over g xs h ys)) (ap not p))
      where
        last_false : (b : Bool) {t : Bool} → t ≡ false → (b && t) ≡ false
        last_false true e = e
        last_false false e = refl
    disputes (theirs c a d p) =
        c ∙ sym (ap₂ (λ b t. b && not t && not (prevails_over h ys g xs)) d p)

    shares : Decided conflict after g xs h ys → differ g h ≡ false → (after ≡ g) × (after ≡ h)
    shares (disputed c a d p q) n = absurd (both_ways (differ g h) n d)
    shares (same c a e d) n = (a ∙ sym e, a)
    shares (ours c a d p) n = absurd (both_ways (differ g h) n d)
    shares (theirs c a d p) n = absurd (both_ways (differ g h) n d)

    takes : Decided conflict after g xs h ys → differ g h ≡ true → prevails_over g xs h ys ≡ true → after ≡ g
    takes (disputed c a d p q) n t = absurd (both_ways (prevails_over g xs h ys) p t)
    takes (same c a e d) n t = a ∙ sym e
    takes (ours c a d p) n t = absurd (not_both g h xs ys d t p)
    takes (theirs c a d p) n t = a

    keeps : Decided conflict after g xs h ys → differ g h ≡ true → prevails_over h ys g xs ≡ true → after ≡ h
    keeps (disputed c a d p q) n t = a
    keeps (same c a e d) n t = a
    keeps (ours c a d p) n t = a
    keeps (theirs c a d p) n t = absurd (not_both g h xs ys d p t)

    stays : Decided conflict after g xs h ys → conflict ≡ true → after ≡ h
    stays (disputed c a d p q) t = a
    stays (same c a e d) t = a
    stays (ours c a d p) t = a
    stays (theirs c a d p) t = absurd (both_ways conflict c t)
