-- Members of lists of acts, and what the tests on stamps tell.
use Rattle.std.proofs.Common.{◌≡◌, Bool, true, false, cond, not, eqb, ◌⊎◌, List, [], ◌∷◌, ◌++◌, filter, sym, refl, ap, ◌∙◌, subst, ap₂, inl, inr, append-nil}
use Rattle.std.proofs.lemmas.Bool.{and_parts, and_from, both_ways, eqb-true, eq-eqb, or_cases, or_left, or_right, cond-false, false≢true, not-true}
use Rattle.paths.specs.Values.{StampParts}
use Rattle.engine.specs.LeafRule.{same_stamp}
use Rattle.history.specs.History.{Act, among, stamps, reached, overruled, arrived}

abbrev pub In : {X : Type 0} → X → List X → Type 0
In x [] = ⊥
In x (y ∷ ys) = (x ≡ y) ⊎ In x ys

pub in_front : {X : Type 0} (x : X) (xs ys : List X) → In x xs → In x (xs ++ ys)
in_front x [] ys h = absurd h
in_front x (z ∷ xs) ys (inl e) = inl e
in_front x (z ∷ xs) ys (inr h) = inr (in_front x xs ys h)

pub in_behind : {X : Type 0} (x : X) (xs ys : List X) → In x ys → In x (xs ++ ys)
in_behind x [] ys h = h
in_behind x (z ∷ xs) ys h = inr (in_behind x xs ys h)

pub in_either : {X : Type 0} (x : X) (xs ys : List X) → In x (xs ++ ys) → In x xs ⊎ In x ys
in_either x [] ys h = inr h
in_either x (z ∷ xs) ys (inl e) = inl (inl e)
in_either x (z ∷ xs) ys (inr h) = elim (in_either x xs ys h) [ inl m ↦ inl (inr m) | inr m ↦ inr m ]

pub stamp_is : (s t : StampParts) → same_stamp s t ≡ true → s ≡ t
stamp_is s t h =
    let (p, q) = and_parts (eqb s.panel t.panel) (eqb s.time t.time) h in
    ap₂ (λ k n. record { panel = k; time = n }) (eqb-true s.panel t.panel p) (eqb-true s.time t.time q)

pub same-itself : (s : StampParts) → same_stamp s s ≡ true
same-itself s =
    and_from (eqb s.panel s.panel) (eqb s.time s.time) (eq-eqb s.panel s.panel refl)
    (eq-eqb s.time s.time refl)

pub among_in : (s : StampParts) (ts : List StampParts) → among s ts ≡ true → In s ts
among_in s [] h = absurd (false≢true h)
among_in s (t ∷ ts) h =
    elim (or_cases (same_stamp s t) (among s ts) h) [ inl e ↦ inl (stamp_is s t e) | inr m ↦ inr (among_in s ts m) ]

pub in_among : (s : StampParts) (ts : List StampParts) → In s ts → among s ts ≡ true
in_among s [] h = absurd h
in_among s (t ∷ ts) (inl e) =
    or_left (same_stamp s t) (among s ts) (subst (λ u. same_stamp s u ≡ true) e (same-itself s))
in_among s (t ∷ ts) (inr h) = or_right (same_stamp s t) (among s ts) (in_among s ts h)

-- an act of this stamp is noted
abbrev pub Reached : StampParts → List Act → Type 0
Reached s xs = (x : Act) × In x xs × (x.stamp ≡ s)

-- a noted act overrules this stamp
abbrev pub Overruled : StampParts → List Act → Type 0
Overruled s xs = (x : Act) × In x xs × In s x.overrules

pub in_stamps : (s : StampParts) (xs : List Act) → In s (stamps xs) → Reached s xs
in_stamps s [] h = absurd h
in_stamps s (x ∷ xs) (inl e) = (x, inl refl, sym e)
in_stamps s (x ∷ xs) (inr h) = let (y, m, e) = in_stamps s xs h in (y, inr m, e)

pub stamps_in : (x : Act) (xs : List Act) → In x xs → In x.stamp (stamps xs)
stamps_in x [] h = absurd h
stamps_in x (y ∷ xs) (inl e) = inl (ap (λ z. z.stamp) e)
stamps_in x (y ∷ xs) (inr h) = inr (stamps_in x xs h)

pub reached_is : (s : StampParts) (xs : List Act) → reached s xs ≡ true → Reached s xs
unfolding reached
reached_is s xs h = in_stamps s xs (among_in s (stamps xs) h)

pub is_reached : (s : StampParts) (xs : List Act) → Reached s xs → reached s xs ≡ true
unfolding reached
is_reached s xs (x, m, e) = in_among s (stamps xs) (subst (λ t. In t (stamps xs)) e (stamps_in x xs m))

pub not_reached : (s : StampParts) (xs : List Act) → reached s xs ≡ false → Reached s xs → ⊥
not_reached s xs h r = both_ways (reached s xs) h (is_reached s xs r)

pub overruled_is : (s : StampParts) (xs : List Act) → overruled s xs ≡ true → Overruled s xs
unfolding overruled
overruled_is s [] h = absurd (false≢true h)
overruled_is s (x ∷ xs) h =
    elim (or_cases (among s x.overrules) (overruled s xs) h) [
      | inl m ↦ (x, inl refl, among_in s x.overrules m)
      | inr r ↦ let (y, m, o) = overruled_is s xs r in (y, inr m, o)
    ]

pub is_overruled : (s : StampParts) (xs : List Act) → Overruled s xs → overruled s xs ≡ true
unfolding overruled
is_overruled s [] (x, m, o) = absurd m
is_overruled s (y ∷ xs) (x, inl e, o) =
    or_left (among s y.overrules) (overruled s xs)
    (in_among s y.overrules (subst (λ (z : Act). In s z.overrules) e o))
is_overruled s (y ∷ xs) (x, inr m, o) =
    or_right (among s y.overrules) (overruled s xs) (is_overruled s xs (x, m, o))

pub not_overruled : (s : StampParts) (xs : List Act) → overruled s xs ≡ false → Overruled s xs → ⊥
not_overruled s xs h o = both_ways (overruled s xs) h (is_overruled s xs o)

pub false_from : (b : Bool) → (b ≡ true → ⊥) → b ≡ false
false_from true never = absurd (never refl)
false_from false never = refl

-- the members that pass a test
module _ (p : Act → Bool) where
  maybe_in :
      (x z : Act) (us : List Act) (b : Bool) → p z ≡ b → In x (cond b (z ∷ us) us)
      → ((x ≡ z) × (p x ≡ true)) ⊎ In x us
  maybe_in x z us true is (inl e) = inl (e, ap p e ∙ is)
  maybe_in x z us true is (inr m) = inr m
  maybe_in x z us false is m = inr m

  in_maybe : (x z : Act) (us : List Act) (b : Bool) → In x us → In x (cond b (z ∷ us) us)
  in_maybe x z us true m = inr m
  in_maybe x z us false m = m

  pub kept_in : (x : Act) (xs : List Act) → In x (filter p xs) → In x xs × (p x ≡ true)
  kept_in x [] m = absurd m
  kept_in x (z ∷ xs) m =
      elim (maybe_in x z (filter p xs) (p z) refl m) [
        | inl t ↦ (inl t.0, t.1)
        | inr n ↦ let (k, passes) = kept_in x xs n in (inr k, passes)
      ]

  pub in_kept : (x : Act) (xs : List Act) → In x xs → p x ≡ true → In x (filter p xs)
  in_kept x [] m passes = m
  in_kept x (z ∷ xs) (inl e) passes =
      subst (λ b. In x (cond b (z ∷ filter p xs) (filter p xs))) (sym (ap p (sym e) ∙ passes)) (inl e)
  in_kept x (z ∷ xs) (inr m) passes = in_maybe x z (filter p xs) (p z) (in_kept x xs m passes)

-- the members of two lists
pub record Union (zs xs ys : List Act) : Type 0 where
  pub left : (x : Act) → In x xs → In x zs
  pub right : (y : Act) → In y ys → In y zs
  pub from : (z : Act) → In z zs → In z xs ⊎ In z ys

-- acts of one stamp are one
abbrev pub Agree : List Act → List Act → Type 0
Agree xs ys = (x y : Act) → In x xs → In y ys → x.stamp ≡ y.stamp → x ≡ y

-- whether an act is new to ys
abbrev is_new : List Act → Act → Bool
is_new ys x = not (reached x.stamp ys)

pub arrived_union : (ys xs : List Act) → Agree xs ys → Union (arrived ys xs) xs ys
unfolding arrived
arrived_union ys xs one =
    record {
      left = λ x m. go x m (reached x.stamp ys) refl;
      right = λ y m. in_front y ys (filter (is_new ys) xs) m;
      from =
          λ z m. elim (in_either z ys (filter (is_new ys) xs) m) [
            | inl h ↦ inr h
            | inr h ↦ inl (kept_in (is_new ys) z xs h).0
          ];
    }
  where
    go : (x : Act) → In x xs → (b : Bool) → reached x.stamp ys ≡ b → In x (ys ++ filter (is_new ys) xs)
    go x m true is =
        let (y, n, e) = reached_is x.stamp ys is in
        subst (λ w. In w (ys ++ filter (is_new ys) xs)) (sym (one x y m n (sym e)))
        (in_front y ys (filter (is_new ys) xs) n)
    go x m false is = in_behind x ys (filter (is_new ys) xs) (in_kept (is_new ys) x xs m (ap not is))

-- no stamp is noted twice
abbrev pub Once : List Act → Type 0
Once [] = Unit {0}
Once (x ∷ xs) = (Reached x.stamp xs → ⊥) × Once xs

pub once-one : (xs : List Act) → Once xs → Agree xs xs
once-one [] once x y m n e = absurd m
once-one (z ∷ xs) once x y (inl p) (inl q) e = p ∙ sym q
once-one (z ∷ xs) once x y (inl p) (inr n) e =
    absurd (once.0 (y, n, sym e ∙ ap (λ (w : Act). w.stamp) p))
once-one (z ∷ xs) once x y (inr m) (inl q) e =
    absurd (once.0 (x, m, e ∙ ap (λ (w : Act). w.stamp) q))
once-one (z ∷ xs) once x y (inr m) (inr n) e = once-one xs once.1 x y m n e

pub once-both :
    (ys zs : List Act) → Once ys → Once zs → ((z : Act) → In z zs → Reached z.stamp ys → ⊥) → Once (ys ++ zs)
once-both [] zs o p apart = p
once-both (y ∷ ys) zs o p apart = (
  λ (x, m, e). elim (in_either x ys zs m) [
    | inl h ↦ o.0 (x, h, e)
    | inr h ↦ apart x h (y, inl refl, sym e)
  ],
  once-both ys zs o.1 p (λ z m (x, n, e). apart z m (x, inr n, e)),
)

maybe_once :
    (z : Act) (us : List Act) (b : Bool) → Once us → (Reached z.stamp us → ⊥) → Once (cond b (z ∷ us) us)
maybe_once z us true o new = (new, o)
maybe_once z us false o new = o

pub kept-once : (p : Act → Bool) (xs : List Act) → Once xs → Once (filter p xs)
kept-once p [] o = o
kept-once p (z ∷ xs) o =
    maybe_once z (filter p xs) (p z) (kept-once p xs o.1) (λ (x, m, e). o.0 (x, (kept_in p x xs m).0, e))

pub arrived-once : (ys xs : List Act) → Once ys → Once xs → Once (arrived ys xs)
unfolding arrived
arrived-once ys xs o p =
    once-both ys (filter (is_new ys) xs) o (kept-once (is_new ys) xs p)
    (λ z m r. not_reached z.stamp ys (not-true (reached z.stamp ys) (kept_in (is_new ys) z xs m).1) r)

-- where all is there already, nothing arrives
pub none_arrive : (ys xs : List Act) → ((x : Act) → In x xs → In x ys) → arrived ys xs ≡ ys
unfolding arrived
none_arrive ys xs all = ap (λ t. ys ++ t) (none_new xs all) ∙ append-nil ys
  where
    none_new : (zs : List Act) → ((x : Act) → In x zs → In x ys) → filter (is_new ys) zs ≡ []
    none_new [] sub = refl
    none_new (z ∷ zs) sub =
        cond-false (is_new ys z) _ _ (ap not (is_reached z.stamp ys (z, sub z (inl refl), refl)))
        ∙ none_new zs (λ x m. sub x (inr m))
