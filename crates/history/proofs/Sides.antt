-- One panel at one leaf: acts that hang together, and the grade that they leave.
use Rattle.std.proofs.Common.{◌≡◌, ◌≤◌, true, not, ◌⊎◌, List, [], ◌∷◌, length, is_some as option_is_some, Some, None, Option, sym, refl, ap, ◌∙◌, inl, inr, arith}
use Rattle.std.proofs.lemmas.Bool.{and_parts, and_from, not-true, false≢true}
use Rattle.paths.specs.Values.{GradeParts, StampParts}
use Rattle.history.specs.History.{Act, overruled, stands, standing, first_set, side}
use Rattle.history.specs.Law.{Follows}
use Rattle.history.proofs.Reaching.{In, Reached, Overruled, Once, kept_in, in_kept, kept-once, overruled_is, not_overruled, false_from}

-- an act that began a grade
abbrev pub Born : StampParts → List Act → Type 0
Born s xs = (y : Act) × (g : GradeParts) × In y xs × (y.stamp ≡ s) × (y.sets ≡ Some g) × (g.birth ≡ s)

-- an act that carries no earlier birth on: it set no grade, or one that it began
abbrev pub EndsBy : Option GradeParts → StampParts → Type 0
EndsBy None s = Unit {0}
EndsBy (Some g) s = g.birth ≡ s

-- an act that carries no earlier birth on overrules this one
abbrev pub Ended : StampParts → List Act → Type 0
Ended s xs = (x : Act) × In x xs × EndsBy x.sets x.stamp × In s x.overrules

-- what is overruled is noted, each stamp once, and a grade has its act's stamp and a birth that is noted
pub record Formed (xs : List Act) : Type 0 where
  pub once : Once xs
  pub closed : (s : StampParts) → Overruled s xs → Reached s xs
  pub formed : (x : Act) (g : GradeParts) → In x xs → x.sets ≡ Some g → (g.stamp ≡ x.stamp) × Born g.birth xs

-- a panel with these acts holds g
pub record Held (xs : List Act) (g : Option GradeParts) : Type 0 where
  pub others : (x : Act) (k : GradeParts) → In x xs → x.sets ≡ Some k → (g ≡ Some k) ⊎ Overruled x.stamp xs
  pub set_by :
      (k : GradeParts) → g ≡ Some k
      → (x : Act) × In x xs × (x.sets ≡ Some k) × (Overruled x.stamp xs → ⊥)
  pub alive : (k : GradeParts) → g ≡ Some k → Ended k.birth xs → ⊥
  pub carried :
      (s : StampParts) → Born s xs → ((k : GradeParts) × (g ≡ Some k) × (k.birth ≡ s)) ⊎ Ended s xs

some_is : {X : Type 0} (o : Option X) → option_is_some o ≡ true → (x : X) × (o ≡ Some x)
some_is None h = absurd (false≢true h)
some_is (Some x) h = (x, refl)

pub is_some : {X : Type 0} (o : Option X) (x : X) → o ≡ Some x → option_is_some o ≡ true
is_some o x e = ap option_is_some e

-- what stands is what is held
standing-held :
    (xs : List Act) (g : Option GradeParts) → Held xs g → (x : Act) → In x (standing xs)
    → In x xs × (x.sets ≡ g) × (option_is_some g ≡ true)
unfolding standing
standing-held xs g held x m =
    let (there, passes) = kept_in (stands xs) x xs m in
    let (sets, free) = and_parts (option_is_some x.sets) (not (overruled x.stamp xs)) passes in
    let (k, is) = some_is x.sets sets in
    elim (held.others x k there is) [
      | inl e ↦ (there, is ∙ sym e, is_some g k e)
      | inr o ↦ absurd (not_overruled x.stamp xs (not-true (overruled x.stamp xs) free) o)
    ]

held-stands :
    (xs : List Act) (g : Option GradeParts) → Held xs g → (k : GradeParts) → g ≡ Some k
    → (x : Act) × In x (standing xs)
unfolding standing
held-stands xs g held k is =
    let (x, m, sets, free) = held.set_by k is in (
      x,
      in_kept (stands xs) x xs m
          (and_from (option_is_some x.sets) (not (overruled x.stamp xs)) (is_some x.sets k sets)
          (ap not (false_from (overruled x.stamp xs) (λ t. free (overruled_is x.stamp xs t))))),
    )

-- a list of acts that all set g, each stamp once, has one at most
one_at_most :
    (zs : List Act) (g : Option GradeParts) → Once zs
    → ((x : Act) → In x zs → (k : GradeParts) × (g ≡ Some k) × (k.stamp ≡ x.stamp)) → length zs ≤ 1
one_at_most [] g once all = omega arith
one_at_most (x ∷ []) g once all = omega arith
one_at_most (x ∷ (y ∷ zs)) g once all =
    let (k, is, e) = all x (inl refl) in
    let (l, also, f) = all y (inr (inl refl)) in
    let same : k.stamp ≡ l.stamp = (let j : k ≡ l = (let t = sym is ∙ also in cc) in ap (λ (n : GradeParts). n.stamp) j) in
    absurd (once.0 (y, inl refl, sym f ∙ sym same ∙ e))

pub follows : (xs : List Act) (g : Option GradeParts) → Formed xs → Held xs g → Follows xs g
unfolding standing side
follows xs g formed held =
    record {
      one =
          one_at_most (standing xs) g (kept-once (stands xs) xs formed.once)
          (λ x m. (let (there, sets, some) = standing-held xs g held x m in
          let (k, is) = some_is g some in (k, is, (formed.formed x k there (sets ∙ is)).0)));
      holds = go (standing xs) (λ x m. (standing-held xs g held x m).1) (held-stands xs g held);
    }
  where
    go :
        (zs : List Act) → ((x : Act) → In x zs → x.sets ≡ g)
        → ((k : GradeParts) → g ≡ Some k → (x : Act) × In x zs) → g ≡ first_set zs
    go [] all some = none g some
      where
        none : (o : Option GradeParts) → ((k : GradeParts) → o ≡ Some k → (x : Act) × In x []) → o ≡ None
        none None any = refl
        none (Some k) any = absurd (any k refl).1
    go (z ∷ zs) all some = sym (all z (inl refl))
