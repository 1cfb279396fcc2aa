-- The nearest vector at a path, and the bounds of those below it.
use Rattle.std.proofs.Common.{◌≡◌, ℕ, zero, suc, ◌≤◌, Bool, true, false, cond, List, [], ◌∷◌, Some, None, Option, sym, refl, ap, subst, subst₂, inl, inr, arith}
use Rattle.std.proofs.lemmas.Bool.{cond_both}
use Rattle.paths.specs.Steps.{levels, is_number, covers, depth, parent}
use Rattle.paths.proofs.Levels.{covering, parents, depth_le, depth-root, depth-parent, all-covered}
use Rattle.paths.proofs.Places.{Joins, greater_joins, lesser_joins}
use Rattle.stores.specs.Climb.{first_of, climb_by, climb}
use Rattle.stores.specs.Meaning.{nearest, joined_below, least_at, greatest_at}
use Rattle.stores.specs.Slots.{key, lookup}
use Rattle.stores.specs.StoreLaws.{BoundsLaws}
use Rattle.stores.specs.declared.entry.Entry.{Entry}
use Rattle.stores.specs.declared.entry.Slot.{Slot}
use Rattle.stores.proofs.Entries.{lookup_ways}

module _ {X : Type 0} (f : ℕ → Option X) where
  -- past the root a climb finds nothing new
  climb-more :
      (k p : ℕ) → is_number levels p ≡ true → depth levels p ≤ k → climb_by k f p ≡ climb_by (suc k) f p
  unfolding climb_by
  climb-more zero p h le =
      subst (λ r. f r ≡ first_of (f r) (f (parent levels r))) (sym (depth-root levels p h le)) (twice (f 0))
    where
      twice : (o : Option X) → o ≡ first_of o o
      twice None = refl
      twice (Some x) = refl
  climb-more (suc k) p h le =
      ap (first_of (f p))
      (climb-more k (parent levels p) ((parents levels).parent_lawful p h) (depth-parent levels k p h le))

  pub climb_step : (p : ℕ) → is_number levels p ≡ true → climb f p ≡ first_of (f p) (climb f (parent levels p))
  unfolding climb climb_by
  climb_step p h = climb-more levels p h (depth_le levels p)

module _ (es : List Slot) where
  pub nearest-here : (p : ℕ) (e : Entry) → lookup es p ≡ Some e → nearest es p ≡ e.vector.places
  unfolding nearest climb climb_by
  nearest-here p e found = rw found

  pub nearest_above :
      (p : ℕ) → is_number levels p ≡ true → lookup es p ≡ None → nearest es p ≡ nearest es (parent levels p)
  unfolding nearest
  nearest_above p h none = rw (climb_step (lookup es) p h, none)

  -- what holds of the nearest vector at p, and of each that is entered below, holds of the nearest at each path below
  pub nearest-below :
      (P : List ℕ → Type 0) (p : ℕ) → is_number levels p ≡ true → P (nearest es p)
      → ((r : ℕ) (e : Entry) → covers levels p r ≡ true → lookup es r ≡ Some e → P e.vector.places)
      → (q : ℕ) → is_number levels q ≡ true → covers levels p q ≡ true → P (nearest es q)
  nearest-below P p h here below =
      all-covered levels p (λ q. P (nearest es q)) h here (λ q k c above. go q k c above (lookup es q) refl)
    where
      go :
          (q : ℕ) → is_number levels q ≡ true → covers levels p q ≡ true → P (nearest es (parent levels q))
          → (o : Option Entry) → lookup es q ≡ o → P (nearest es q)
      go q k c above None none = rw (nearest_above q k none) above
      go q k c above (Some e) found = rw (nearest-here q e found) (below q e c found)

-- the join of a vector with those below a path, the greater or the lesser, each in its order
module _ {R : List ℕ → List ℕ → Type 0} {join : List ℕ → List ℕ → List ℕ} (laws : Joins R join) where
  -- it is above the vector
  pub joined_start : (es : List Slot) (p : ℕ) (v : List ℕ) → R v (joined_below join es p v)
  joined_start [] p v = laws.itself v
  joined_start (s ∷ es) p v =
      laws.through v _ _ (one (covers levels p (key s)) s.entry.vector.places) (joined_start es p _)
    where
      one : (b : Bool) (w : List ℕ) → R v (cond b (join v w) v)
      one true w = laws.left v w
      one false w = laws.itself v

  -- above that of a covered slot
  joined_slot :
      (s : Slot) (es : List Slot) (p : ℕ) (v : List ℕ) → covers levels p (key s) ≡ true
      → R s.entry.vector.places (joined_below join (s ∷ es) p v)
  joined_slot s es p v c =
      let w : List ℕ = s.entry.vector.places in
      rw c (laws.through w (join v w) _ (laws.right v w) (joined_start es p (join v w)))

  -- and above whatever is found at a covered path
  pub joined-found :
      (es : List Slot) (p : ℕ) (v : List ℕ) (r : ℕ) (e : Entry) → covers levels p r ≡ true → lookup es r ≡ Some e
      → R e.vector.places (joined_below join es p v)
  joined-found [] p v r e c found = absurd (grind arith)
  joined-found (s ∷ es) p v r e c found =
      elim (lookup_ways s es r e found) [
        | inl w ↦ subst₂ Above w.0 w.1 (joined_slot s es p v) c
        | inr later ↦ joined-found es p _ r e c later
      ]
    where
      Above : ℕ → Entry → Type 0
      Above r e = covers levels p r ≡ true → R e.vector.places (joined_below join (s ∷ es) p v)

  -- a join of fewer is below it
  joined_fewer :
      (es : List Slot) (p q : ℕ) (v w : List ℕ) → covers levels p q ≡ true → R v (joined_below join es p w)
      → R (joined_below join es q v) (joined_below join es p w)
  joined_fewer [] p q v w c h = h
  joined_fewer (s ∷ es) p q v w c h =
      joined_fewer es p q _ _ c
      (cond_both (covers levels q (key s)) _ _ (λ u. R u (joined_below join (s ∷ es) p w))
      (λ d. laws.least _ v _ h (joined_slot s es p w ((covering levels).through p q (key s) c d))) (λ _. h))

  -- at p it is above what is known, and what is joined, at a covered path
  joined-within :
      (es : List Slot) (p q : ℕ) → is_number levels p ≡ true → is_number levels q ≡ true → covers levels p q ≡ true
      → R (nearest es q) (joined_below join es p (nearest es p))
      × R (joined_below join es q (nearest es q)) (joined_below join es p (nearest es p))
  joined-within es p q h k c = (known, joined_fewer es p q (nearest es q) (nearest es p) c known)
    where
      known : R (nearest es q) (joined_below join es p (nearest es p))
      known =
          nearest-below es (λ v. R v (joined_below join es p (nearest es p))) p h
          (joined_start es p (nearest es p)) (joined-found es p (nearest es p)) q k c

pub bounds : BoundsLaws
unfolding least_at greatest_at
bounds es p q h k c =
    let low = joined-within lesser_joins es p q h k c in
    let high = joined-within greater_joins es p q h k c in
    record { least = low.0; greatest = high.0; least_narrows = low.1; greatest_narrows = high.1 }
