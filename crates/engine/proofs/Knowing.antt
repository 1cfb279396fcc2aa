-- A store knows at every path what it should if each path has its vector, or the places of its parent.
use Rattle.std.proofs.Common.{◌≡◌, ℕ, zero, suc, ◌-◌, ◌≤◌, true, false, not, ◌||◌, eqb, List, [], ◌∷◌, is_some, Some, None, Option, sym, refl, ap, ◌∙◌, arith}
use Rattle.std.proofs.lemmas.Bool.{and_parts, and_from, cond_both, both_ways, not-false, eqb-false, ne_eqb, or_parts}
use Rattle.paths.proofs.Levels.{all-covered, depth_le, depth-parent}
use Rattle.paths.proofs.Places.{at_most_itself, at_most_through}
use Rattle.paths.specs.Steps.{levels, is_number, parent, depth}
use Rattle.paths.specs.Vectors.{put_at, with_place, at_most, same_places}
use Rattle.paths.specs.Values.{Grade}
use Rattle.stores.proofs.Bounds.{nearest-here, nearest_above}
use Rattle.stores.specs.Meaning.{Model, Lawful, is_leaf, nearest, with_entries}
use Rattle.stores.specs.Slots.{lookup}
use Rattle.stores.specs.declared.entry.Entry.{Entry}
use Rattle.stores.specs.declared.entry.Slot.{Slot}
use Rattle.engine.specs.Knowledge.{own, vector_at, due, settled}

-- vectors with the same places: each is at most the other
pub same-itself : (v : List ℕ) → same_places v v ≡ true
same-itself v = and_from (at_most v v) (at_most v v) (at_most_itself v) (at_most_itself v)

same_from : (v w : List ℕ) → v ≡ w → same_places v w ≡ true
same_from v w e = rw e (same-itself w)

same_back : (v w : List ℕ) → same_places v w ≡ true → same_places w v ≡ true
same_back v w h =
    let (le, ge) = and_parts (at_most v w) (at_most w v) h in and_from (at_most w v) (at_most v w) ge le

same-through : (u v w : List ℕ) → same_places u v ≡ true → same_places v w ≡ true → same_places u w ≡ true
same-through u v w h k =
    let (le, ge) = and_parts (at_most u v) (at_most v u) h in
    let (le', ge') = and_parts (at_most v w) (at_most w v) k in
    and_from (at_most u w) (at_most w u) (at_most_through u v w le le') (at_most_through w v u ge' ge)

-- of two puts at one place the later stands
pub put_twice : (v : List ℕ) (i x y : ℕ) → put_at (put_at v i x) i y ≡ put_at v i y
put_twice [] zero x y = refl
put_twice [] (suc i) x y = ap (λ t. 0 ∷ t) (put_twice [] i x y)
put_twice (z ∷ v) zero x y = refl
put_twice (z ∷ v) (suc i) x y = ap (λ t. z ∷ t) (put_twice v i x y)

-- the panel's own place may be cleared: the clock is put back
pub own_cleared : (m : Model) (v : List ℕ) → own m (with_place (own m v) m.number.number 0) ≡ own m v
own_cleared m v =
    let i : ℕ = m.number.number - 1 in
    put_twice (own m v) i 0 m.clock ∙ put_twice v i m.clock m.clock

-- where nothing is entered the vector is the parent's, and where an entry is, it is the entry's
pub vector_above :
    (m : Model) (q : ℕ) → is_number levels q ≡ true → lookup m.entries q ≡ None
    → vector_at m q ≡ vector_at m (parent levels q)
unfolding vector_at
vector_above m q k none = ap (own m) (nearest_above m.entries q k none)

vector-here :
    (m : Model) (q : ℕ) (e : Entry) → lookup m.entries q ≡ Some e → vector_at m q ≡ own m e.vector.places
unfolding vector_at
vector-here m q e found = ap (own m) (nearest-here m.entries q e found)

pub vector_cleared : (m : Model) (q : ℕ) → own m (with_place (vector_at m q) m.number.number 0) ≡ vector_at m q
unfolding vector_at
vector_cleared m q = own_cleared m (nearest m.entries q)

-- a parent is no leaf
pub parent_folder : (q : ℕ) → is_number levels q ≡ true → is_leaf (parent levels q) ≡ false
parent_folder q k =
    let le : depth levels (parent levels q) ≤ 3 = depth-parent levels 3 q k (depth_le levels q) in
    ne_eqb (depth levels (parent levels q)) levels (λ e. omega (arith, le, e))

-- the root is entered
pub not_root : (m : Model) → Lawful m → (q : ℕ) → lookup m.entries q ≡ None → q ≡ 0 → ⊥
not_root m lawful q none z =
    both_ways (is_some (lookup m.entries 0)) (ap is_some (rw z at none)) lawful.rooted

-- what is found at q fits the wanted vectors: an entry has the one of q; without an entry q is not the root, and at its
-- parent the same places are wanted
abbrev pub Fits : Model → (ℕ → List ℕ) → ℕ → Option Entry → Type 0
Fits m wanted q None = (q ≡ 0 → ⊥) × (same_places (wanted q) (wanted (parent levels q)) ≡ true)
Fits m wanted q (Some e) = own m e.vector.places ≡ wanted q

-- a path that is settled fits
pub settled-fits :
    (m : Model) (wanted : ℕ → List ℕ) (q : ℕ) (v up : List ℕ) (g : Option Grade) → wanted q ≡ v
    → wanted (parent levels q) ≡ up → own m (with_place v m.number.number 0) ≡ v
    → Fits m wanted q (settled m q v up g)
settled-fits m wanted q v up g here above cleared =
    cond_both (due q v up g) _ None (Fits m wanted q) (λ _. cleared ∙ sym here)
    (λ no. (let (bare, same) = or_parts (eqb q 0 || is_some g) (not (same_places v up)) no in (
      eqb-false q 0 (or_parts (eqb q 0) (is_some g) bare).0,
      rw (here, above) (not-false (same_places v up) same),
    )))

-- what is entered fits where the vectors are wanted that are there
pub kept-fits :
    (m : Model) → Lawful m → (wanted : ℕ → List ℕ) (q : ℕ) → is_number levels q ≡ true → wanted q ≡ vector_at m q
    → ((q ≡ 0 → ⊥) → wanted (parent levels q) ≡ vector_at m (parent levels q))
    → Fits m wanted q (lookup m.entries q)
kept-fits m lawful wanted q k here above = go (lookup m.entries q) refl
  where
    go : (o : Option Entry) → lookup m.entries q ≡ o → Fits m wanted q o
    go None none =
        let some : q ≡ 0 → ⊥ = not_root m lawful q none in (
          some,
          same_from (wanted q) (wanted (parent levels q)) (here ∙ vector_above m q k none ∙ sym (above some)),
        )
    go (Some e) found = sym (vector-here m q e found) ∙ sym here

-- where all that is entered fits, what is known has the places that are wanted
module _
    (m : Model) (es : List Slot) (wanted : ℕ → List ℕ)
    (fits : (q : ℕ) → is_number levels q ≡ true → Fits m wanted q (lookup es q)) where
  abbrev Knows : ℕ → Type 0
  Knows q = same_places (vector_at (with_entries m es) q) (wanted q) ≡ true

  knows-from :
      (q : ℕ) → is_number levels q ≡ true → ((q ≡ 0 → ⊥) → Knows (parent levels q)) → (o : Option Entry)
      → lookup es q ≡ o → Fits m wanted q o → Knows q
  knows-from q k above None none (some, same) =
      rw (vector_above (with_entries m es) q k none)
      (same-through (vector_at (with_entries m es) (parent levels q)) (wanted (parent levels q)) (wanted q) (above some)
      (same_back (wanted q) (wanted (parent levels q)) same))
  knows-from q k above (Some e) found fit =
      same_from (vector_at (with_entries m es) q) (wanted q) (vector-here (with_entries m es) q e found ∙ fit)

  pub knows : (q : ℕ) → is_number levels q ≡ true → Knows q
  knows q k =
      all-covered levels 0 Knows refl
      (knows-from 0 refl (λ some. absurd (some refl)) (lookup es 0) refl (fits 0 refl))
      (λ r l _ above. knows-from r l (λ _. above) (lookup es r) refl (fits r l)) q k refl
