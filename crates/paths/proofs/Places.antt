-- Vectors by their places.
use Rattle.std.proofs.Common.{◌≡◌, ℕ, zero, suc, ◌<◌, ◌≤◌, min, max, Bool, true, false, cond, eqb, leb, List, [], ◌∷◌, length, get_or, set, sym, refl, ap, ◌∙◌, ap₂, suc-le-suc, arith}
use Rattle.std.proofs.lemmas.Bool.{le-leb}
use Rattle.std.proofs.lemmas.Bool.Decides.{nat_tests}
use Rattle.std.specs.Bool.{MatchBool}
use Rattle.paths.specs.Vectors.{put_at, EachPlace, place_by_place, greater, lesser, at_most}

-- a list that has the joined places is the joined vector
pub joined_by_places :
    (f : ℕ → ℕ → ℕ) (u v w : List ℕ) → length u ≡ length v → length v ≡ length w
    → ((k : ℕ) → k < length u → get_or u k 0 ≡ f (get_or v k 0) (get_or w k 0)) → u ≡ place_by_place f v w
joined_by_places f [] [] [] e e' h = refl
joined_by_places f [] [] (z ∷ w) e e' h = absurd (omega arith)
joined_by_places f [] (y ∷ v) w e e' h = absurd (omega arith)
joined_by_places f (x ∷ u) [] w e e' h = absurd (omega arith)
joined_by_places f (x ∷ u) (y ∷ v) [] e e' h = absurd (omega arith)
joined_by_places f (x ∷ u) (y ∷ v) (z ∷ w) e e' h =
    ap₂ ◌∷◌ (h 0 (omega arith)) (joined_by_places f u v w (omega arith) (omega arith) (λ k lt. h (suc k) (suc-le-suc lt)))

-- a vector whose places a rule made of those of both, where the rule gives f
pub joined_by_rule :
    (f : ℕ → ℕ → ℕ) {R : ℕ → ℕ → ℕ → Type 0} (v w u : List ℕ) → length v ≡ 8 → length w ≡ 8 → EachPlace R v w u
    → ((x y z : ℕ) → R x y z → z ≡ f x y) → u ≡ place_by_place f v w
joined_by_rule f v w u lv lw each gives =
    joined_by_places f u v w (omega (arith, each.long)) (omega arith)
    (λ k lt. gives _ _ _ (each.at k (omega (arith, each.long))))

pub at_most_at : (v w : List ℕ) → at_most v w ≡ true → (k : ℕ) → get_or v k 0 ≤ get_or w k 0
at_most_at [] w e k = omega arith
at_most_at (x ∷ v) [] e zero = grind (arith, nat_tests)
at_most_at (x ∷ v) [] e (suc k) = at_most_at v [] (grind (arith, nat_tests)) k
at_most_at (x ∷ v) (y ∷ w) e zero = grind (arith, nat_tests)
at_most_at (x ∷ v) (y ∷ w) e (suc k) = at_most_at v w (grind (arith, nat_tests)) k

pub at_most_from : (v w : List ℕ) → ((k : ℕ) → k < length v → get_or v k 0 ≤ get_or w k 0) → at_most v w ≡ true
at_most_from [] w h = refl
at_most_from (x ∷ v) [] h =
    let t : at_most v [] ≡ true = at_most_from v [] (λ k lt. h (suc k) (suc-le-suc lt)) in
    let z : leb x 0 ≡ true = le-leb x 0 (h 0 (omega arith)) in grind (arith, nat_tests)
at_most_from (x ∷ v) (y ∷ w) h =
    let t : at_most v w ≡ true = at_most_from v w (λ k lt. h (suc k) (suc-le-suc lt)) in
    let z : leb x y ≡ true = le-leb x y (h 0 (omega arith)) in grind (arith, nat_tests)

pub not_at_most : (v w : List ℕ) (k : ℕ) → get_or w k 0 < get_or v k 0 → at_most v w ≡ false
not_at_most v w k lt = go (at_most v w) refl
  where
    go : (b : Bool) → at_most v w ≡ b → at_most v w ≡ false
    go true e = absurd (omega (arith, at_most_at v w e k))
    go false e = e

-- what a test of place after place found
pub at_most_is :
    (v w : List ℕ) (b : Bool)
    → MatchBool b ((k : ℕ) → k < length v → get_or v k 0 ≤ get_or w k 0) ((k : ℕ) × (get_or w k 0 < get_or v k 0))
    → b ≡ at_most v w
at_most_is v w true h = sym (at_most_from v w h)
at_most_is v w false h = sym (not_at_most v w h.0 h.1)

pub at_most_itself : (v : List ℕ) → at_most v v ≡ true
at_most_itself v = at_most_from v v (λ k _. omega arith)

pub at_most_through : (u v w : List ℕ) → at_most u v ≡ true → at_most v w ≡ true → at_most u w ≡ true
at_most_through u v w h k = at_most_from u w (λ i _. omega (arith, at_most_at u v h i, at_most_at v w k i))

-- each place of a joined vector is the joined place
pub joined_at :
    (f : ℕ → ℕ → ℕ) → f 0 0 ≡ 0 → (v w : List ℕ) (k : ℕ)
    → get_or (place_by_place f v w) k 0 ≡ f (get_or v k 0) (get_or w k 0)
joined_at f z [] [] k = sym z
joined_at f z [] (y ∷ w) zero = refl
joined_at f z [] (y ∷ w) (suc k) = joined_at f z [] w k
joined_at f z (x ∷ v) [] zero = refl
joined_at f z (x ∷ v) [] (suc k) = joined_at f z v [] k
joined_at f z (x ∷ v) (y ∷ w) zero = refl
joined_at f z (x ∷ v) (y ∷ w) (suc k) = joined_at f z v w k

-- in the order R, the join of two vectors is the least that is above both
pub record Joins (R : List ℕ → List ℕ → Type 0) (join : List ℕ → List ℕ → List ℕ) : Type 0 where
  pub itself : (v : List ℕ) → R v v
  pub through : (u v w : List ℕ) → R u v → R v w → R u w
  pub left : (v w : List ℕ) → R v (join v w)
  pub right : (v w : List ℕ) → R w (join v w)
  pub least : (u v w : List ℕ) → R v u → R w u → R (join v w) u

pub greater_joins : Joins (λ v w. at_most v w ≡ true) greater
greater_joins =
    record {
      itself = at_most_itself;
      through = at_most_through;
      left = λ v w. at_most_from v (greater v w) (λ k _. omega (arith, joined_at max refl v w k));
      right = λ v w. at_most_from w (greater v w) (λ k _. omega (arith, joined_at max refl v w k));
      least =
          λ u v w h g. at_most_from (greater v w) u
          (λ k _. omega (arith, joined_at max refl v w k, at_most_at v u h k, at_most_at w u g k));
    }

pub lesser_joins : Joins (λ v w. at_most w v ≡ true) lesser
lesser_joins =
    record {
      itself = at_most_itself;
      through = λ u v w h g. at_most_through w v u g h;
      left = λ v w. at_most_from (lesser v w) v (λ k _. omega (arith, joined_at min refl v w k));
      right = λ v w. at_most_from (lesser v w) w (λ k _. omega (arith, joined_at min refl v w k));
      least =
          λ u v w h g. at_most_from u (lesser v w)
          (λ k _. omega (arith, joined_at min refl v w k, at_most_at u v h k, at_most_at u w g k));
    }

-- within the list, putting is setting
pub put_at-set : (v : List ℕ) (i x : ℕ) → i < length v → put_at v i x ≡ set v i x
put_at-set [] i x lt = absurd (omega arith)
put_at-set (y ∷ v) zero x lt = refl
put_at-set (y ∷ v) (suc i) x lt = ap (λ t. y ∷ t) (put_at-set v i x (omega arith))

-- what stands at each place after one is put
pub put_at-at : (v : List ℕ) (i x k : ℕ) → get_or (put_at v i x) k 0 ≡ cond (eqb k i) x (get_or v k 0)
put_at-at [] zero x zero = refl
put_at-at [] zero x (suc k) = grind arith
put_at-at [] (suc i) x zero = grind arith
put_at-at [] (suc i) x (suc k) = put_at-at [] i x k ∙ grind arith
put_at-at (y ∷ v) zero x zero = refl
put_at-at (y ∷ v) zero x (suc k) = grind arith
put_at-at (y ∷ v) (suc i) x zero = grind arith
put_at-at (y ∷ v) (suc i) x (suc k) = put_at-at v i x k ∙ grind arith

-- the same number at one place of both keeps the order
pub put_at_most : (v w : List ℕ) (i x : ℕ) → at_most v w ≡ true → at_most (put_at v i x) (put_at w i x) ≡ true
put_at_most v w i x h =
    at_most_from (put_at v i x) (put_at w i x)
    (λ k _. (let le = at_most_at v w h k in grind (arith, put_at-at v i x k, put_at-at w i x k)))
