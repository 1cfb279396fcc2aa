-- Version vectors: a place for each panel, from panel 1 on. Places that a list lacks count as 0.
use Rattle.std.specs.Prelude.{◌≡◌, ◌<◌, length, ℕ, zero, suc, ◌-◌, min, max, Bool, true, ◌&&◌, List, [], ◌∷◌, nat_le, slice_index}

-- what the vector v has for panel k
abbrev pub place : List ℕ → ℕ → ℕ
place v k = slice_index v (k - 1)

-- the list with x at index i, lengthened by zeros where it is too short
abbrev pub put_at : List ℕ → ℕ → ℕ → List ℕ
put_at [] zero x = x ∷ []
put_at [] (suc i) x = 0 ∷ put_at [] i x
put_at (y ∷ v) zero x = x ∷ v
put_at (y ∷ v) (suc i) x = y ∷ put_at v i x

abbrev pub with_place : List ℕ → ℕ → ℕ → List ℕ
with_place v k x = put_at v (k - 1) x

abbrev pub place_by_place : (ℕ → ℕ → ℕ) → List ℕ → List ℕ → List ℕ
place_by_place f [] [] = []
place_by_place f [] (y ∷ w) = f 0 y ∷ place_by_place f [] w
place_by_place f (x ∷ v) [] = f x 0 ∷ place_by_place f v []
place_by_place f (x ∷ v) (y ∷ w) = f x y ∷ place_by_place f v w

-- R tells of each place of v and w what stands in the same place of u
pub record EachPlace (R : ℕ → ℕ → ℕ → Type 0) (v w u : List ℕ) : Type 0 where
  pub long : length u ≡ 8
  pub at : (k : ℕ) → k < 8 → R (slice_index v k) (slice_index w k) (slice_index u k)

abbrev pub greater : List ℕ → List ℕ → List ℕ
greater = place_by_place max

abbrev pub lesser : List ℕ → List ℕ → List ℕ
lesser = place_by_place min

-- each place of v is at most the same place of w
abbrev pub at_most : List ℕ → List ℕ → Bool
at_most [] w = true
at_most (x ∷ v) [] = nat_le x 0 && at_most v []
at_most (x ∷ v) (y ∷ w) = nat_le x y && at_most v w

-- both have the same places
abbrev pub same_places : List ℕ → List ℕ → Bool
same_places v w = at_most v w && at_most w v

-- the stamp k:t is known where the place of panel k is at least t
abbrev pub known : ℕ → ℕ → List ℕ → Bool
known k t v = nat_le t (place v k)
