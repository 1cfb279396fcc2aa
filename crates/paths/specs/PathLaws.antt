-- What holds of paths of any number of levels n. `laws.rt` promises each.
use Rattle.std.specs.Prelude.{◌≡◌, ℕ, Bool, true, false, not, ◌&&◌, ◌||◌, List, [], ◌∷◌, ◌==◌, nat_le, nat_lt}
use Rattle.paths.specs.Steps.{is_path, number, steps, is_number, covers, parent, last}

-- a number of n levels and its steps tell the same
pub record RoundTrip (n : ℕ) : Type 0 where
  pub number_lawful : (xs : List ℕ) → is_path n xs ≡ true → is_number n (number n xs) ≡ true
  pub steps_back : (xs : List ℕ) → is_path n xs ≡ true → steps n (number n xs) ≡ xs
  pub steps_lawful : (p : ℕ) → is_number n p ≡ true → is_path n (steps n p) ≡ true
  pub number_back : (p : ℕ) → is_number n p ≡ true → number n (steps n p) ≡ p

-- step by step, and of two that begin alike the shorter first
abbrev pub before : List ℕ → List ℕ → Bool
before [] [] = false
before [] (y ∷ ys) = true
before (x ∷ xs) [] = false
before (x ∷ xs) (y ∷ ys) = nat_lt x y || (x == y && before xs ys)

abbrev pub PathOrder : ℕ → Type 0
PathOrder n =
    (p q : ℕ) → is_number n p ≡ true → is_number n q ≡ true → nat_lt p q ≡ before (steps n p) (steps n q)

pub record Covering (n : ℕ) : Type 0 where
  pub itself : (p : ℕ) → covers n p p ≡ true
  pub through : (p q r : ℕ) → covers n p q ≡ true → covers n q r ≡ true → covers n p r ≡ true
  pub either_way :
      (p q : ℕ) → is_number n p ≡ true → is_number n q ≡ true → covers n p q ≡ true → covers n q p ≡ true → p ≡ q

-- without the last element
abbrev pub front : List ℕ → List ℕ
front [] = []
front (x ∷ []) = []
front (x ∷ (y ∷ ys)) = x ∷ front (y ∷ ys)

pub record Parents (n : ℕ) : Type 0 where
  pub parent_lawful : (p : ℕ) → is_number n p ≡ true → is_number n (parent n p) ≡ true
  pub parent_steps : (p : ℕ) → is_number n p ≡ true → steps n (parent n p) ≡ front (steps n p)
  pub parent_covers : (p : ℕ) → is_number n p ≡ true → covers n (parent n p) p ≡ true
  -- a path is covered by itself and by what covers its parent
  pub climbs :
      (p q : ℕ) → is_number n p ≡ true → is_number n q ≡ true
      → covers n p q ≡ (p == q || (not (q == 0) && covers n p (parent n q)))

-- what a path covers is one run in path order: from itself to the greatest number that begins with its steps
abbrev pub Run : ℕ → Type 0
Run n =
    (p q : ℕ) → is_number n p ≡ true → is_number n q ≡ true → covers n p q ≡ (nat_le p q && nat_le q (last n p))
