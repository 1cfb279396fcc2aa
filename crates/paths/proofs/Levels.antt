-- The laws of PathLaws. Each is proved of the list of a path's steps, and then read at its number.
use Rattle.std.proofs.Common.{◌≡◌, ℕ, zero, suc, ◌+◌, ◌-◌, ◌*◌, ◌/◌, ◌%◌, ◌^◌, ◌<◌, ◌≤◌, true, false, not, ◌&&◌, ◌||◌, eqb, ltb, leb, ◌⊎◌, List, [], ◌∷◌, length, refl, ap, subst, subst₂, inl, inr, mul-le-mul_right, arith}
use native.Mathlib.Nat.{one-le-pow, zero-div, zero-mod}
use Rattle.std.proofs.lemmas.Nat.{div-add-mod', div-mul-add, mod-mul-add}
use Rattle.paths.specs.Steps.{is_path, number, steps, is_number, begins, covers, depth, parent, last}
use Rattle.paths.specs.PathLaws.{RoundTrip, PathOrder, Covering, Parents, Run, before, front}

pub pow_pos : (n : ℕ) → 0 < 256 ^ n
pow_pos n = one-le-pow n 256 (omega arith)

-- of two numbers, the one whose first digit is less is less
pub by_first : (w x y a b : ℕ) → a < w → x < y → x * w + a < y * w + b
by_first w x y a b small less = omega (arith, mul-le-mul_right w less)

-- numbers compare digit by digit
module _ (w x y a b : ℕ) (small-a : a < w) (small_b : b < w) where
  eqb_digits : eqb (x * w + a) (y * w + b) ≡ (eqb x y && eqb a b)
  eqb_digits = grind (arith, by_first w x y a b, by_first w y x b a)

  ltb_digits : ltb (x * w + a) (y * w + b) ≡ (ltb x y || (eqb x y && ltb a b))
  ltb_digits = grind (arith, by_first w x y a b, by_first w y x b a)

  leb_digits : leb (x * w + a) (y * w + b) ≡ (ltb x y || (eqb x y && leb a b))
  leb_digits = grind (arith, by_first w x y a b, by_first w y x b a)

-- the number of a path of n levels fits in n bytes
pub number_lt : (n : ℕ) (xs : List ℕ) → is_path n xs ≡ true → number n xs < 256 ^ n
number_lt n [] h = pow_pos n
number_lt zero (x ∷ xs) h = grind arith
number_lt (suc n) (x ∷ xs) h = grind (arith, by_first (256 ^ n) x 256 (number n xs) 0, number_lt n xs)

-- only the root's number is 0
pub number_pos : (n x : ℕ) (xs : List ℕ) → is_path n (x ∷ xs) ≡ true → 0 < number n (x ∷ xs)
number_pos zero x xs h = grind arith
number_pos (suc n) x xs h = grind (arith, by_first (256 ^ n) 0 x 0 (number n xs), pow_pos n)

-- divided by the highest byte's weight, a number gives the first step and leaves the number of the others
first_step :
    (n x : ℕ) (xs : List ℕ) → is_path (suc n) (x ∷ xs) ≡ true
    → (number (suc n) (x ∷ xs) / 256 ^ n ≡ x) × (number (suc n) (x ∷ xs) % 256 ^ n ≡ number n xs)
first_step n x xs h = grind (arith, number_lt, div-mul-add, mod-mul-add)

number_lawful : (n : ℕ) (xs : List ℕ) → is_path n xs ≡ true → is_number n (number n xs) ≡ true
number_lawful zero [] h = refl
number_lawful (suc n) [] h = rw zero-div
number_lawful zero (x ∷ xs) h = refl
number_lawful (suc n) (x ∷ xs) h = grind (arith, first_step n x xs h, number_lawful n xs)

steps_back : (n : ℕ) (xs : List ℕ) → is_path n xs ≡ true → steps n (number n xs) ≡ xs
steps_back zero [] h = refl
steps_back (suc n) [] h = rw zero-div
steps_back zero (x ∷ xs) h = grind arith
steps_back (suc n) (x ∷ xs) h = grind (arith, first_step n x xs h, steps_back n xs)

steps_lawful : (n p : ℕ) → is_number n p ≡ true → is_path n (steps n p) ≡ true
steps_lawful zero p h = refl
steps_lawful (suc n) p h = grind (arith, steps_lawful n (p % 256 ^ n))

number_back : (n p : ℕ) → is_number n p ≡ true → number n (steps n p) ≡ p
number_back zero p h = grind arith
number_back (suc n) p h = grind (arith, div-add-mod', number_back n (p % 256 ^ n))

pub round_trip : (n : ℕ) → RoundTrip n
round_trip n =
    record {
      number_lawful = number_lawful n;
      steps_back = steps_back n;
      steps_lawful = steps_lawful n;
      number_back = number_back n;
    }

-- what holds of every path and its number holds of every lawful number's steps and that number
pub of_path :
    (n : ℕ) (P : List ℕ → ℕ → Type 0) → ((xs : List ℕ) → is_path n xs ≡ true → P xs (number n xs))
    → (p : ℕ) → is_number n p ≡ true → P (steps n p) p
of_path n P f p h = subst (P (steps n p)) (number_back n p h) (f (steps n p) (steps_lawful n p h))

-- and so of two paths
pub of_paths :
    (n : ℕ) (P : List ℕ → List ℕ → ℕ → ℕ → Type 0)
    → ((xs ys : List ℕ) → is_path n xs ≡ true → is_path n ys ≡ true → P xs ys (number n xs) (number n ys))
    → (p q : ℕ) → is_number n p ≡ true → is_number n q ≡ true → P (steps n p) (steps n q) p q
of_paths n P f p q h k =
    subst₂ (P (steps n p) (steps n q)) (number_back n p h) (number_back n q k)
    (f (steps n p) (steps n q) (steps_lawful n p h) (steps_lawful n q k))

-- the numbers of paths are ordered as the paths are
number_order :
    (n : ℕ) (xs ys : List ℕ) → is_path n xs ≡ true → is_path n ys ≡ true
    → ltb (number n xs) (number n ys) ≡ before xs ys
number_order n [] [] h k = refl
number_order n [] (y ∷ ys) h k = grind (arith, number_pos n y ys k)
number_order n (x ∷ xs) [] h k = grind arith
number_order zero (x ∷ xs) (y ∷ ys) h k = grind arith
number_order (suc n) (x ∷ xs) (y ∷ ys) h k =
    grind (arith, number_lt, ltb_digits (256 ^ n) x y (number n xs) (number n ys), number_order n xs ys)

pub path_order : (n : ℕ) → PathOrder n
path_order n = of_paths n (λ xs ys p q. ltb p q ≡ before xs ys) (number_order n)

begins-itself : (xs : List ℕ) → begins xs xs ≡ true
begins-itself [] = refl
begins-itself (x ∷ xs) = grind (arith, begins-itself xs)

begins-through : (xs ys zs : List ℕ) → begins xs ys ≡ true → begins ys zs ≡ true → begins xs zs ≡ true
begins-through [] ys zs h k = refl
begins-through (x ∷ xs) [] zs h k = grind arith
begins-through (x ∷ xs) (y ∷ ys) [] h k = grind arith
begins-through (x ∷ xs) (y ∷ ys) (z ∷ zs) h k = grind (arith, begins-through xs ys zs)

begins-either_way : (xs ys : List ℕ) → begins xs ys ≡ true → begins ys xs ≡ true → xs ≡ ys
begins-either_way [] [] h k = refl
begins-either_way [] (y ∷ ys) h k = grind arith
begins-either_way (x ∷ xs) [] h k = grind arith
begins-either_way (x ∷ xs) (y ∷ ys) h k = grind (arith, begins-either_way xs ys)

pub covering : (n : ℕ) → Covering n
covering n =
    record {
      itself = λ p. begins-itself (steps n p);
      through = λ p q r. begins-through (steps n p) (steps n q) (steps n r);
      either_way =
          of_paths n (λ xs ys p q. begins xs ys ≡ true → begins ys xs ≡ true → p ≡ q)
          (λ xs ys _ _ h k. ap (number n) (begins-either_way xs ys h k));
    }

front-lawful : (n : ℕ) (xs : List ℕ) → is_path n xs ≡ true → is_path n (front xs) ≡ true
front-lawful n [] h = refl
front-lawful n (x ∷ []) h = refl
front-lawful zero (x ∷ (y ∷ ys)) h = grind arith
front-lawful (suc n) (x ∷ (y ∷ ys)) h = grind (arith, front-lawful n (y ∷ ys))

-- a parent is the number of all steps but the last
parent-number : (n : ℕ) (xs : List ℕ) → is_path n xs ≡ true → parent n (number n xs) ≡ number n (front xs)
parent-number zero [] h = refl
parent-number (suc n) [] h = rw zero-mod
parent-number zero (x ∷ xs) h = grind arith
parent-number (suc n) (x ∷ []) h = grind (arith, first_step n x [] h)
parent-number (suc n) (x ∷ (y ∷ ys)) h =
    grind (arith, first_step n x (y ∷ ys) h, number_pos n y ys, parent-number n (y ∷ ys))

front-begins : (xs : List ℕ) → begins (front xs) xs ≡ true
front-begins [] = refl
front-begins (x ∷ []) = refl
front-begins (x ∷ (y ∷ ys)) = grind (arith, front-begins (y ∷ ys))

-- the steps that begin a path are all of it, or begin it without its last
begins-climbs :
    (n : ℕ) (xs ys : List ℕ) → is_path n xs ≡ true → is_path n ys ≡ true
    → begins xs ys ≡ (eqb (number n xs) (number n ys) || (not (eqb (number n ys) 0) && begins xs (front ys)))
begins-climbs n [] [] h k = refl
begins-climbs n [] (y ∷ ys) h k = grind arith
begins-climbs n (x ∷ xs) [] h k = grind (arith, number_pos n x xs h)
begins-climbs zero (x ∷ xs) (y ∷ ys) h k = grind arith
begins-climbs (suc n) (x ∷ xs) (y ∷ []) h k =
    grind (arith, number_lt, eqb_digits (256 ^ n) x y (number n xs) (number n []), begins-climbs n xs [])
begins-climbs (suc n) (x ∷ xs) (y ∷ (z ∷ zs)) h k =
    grind (
      arith,
      number_lt n xs,
      number_lt n (z ∷ zs),
      number_pos n z zs,
      eqb_digits (256 ^ n) x y (number n xs) (number n (z ∷ zs)),
      begins-climbs n xs (z ∷ zs),
    )

pub parents : (n : ℕ) → Parents n
parents n =
    record {
      parent_lawful =
          of_path n (λ xs p. is_number n (parent n p) ≡ true)
          (λ xs h. rw (parent-number n xs h) (number_lawful n (front xs) (front-lawful n xs h)));
      parent_steps = parent_steps;
      parent_covers = λ p h. rw (parent_steps p h) (front-begins (steps n p));
      climbs =
          λ p q h k. rw (parent_steps q k)
          (of_paths n (λ xs ys p q. begins xs ys ≡ (eqb p q || (not (eqb q 0) && begins xs (front ys))))
          (begins-climbs n) p q h k);
    }
  where
    parent_steps : (p : ℕ) → is_number n p ≡ true → steps n (parent n p) ≡ front (steps n p)
    parent_steps =
        of_path n (λ xs p. steps n (parent n p) ≡ front xs)
        (λ xs h. rw (parent-number n xs h) (steps_back n (front xs) (front-lawful n xs h)))

-- the parent of all but the root comes before it
pub parent_less : (n p : ℕ) → is_number n p ≡ true → 0 < p → parent n p < p
parent_less zero p h some = grind arith
parent_less (suc n) p h some = grind (arith, div-add-mod', parent_less n (p % 256 ^ n))

length_front : (xs : List ℕ) → length (front xs) ≡ length xs - 1
length_front [] = refl
length_front (x ∷ []) = refl
length_front (x ∷ (y ∷ ys)) = omega (arith, length_front (y ∷ ys))

pub depth_le : (n p : ℕ) → depth n p ≤ n
depth_le zero p = omega arith
depth_le (suc n) p = grind (arith, depth_le n (p % 256 ^ n))

-- only the root has no step
pub depth-root : (n p : ℕ) → is_number n p ≡ true → depth n p ≤ 0 → p ≡ 0
depth-root n = of_path n (λ xs p. length xs ≤ 0 → p ≡ 0) (λ xs _. go xs)
  where
    go : (xs : List ℕ) → length xs ≤ 0 → number n xs ≡ 0
    go [] le = refl
    go (x ∷ xs) le = absurd (omega arith)

pub depth-parent : (n k p : ℕ) → is_number n p ≡ true → depth n p ≤ suc k → depth n (parent n p) ≤ k
depth-parent n k p h le = rw ((parents n).parent_steps p h) (omega (arith, length_front (steps n p)))

-- what holds of p, and of each covered path whose parent it holds of, holds of all that p covers
pub all-covered :
    (n p : ℕ) (P : ℕ → Type 0) → is_number n p ≡ true → P p
    → ((q : ℕ) → is_number n q ≡ true → covers n p q ≡ true → P (parent n q) → P q)
    → (q : ℕ) → is_number n q ≡ true → covers n p q ≡ true → P q
all-covered n p P h here step q k c = go n q (depth_le n q) k c
  where
    ways : (q : ℕ) → is_number n q ≡ true → covers n p q ≡ true → (p ≡ q) ⊎ ((0 < q) × (covers n p (parent n q) ≡ true))
    ways q k c = grind (arith, (parents n).climbs p q h k)

    go : (d q : ℕ) → depth n q ≤ d → is_number n q ≡ true → covers n p q ≡ true → P q
    go zero q le k c =
        elim (ways q k c) [ inl e ↦ subst P e here | inr w ↦ absurd (omega (arith, depth-root n q k le, w.0)) ]
    go (suc d) q le k c =
        elim (ways q k c) [
          | inl e ↦ subst P e here
          | inr w ↦ step q k c (go d (parent n q) (depth-parent n d q k le) ((parents n).parent_lawful q k) w.1)
        ]

-- the last number that the root covers is the greatest of n bytes
last-root : (n : ℕ) → last n 0 ≡ 256 ^ n - 1
last-root zero = refl
last-root (suc n) = rw zero-div

-- that of any other path has its first step, and then the last of the others
last-number :
    (n x : ℕ) (xs : List ℕ) → is_path (suc n) (x ∷ xs) ≡ true
    → last (suc n) (number (suc n) (x ∷ xs)) ≡ x * 256 ^ n + last n (number n xs)
last-number n x xs h = grind (arith, first_step n x xs h)

pub last_lt : (n : ℕ) (xs : List ℕ) → is_path n xs ≡ true → last n (number n xs) < 256 ^ n
last_lt n [] h = omega (arith, last-root n, pow_pos n)
last_lt zero (x ∷ xs) h = omega arith
last_lt (suc n) (x ∷ xs) h =
    grind (arith, last-number n x xs h, by_first (256 ^ n) x 256 (last n (number n xs)) 0, last_lt n xs)

-- the paths that begin with xs are those between its number and the last
begins_run :
    (n : ℕ) (xs ys : List ℕ) → is_path n xs ≡ true → is_path n ys ≡ true
    → begins xs ys ≡ (leb (number n xs) (number n ys) && leb (number n ys) (last n (number n xs)))
begins_run n [] ys h k = grind (arith, last-root n, number_lt n ys k)
begins_run n (x ∷ xs) [] h k = grind (arith, number_pos n x xs h)
begins_run zero (x ∷ xs) (y ∷ ys) h k = grind arith
begins_run (suc n) (x ∷ xs) (y ∷ ys) h k =
    grind (
      arith,
      last-number n x xs h,
      number_lt,
      last_lt,
      leb_digits (256 ^ n) x y (number n xs) (number n ys),
      leb_digits (256 ^ n) y x (number n ys) (last n (number n xs)),
      begins_run n xs ys,
    )

pub run : (n : ℕ) → Run n
run n = of_paths n (λ xs ys p q. begins xs ys ≡ (leb p q && leb q (last n p))) (begins_run n)

-- so a path covers none before it
pub none_before : (n p q : ℕ) → is_number n p ≡ true → is_number n q ≡ true → q < p → covers n p q ≡ false
none_before n p q h k less = grind (arith, run n p q h k)

-- and none after a later one that it does not cover
pub none_after :
    (n p q r : ℕ) → is_number n p ≡ true → is_number n q ≡ true → is_number n r ≡ true → p ≤ q → covers n p q ≡ false
    → q < r → covers n p r ≡ false
none_after n p q r h k l le out less = grind (arith, run n p q h k, run n p r h l)
