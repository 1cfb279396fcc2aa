-- The places of a list from the i-th to the n-th, turned by one.
use Rattle.std.proofs.Common.{◌≡◌, ℕ, ◌+◌, ◌-◌, ◌<◌, ◌≤◌, List, ◌∷◌, ◌++◌, length, take, drop, set, sym, ap, ◌∙◌, ap₂, append_assoc, arith, length-append, length-drop, length-set}
use borrow.Rule.Slice.PartMut.{put_mid}
use Rattle.std.proofs.lemmas.List.{length-take, take-take, take_at, take-set, take-set-le, drop_at, drop-take, drop-drop, drop-set, drop-set-lt}
use Rattle.std.proofs.lemmas.Slice.{take-put_mid, drop-put_mid}
use Rattle.lists.specs.Front.{Inserts, Removes}

abbrev part : {X : Type 0} → List X → ℕ → ℕ → List X
part xs n i = take (n + 1 - i) (drop i xs)

module _ {X : Type 0} (xs : List X) (n i : ℕ) (le : i ≤ n) (lt : n < length xs) where
  part-len : length (part xs n i) ≡ n + 1 - i
  part-len = omega (arith, length-take (n + 1 - i) (drop i xs), length-drop i xs)

  -- the last of the part, and those before it
  last : drop (length (part xs n i) - 1) (part xs n i) ≡ take 1 (drop n xs)
  last =
      ap₂ (λ k m. drop k (take m (drop i xs))) (omega (arith, part-len)) (omega arith)
      ∙ drop-take (n - i) 1 (drop i xs) ∙ ap (take 1) (drop-drop (n - i) i xs ∙ ap (λ k. drop k xs) (omega arith))

  before_last : take (length (part xs n i) - 1) (part xs n i) ≡ drop i (take n xs)
  before_last =
      take-take (length (part xs n i) - 1) (n + 1 - i) (drop i xs) (omega (arith, part-len))
      ∙ ap (λ k. take k (drop i xs)) (omega (arith, part-len)) ∙ sym (drop-take i (n - i) xs)
      ∙ ap (λ k. drop i (take k xs)) (omega arith)

  -- its first, and those behind it
  first : take 1 (part xs n i) ≡ take 1 (drop i xs)
  first = take-take 1 (n + 1 - i) (drop i xs) (omega arith)

  behind_first : drop 1 (part xs n i) ≡ drop (i + 1) (take (n + 1) xs)
  behind_first =
      ap (λ k. drop 1 (take k (drop i xs))) (omega arith) ∙ drop-take 1 (n - i) (drop i xs)
      ∙ ap (take (n - i)) (drop-drop 1 i xs) ∙ sym (drop-take (i + 1) (n - i) xs)
      ∙ ap (λ k. drop (i + 1) (take k xs)) (omega arith)

-- x is written at the n-th place, and goes before the part
pub turned_right :
    {X : Type 0} (xs ys : List X) (n i : ℕ) (x : X) → i ≤ n → n < length xs
    → ys ≡ drop (length (part (set xs n x) n i) - 1) (part (set xs n x) n i)
    ++ take (length (part (set xs n x) n i) - 1) (part (set xs n x) n i)
    → Inserts xs (put_mid i (n + 1 - i) (set xs n x) ys) n i x
turned_right {X} xs ys n i x le lt e =
    let now : List X = set xs n x in
    let size : length now ≡ length xs = length-set xs n x in
    let turned : ys ≡ x ∷ drop i (take n xs) =
    e
    ∙ ap₂ ◌++◌ (last now n i le (omega arith) ∙ ap (take 1) (drop-set xs n x lt))
    (before_last now n i le (omega arith) ∙ ap (drop i) (take-set xs n x)) in
    let len : length ys ≡ n + 1 - i =
    omega (arith, ap length turned, length-drop i (take n xs), length-take n xs) in
    record {
      held =
          take-put_mid i (n + 1 - i) now ys (n + 1) (omega arith) (omega arith)
          ∙ ap₂ ◌++◌ (take-set-le i xs n x le) turned;
      behind =
          drop-put_mid i (n + 1 - i) now ys (n + 1) (omega arith) (omega arith) len
          ∙ drop-set-lt (n + 1) xs n x (omega arith);
    }

-- the first of the part goes behind it
pub turned_left :
    {X : Type 0} (xs ys : List X) (n i : ℕ) → i ≤ n → n < length xs
    → ys ≡ drop 1 (part xs n i) ++ take 1 (part xs n i) → Removes xs (put_mid i (n + 1 - i) xs ys) n i
turned_left {X} xs ys n i le lt e =
    let front : List X = take i xs ++ drop 1 (part xs n i) in
    let rest : List X = drop (n + 1 - i) (drop i xs) in
    let is : put_mid i (n + 1 - i) xs ys ≡ front ++ (take 1 (part xs n i) ++ rest) =
    ap (λ t. take i xs ++ (t ++ rest)) e ∙ ap (λ t. take i xs ++ t) (append_assoc (drop 1 (part xs n i)) _ rest)
    ∙ sym (append_assoc (take i xs) _ _) in
    let len : length front ≡ n =
    omega
    (arith, length-append (take i xs) (drop 1 (part xs n i)), length-take i xs, length-drop 1 (part xs n i), part-len xs n i le lt) in
    record {
      held = ap (take n) is ∙ take_at front _ n len ∙ ap (λ t. take i xs ++ t) (behind_first xs n i le lt);
      behind =
          ap (drop n) is ∙ drop_at front _ n len
          ∙ ap₂ ◌++◌ (first xs n i le lt) (drop-drop (n + 1 - i) i xs ∙ ap (λ k. drop k xs) (omega arith));
    }
