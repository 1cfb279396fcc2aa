-- Slots at the front of a slice: what a change of the slice does to them.
use Rattle.std.proofs.Common.{◌≡◌, ℕ, suc, ◌+◌, ◌-◌, ◌<◌, ◌≤◌, Bool, true, cond, ◌&&◌, ltb, leb, List, [], ◌∷◌, ◌++◌, length, take, drop, set, is_some, None, Ok, Err, sym, refl, ap, ◌∙◌, subst, ap₂, add-one, arith, MatchBool}
use Rattle.std.proofs.Math.Seq.{take-set-lt}
use Rattle.std.proofs.lemmas.Bool.{cond-true, cond-false, and_from, lt-ltb, le-leb}
use Rattle.std.proofs.lemmas.List.{take-take, length-take, length-take-le, drop-take}
use Rattle.lists.specs.Front.{Inserts, Removes}
use Rattle.stores.proofs.Entries.{put_count}
use Rattle.stores.proofs.Order.{put_entered, put_new, drop_entered, dropped_entered}
use Rattle.stores.specs.Slots.{Sought, key, lookup, put, drop as drop_slots, dropped, rises}
use Rattle.stores.specs.declared.entry.Slot.{Slot}

pub drop_none : (es : List Slot) (q : ℕ) → lookup es q ≡ None → drop_slots es q ≡ es
drop_none [] q none = refl
drop_none (s ∷ es) q none = grind (arith, drop_none es q)

dropped_none : (es : List Slot) (q : ℕ) → lookup es q ≡ None → dropped es q ≡ []
dropped_none [] q none = refl
dropped_none (s ∷ es) q none = grind (arith, dropped_none es q)

hit : (es : List Slot) (q i : ℕ) → Sought es q (Ok i) → is_some (lookup es q) ≡ true
hit [] q i found = absurd (omega arith)
hit (s ∷ es) q i found = ap is_some (found.2 s)

-- the slot at a place of the front
first_of_front : (xs : List Slot) (n i : ℕ) → i < n → take 1 (drop i (take n xs)) ≡ take 1 (drop i xs)
first_of_front xs n i lt =
    ap (λ k. take 1 (drop i (take k xs))) (omega arith) ∙ ap (take 1) (drop-take i (n - i) xs)
    ∙ take-take 1 (n - i) (drop i xs) (omega arith)

-- a slot whose path stands there is set
module _ (xs : List Slot) (n i : ℕ) (s : Slot) (h : rises (take n xs) ≡ true) (le : n ≤ length xs) (sought : Sought (take n xs) (key s) (Ok i)) where
  pub set-held : (ys : List Slot) → ys ≡ set xs i s → take n ys ≡ put (take n xs) s
  set-held ys is =
      ap (take n) is ∙ take-set-lt n xs i s (omega (arith, sought.1, length-take n xs))
      ∙ ap (λ k. set (take n xs) k s) sought.0 ∙ sym (put_entered (take n xs) s h (hit (take n xs) (key s) i sought))

  pub set-len : n ≡ length (put (take n xs) s)
  set-len =
      sym (length-take-le n xs le)
      ∙ sym (put_count (take n xs) s h ∙ cond-true _ _ _ (hit (take n xs) (key s) i sought))

-- the path of q stands among the first n, at i
module _ (xs : List Slot) (n q i : ℕ) (h : rises (take n xs) ≡ true) (le : n ≤ length xs) (sought : Sought (take n xs) q (Ok i)) where
  entered : is_some (lookup (take n xs) q) ≡ true
  entered = hit (take n xs) q i sought

  within : i < n
  within = omega (arith, sought.1, length-take n xs)

  module _ (ys : List Slot) (m : ℕ) (b : Bool) (answer : b ≡ (ltb i n && leb n (length xs))) (len : m ≡ cond b (n - 1) n)
      (slots : MatchBool b (Removes xs ys (n - 1) i) (ys ≡ xs)) where
    yes : b ≡ true
    yes = answer ∙ and_from (ltb i n) (leb n (length xs)) (lt-ltb i n within) (le-leb n (length xs) le)

    pub remove-fewer : m ≡ n - 1
    remove-fewer = len ∙ ap (λ t. cond t (n - 1) n) yes

    moved : Removes xs ys (n - 1) i
    moved = subst (λ t. MatchBool t (Removes xs ys (n - 1) i) (ys ≡ xs)) yes slots

    pub remove-held : take (n - 1) ys ≡ drop_slots (take n xs) q
    remove-held =
        moved.held
        ∙ ap₂ (λ front k. front ++ drop (i + 1) (take k xs)) (sym (take-take i n xs (omega (arith, within)))) (omega (arith, within))
        ∙ ap₂ (λ k l. take k (take n xs) ++ drop l (take n xs)) sought.0 (add-one i ∙ ap suc sought.0)
        ∙ sym (drop_entered (take n xs) q h entered)

    pub remove-behind : drop (n - 1) ys ≡ dropped (take n xs) q ++ drop n xs
    remove-behind =
        moved.behind
        ∙ ap₂ (λ out k. out ++ drop k xs)
        (sym (first_of_front xs n i within) ∙ ap (λ k. take 1 (drop k (take n xs))) sought.0
        ∙ sym (dropped_entered (take n xs) q h entered))
        (omega (arith, within))

  -- the slot at j was taken out of the first k, which are that place and that many
  pub removed :
      (ys : List Slot) (m j k : ℕ) (b : Bool) → b ≡ (ltb j k && leb k (length xs)) → m ≡ cond b (k - 1) k
      → MatchBool b (Removes xs ys (k - 1) j) (ys ≡ xs) → j ≡ i → k ≡ n
      → (m ≡ n - 1) × (take (n - 1) ys ≡ drop_slots (take n xs) q) × (drop (n - 1) ys ≡ dropped (take n xs) q ++ drop n xs)
  removed ys m j k b answer len slots here whole =
      let answer' = answer ∙ ap₂ (λ j k. ltb j k && leb k (length xs)) here whole in
      let len' = len ∙ ap (λ k. cond b (k - 1) k) whole in
      let slots' =
      subst (λ k. MatchBool b (Removes xs ys (k - 1) i) (ys ≡ xs)) whole
      (subst (λ j. MatchBool b (Removes xs ys (k - 1) j) (ys ≡ xs)) here slots) in (
        remove-fewer ys m b answer' len' slots',
        remove-held ys m b answer' len' slots',
        remove-behind ys m b answer' len' slots',
      )

-- it does not
module _ (xs : List Slot) (n q i : ℕ) (sought : Sought (take n xs) q (Err i)) where
  pub left-held : take n xs ≡ drop_slots (take n xs) q
  left-held = sym (drop_none (take n xs) q sought.2)

  pub left-behind : drop n xs ≡ dropped (take n xs) q ++ drop n xs
  left-behind = sym (ap (λ out. out ++ drop n xs) (dropped_none (take n xs) q sought.2))

-- a slot that is new goes to its place
module _ (xs : List Slot) (n i : ℕ) (s : Slot) (h : rises (take n xs) ≡ true) (lt : n < length xs) (sought : Sought (take n xs) (key s) (Err i))
    (ys : List Slot) (m : ℕ) (b : Bool) (answer : b ≡ (leb i n && ltb n (length xs))) (len : m ≡ cond b (n + 1) n)
    (slots : MatchBool b (Inserts xs ys n i s) (ys ≡ xs)) where
  before_end : i ≤ n
  before_end = omega (arith, sought.1, length-take n xs)

  fits : b ≡ true
  fits = answer ∙ and_from (leb i n) (ltb n (length xs)) (le-leb i n before_end) (lt-ltb n (length xs) lt)

  pub insert-more : m ≡ n + 1
  insert-more = len ∙ ap (λ t. cond t (n + 1) n) fits

  inserted : Inserts xs ys n i s
  inserted = subst (λ t. MatchBool t (Inserts xs ys n i s) (ys ≡ xs)) fits slots

  pub insert-held : take (n + 1) ys ≡ put (take n xs) s
  insert-held =
      inserted.held
      ∙ ap (λ t. t ++ (s ∷ drop i (take n xs))) (sym (take-take i n xs before_end))
      ∙ ap (λ k. take k (take n xs) ++ (s ∷ drop k (take n xs))) sought.0
      ∙ sym (put_new (take n xs) s h (ap is_some sought.2))

  pub insert-len : n + 1 ≡ length (put (take n xs) s)
  insert-len =
      ap (λ k. k + 1) (sym (length-take-le n xs (omega arith)))
      ∙ sym (put_count (take n xs) s h ∙ cond-false _ _ _ (ap is_some sought.2))

-- the same where the slot went before the one at j of the first k, which are that place and that many
pub inserted_there :
    (xs : List Slot) (n i : ℕ) (s : Slot) → rises (take n xs) ≡ true → n < length xs → Sought (take n xs) (key s) (Err i)
    → (ys : List Slot) (m j k : ℕ) (b : Bool) → b ≡ (leb j k && ltb k (length xs)) → m ≡ cond b (k + 1) k
    → MatchBool b (Inserts xs ys k j s) (ys ≡ xs) → j ≡ i → k ≡ n
    → (m ≡ n + 1) × (take (n + 1) ys ≡ put (take n xs) s) × (n + 1 ≡ length (put (take n xs) s))
inserted_there xs n i s h lt sought ys m j k b answer len slots here whole =
    let answer' = answer ∙ ap₂ (λ j k. leb j k && ltb k (length xs)) here whole in
    let len' = len ∙ ap (λ k. cond b (k + 1) k) whole in
    let slots' =
    subst (λ k. MatchBool b (Inserts xs ys k i s) (ys ≡ xs)) whole
    (subst (λ j. MatchBool b (Inserts xs ys k j s) (ys ≡ xs)) here slots) in (
      insert-more xs n i s h lt sought ys m b answer' len' slots',
      insert-held xs n i s h lt sought ys m b answer' len' slots',
      insert-len xs n i s h lt sought ys m b answer' len' slots',
    )
