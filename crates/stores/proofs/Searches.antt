-- What the searches of std find among slots in path order.
use Rattle.std.proofs.Common.{◌≡◌, ℕ, zero, suc, ◌<◌, ◌≤◌, true, false, ltb, leb, List, [], ◌∷◌, length, get_or, is_some, cond, Some, None, Ok, Err, Option, Result, Less, Equal, Greater, inl, inr, sym, refl, ap, ◌∙◌, arith, Bor, MatchOption}
use Rattle.std.proofs.lemmas.Bool.{cond-true, cond-false, cases_lt, lt-ltb, le-ltb, leb-true}
use Rattle.std.proofs.lemmas.Bool.Decides.{nat_tests}
use Rattle.std.proofs.lemmas.Option.{slice_get-get_or, slice_get_past}
use Rattle.std.specs.List.{slice_get, HoldsAt}
use Rattle.std.specs.List.Sorted.{IsNonDecreasingBy, IsPartitionPoint, IsBinarySearchResult, IsSearchInRange}
use Rattle.std.specs.Option.{option_map, IsSomeAnd}
use Rattle.std.specs.Ordering.{is_le, nat_cmp, ordering_index}
use Rattle.stores.proofs.Order.{after-at, place_past, lookup_past}
use Rattle.stores.specs.Slots.{Sought, key, lookup, next_after, rises, place}
use Rattle.stores.specs.declared.entry.Slot.{Slot}

-- what comparisons of numbers tell
pub at_most : (a b : ℕ) → is_le (nat_cmp a b) ≡ leb a b
at_most a b = grind (arith, nat_tests)

less : (a b : ℕ) → nat_cmp a b ≡ Less → a < b
less a b e = grind (arith, nat_tests)

more : (a b : ℕ) → nat_cmp a b ≡ Greater → b < a
more a b e = grind (arith, nat_tests)

same : (a b : ℕ) → nat_cmp a b ≡ Equal → a ≡ b
same a b e = grind (arith, nat_tests)

ranks_rise : (a b q : ℕ) → a ≤ b → ordering_index (nat_cmp a q) ≤ ordering_index (nat_cmp b q)
ranks_rise a b q le = grind (arith, nat_tests)

pub keys_rise : (es : List Slot) → rises es ≡ true → IsNonDecreasingBy key es
keys_rise [] h i j d le lt = absurd (omega arith)
keys_rise (s ∷ es) h zero zero d le lt = omega arith
keys_rise (s ∷ es) h zero (suc j) d le lt =
    let first : key s < key (get_or es j d) = after-at (key s) es j d (grind arith) (omega arith) in omega arith
keys_rise (s ∷ es) h (suc i) zero d le lt = absurd (omega arith)
keys_rise (s ∷ es) h (suc i) (suc j) d le lt = keys_rise es (grind arith) i j d (omega arith) (omega arith)

-- the place is that between the lesser paths and the others
pub place_is :
    (es : List Slot) (q i : ℕ) → i ≤ length es
    → IsPartitionPoint (λ s. ltb (key s) q ≡ true) (λ s. ltb (key s) q ≡ false) es i → i ≡ place es q
place_is [] q i le (before, past) = omega arith
place_is (s ∷ es) q zero le (before, past) = sym (cond-false _ _ _ (past 0 s (omega arith) (omega arith)))
place_is (s ∷ es) q (suc i) le (before, past) =
    ap suc
    (place_is es q i (omega arith)
    ((λ k d low high. before (suc k) d (omega arith) (omega arith)), (λ k d low high. past (suc k) d (omega arith) (omega arith))))
    ∙ sym (cond-true _ _ _ (before 0 s (omega arith) (omega arith)))

-- the next is the first past those that come no later
pub next_is :
    (es : List Slot) (q i : ℕ) → i ≤ length es
    → IsPartitionPoint (λ s. leb (key s) q ≡ true) (λ s. leb (key s) q ≡ false) es i
    → option_map (λ (s : Slot). s.path) (slice_get es i) ≡ next_after es q
next_is [] q i le (before, past) = refl
next_is (s ∷ es) q zero le (before, past) =
    let more : leb (key s) q ≡ false = past 0 s (omega arith) (omega arith) in grind (arith, more)
next_is (s ∷ es) q (suc i) le (before, past) =
    let first : leb (key s) q ≡ true = before 0 s (omega arith) (omega arith) in
    next_is es q i (omega arith)
    ((λ k d low high. before (suc k) d (omega arith) (omega arith)), (λ k d low high. past (suc k) d (omega arith) (omega arith)))
    ∙ sym (cond-false _ _ _ (le-ltb q (key s) (leb-true _ _ first)))

-- a slot stands at the place of its path, and is found there
stands :
    (es : List Slot) (i : ℕ) (d : Slot) → rises es ≡ true → i < length es
    → (place es (key (get_or es i d)) ≡ i) × (lookup es (key (get_or es i d)) ≡ Some (get_or es i d).entry)
stands [] i d h lt = absurd (omega arith)
stands (s ∷ es) zero d h lt = (grind arith, grind arith)
stands (s ∷ es) (suc i) d h lt =
    let first : key s < key (get_or es i d) = after-at (key s) es i d (grind arith) (omega arith) in
    let (at, found) = stands es i d (grind arith) (omega arith) in
    (place_past s es _ first ∙ ap suc at, lookup_past s es _ first ∙ found)

unentered : (es : List Slot) (q : ℕ) → ((k : ℕ) (d : Slot) → k < length es → key (get_or es k d) ≡ q → ⊥) → lookup es q ≡ None
unentered [] q h = refl
unentered (s ∷ es) q h =
    let first : key s ≡ q → ⊥ = h 0 s (omega arith) in
    let rest : lookup es q ≡ None = unentered es q (λ k d lt. h (suc k) d (omega arith)) in grind arith

pub search_is :
    (es : List Slot) (q : ℕ) (r : Result ℕ ℕ) → rises es ≡ true → IsSearchInRange r (length es)
    → IsBinarySearchResult (λ s. nat_cmp (key s) q) es r → Sought es q r
search_is [] q (Ok i) h lt at = absurd (omega arith)
search_is (s ∷ es) q (Ok i) h lt at =
    let here = λ (d : Slot). same (key (get_or (s ∷ es) i d)) q (at d) in (
      sym (ap (place (s ∷ es)) (sym (here s)) ∙ (stands (s ∷ es) i s h lt).0),
      lt,
      λ d. ap (lookup (s ∷ es)) (sym (here d)) ∙ (stands (s ∷ es) i d h lt).1,
    )
search_is es q (Err i) h le gap =
    let point = gap (λ a b d low high. ranks_rise _ _ q (keys_rise es h a b d low high)) in
    let before = λ (k : ℕ) (d : Slot) (low : 0 ≤ k) (high : k < i). less (key (get_or es k d)) q (point.0 k d low high) in
    let past = λ (k : ℕ) (d : Slot) (low : i ≤ k) (high : k < length es). more (key (get_or es k d)) q (point.1 k d low high) in (
      place_is es q i le
          ((λ k d low high. lt-ltb _ q (before k d low high)), (λ k d low high. le-ltb _ q (omega (arith, past k d low high)))),
      le,
      unentered es q
          (λ k d lt e. elim (cases_lt k i) [
            | inl low ↦ omega (arith, before k d (omega arith) low)
            | inr high ↦ omega (arith, past k d high lt)
          ]),
    )

-- `xs.get(i).map(f)`
pub got_mapped :
    {X Y : Type 0} (xs : List X) (i : ℕ) (f : X → Y) (o : Option (Bor X)) (r : Option Y) {R : Bor X → Y → Type 0}
    → MatchOption o (length xs ≤ i) (λ x. (i < length xs) × HoldsAt (λ y. x.now ≡ y) xs i)
    → MatchOption o (r ≡ None) (λ x. IsSomeAnd r (R x)) → ((x : Bor X) (y : Y) → R x y → y ≡ f x.now)
    → r ≡ option_map f (slice_get xs i)
got_mapped xs i f None r past none k = none ∙ sym (ap (option_map f) (slice_get_past xs i past))
got_mapped xs i f (Some x) None got some k = absurd some
got_mapped xs i f (Some x) (Some y) (lt, at) some k =
    ap Some (k x y some ∙ ap f (at x.now)) ∙ sym (ap (option_map f) (slice_get-get_or xs i x.now lt))

-- where a search ended tells whether the path is entered
pub sought_tells :
    (es : List Slot) (q : ℕ) (r : Result ℕ ℕ) → Sought es q r
    → r ≡ cond (is_some (lookup es q)) (Ok (place es q)) (Err (place es q))
sought_tells [] q (Ok i) (at, lt, hit) = absurd (omega arith)
sought_tells (s ∷ es) q (Ok i) (at, lt, hit) = ap Ok at ∙ sym (cond-true _ _ _ (ap is_some (hit s)))
sought_tells es q (Err i) (at, le, none) = ap Err at ∙ sym (cond-false _ _ _ (ap is_some none))
