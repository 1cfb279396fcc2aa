-- What is found among a store's entries after a change, and that look-ups tell all.
use Rattle.std.proofs.Common.{◌≡◌, ℕ, ◌+◌, ◌<◌, ◌≤◌, Bool, true, false, cond, eqb, ltb, ◌⊎◌, List, [], ◌∷◌, length, is_some, Some, None, Option, refl, ap, ◌∙◌, ap₂, arith, MatchOption}
use Rattle.std.proofs.lemmas.Bool.{cond_both}
use Rattle.paths.proofs.Values.{path_is}
use Rattle.stores.specs.Slots.{key, lookup, next_after, put, drop, after, rises}
use Rattle.stores.specs.StoreLaws.{Nexts, LookupLaws, EqualLookups}
use Rattle.stores.specs.declared.entry.Entry.{Entry}
use Rattle.stores.specs.declared.entry.Slot.{Slot}

-- what is found is the first slot's entry, or is found among the others
pub lookup_ways :
    (s : Slot) (es : List Slot) (q : ℕ) (e : Entry) → lookup (s ∷ es) q ≡ Some e
    → ((key s ≡ q) × (s.entry ≡ e)) ⊎ (lookup es q ≡ Some e)
lookup_ways s es q e found = grind arith

-- nothing is found at or before a path that all others come after
pub lookup-before : (es : List Slot) (p q : ℕ) → after p es ≡ true → q ≤ p → lookup es q ≡ None
lookup-before [] p q h le = refl
lookup-before (s ∷ es) p q h le = grind (arith, lookup-before es p q)

pub after_less : (es : List Slot) (p q : ℕ) → after p es ≡ true → q ≤ p → after q es ≡ true
after_less [] p q h le = refl
after_less (s ∷ es) p q h le = grind (arith, after_less es p q)

-- a put goes before the first slot, in its place, or past it
pub put_ways :
    (P : List Slot → Type 0) (t : Slot) (es : List Slot) (s : Slot) → (key s < key t → P (s ∷ (t ∷ es)))
    → (key s ≡ key t → P (s ∷ es)) → (key t < key s → P (t ∷ put es s)) → P (put (t ∷ es) s)
put_ways P t es s before here past =
    cond_both (ltb (key s) (key t)) _ _ P (λ b. before (grind arith))
    (λ b. cond_both (eqb (key s) (key t)) _ _ P (λ c. here (grind arith)) (λ c. past (grind arith)))

pub lookup-put :
    (es : List Slot) (s : Slot) (q : ℕ) → lookup (put es s) q ≡ cond (eqb (key s) q) (Some s.entry) (lookup es q)
lookup-put [] s q = refl
lookup-put (t ∷ es) s q =
    put_ways (λ fs. lookup fs q ≡ cond (eqb (key s) q) (Some s.entry) (lookup (t ∷ es) q)) t es s (λ _. refl)
    (λ e. grind arith) (λ lt. grind (arith, lookup-put es s q))

after-put : (es : List Slot) (s : Slot) (q : ℕ) → after q es ≡ true → q < key s → after q (put es s) ≡ true
after-put [] s q h lt = grind arith
after-put (t ∷ es) s q h lt =
    put_ways (λ fs. after q fs ≡ true) t es s (λ _. grind arith) (λ _. grind arith)
    (λ _. grind (arith, after-put es s q))

pub put-rises : (es : List Slot) (s : Slot) → rises es ≡ true → rises (put es s) ≡ true
put-rises [] s h = refl
put-rises (t ∷ es) s h = grind (arith, after_less es (key t) (key s), after-put es s (key t), put-rises es s)

pub put_count :
    (es : List Slot) (s : Slot) → rises es ≡ true
    → length (put es s) ≡ cond (is_some (lookup es (key s))) (length es) (length es + 1)
put_count [] s h = refl
put_count (t ∷ es) s h =
    put_ways (λ fs. length fs ≡ cond (is_some (lookup (t ∷ es) (key s))) (length (t ∷ es)) (length (t ∷ es) + 1)) t es s
    (λ lt. grind (arith, lookup-before es (key t) (key s))) (λ e. grind arith) (λ lt. grind (arith, put_count es s))

pub lookup-drop :
    (es : List Slot) (p q : ℕ) → rises es ≡ true → lookup (drop es p) q ≡ cond (eqb p q) None (lookup es q)
lookup-drop [] p q h = grind arith
lookup-drop (t ∷ es) p q h = grind (arith, lookup-before es (key t) p, lookup-drop es p q)

after-drop : (es : List Slot) (p q : ℕ) → after q es ≡ true → after q (drop es p) ≡ true
after-drop [] p q h = refl
after-drop (t ∷ es) p q h = grind (arith, after-drop es p q)

pub drop-rises : (es : List Slot) (p : ℕ) → rises es ≡ true → rises (drop es p) ≡ true
drop-rises [] p h = refl
drop-rises (t ∷ es) p h = grind (arith, after-drop es p (key t), drop-rises es p)

pub drop-count : (es : List Slot) (p : ℕ) → length (drop es p) + cond (is_some (lookup es p)) 1 0 ≡ length es
drop-count [] p = refl
drop-count (t ∷ es) p = grind (arith, drop-count es p)

-- from one law by cases to another
cases_map :
    {A P P' : Type 0} {Q Q' : A → Type 0} (o : Option A) → MatchOption o P Q → (P → P') → ((x : A) → Q x → Q' x)
    → MatchOption o P' Q'
cases_map None c f g = f c
cases_map (Some x) c f g = g x c

next : (es : List Slot) → rises es ≡ true → (q : ℕ) → Nexts es q
next [] h q = λ r lt. refl
next (s ∷ es) h q = go (next es (grind arith) q) (ltb q (key s)) refl
  where
    -- a slot that is not after q changes nothing
    past : ltb q (key s) ≡ false → (r : ℕ) → q < r → lookup (s ∷ es) r ≡ lookup es r
    past b r lt = grind arith

    go : Nexts es q → (b : Bool) → ltb q (key s) ≡ b → Nexts (s ∷ es) q
    go _ true b = rw b (grind arith, grind arith, λ r lt less. grind (arith, lookup-before es (key s) r))
    go later false b =
        rw b
        (cases_map (next_after es q) later (λ none r lt. past b r lt ∙ none r lt)
        (λ p n. (n.0, ap is_some (past b p.number n.0) ∙ n.1, λ r lt less. past b r lt ∙ n.2 r lt less)))

pub look_ups : LookupLaws
look_ups es h = (
  λ s. record {
    there = grind (arith, lookup-put es s (key s));
    elsewhere = λ q ne. grind (arith, lookup-put es s q);
    in_order = put-rises es s h;
    count = put_count es s h;
  },
  λ p. record {
    there = grind (arith, lookup-drop es p p h);
    elsewhere = λ q ne. grind (arith, lookup-drop es p q h);
    in_order = drop-rises es p h;
    count = drop-count es p;
  },
  next es h,
)

slot_is : (s t : Slot) → key s ≡ key t → s.entry ≡ t.entry → s ≡ t
slot_is s t k e = λ i. record { path = path_is s.path t.path k i; entry = e i }

pub equal_look_ups : EqualLookups
equal_look_ups [] [] h k e = refl
equal_look_ups [] (t ∷ fs) h k e = grind (arith, e (key t))
equal_look_ups (s ∷ es) [] h k e = grind (arith, e (key s))
equal_look_ups (s ∷ es) (t ∷ fs) h k e =
    ap₂ ◌∷◌ (slot_is s t same (grind (arith, same, e (key s))))
    (equal_look_ups es fs (grind arith) (grind arith)
    (λ q. grind (arith, same, e q, lookup-before es (key s) q, lookup-before fs (key t) q)))
  where
    -- neither begins before the other
    same : key s ≡ key t
    same = grind (arith, e (key s), e (key t), lookup-before es (key s) (key t), lookup-before fs (key t) (key s))
