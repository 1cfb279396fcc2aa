-- Slots in path order, by the place of a path among them.
use Rattle.std.proofs.Common.{◌≡◌, ℕ, zero, suc, ◌<◌, true, false, eqb, List, [], ◌∷◌, ◌++◌, length, get_or, take, drop, set, is_some, sym, refl, ap, ◌∙◌, arith}
use Rattle.std.proofs.lemmas.Bool.{cond_both, cond-true, lt-ltb}
use Rattle.stores.proofs.Entries.{lookup-before, put_ways}
use Rattle.stores.specs.Slots.{key, lookup, put, drop as drop_slots, dropped, after, rises, place}
use Rattle.stores.specs.declared.entry.Slot.{Slot}

pub after-at : (q : ℕ) (es : List Slot) (k : ℕ) (d : Slot) → after q es ≡ true → k < length es → q < key (get_or es k d)
after-at q [] k d h lt = absurd (omega arith)
after-at q (s ∷ es) zero d h lt = grind arith
after-at q (s ∷ es) (suc k) d h lt = after-at q es k d (grind arith) (omega arith)

module _ (t : Slot) (es : List Slot) (q : ℕ) (lt : key t < q) where
  pub place_past : place (t ∷ es) q ≡ suc (place es q)
  place_past = cond-true _ _ _ (lt-ltb (key t) q lt)

  pub lookup_past : lookup (t ∷ es) q ≡ lookup es q
  lookup_past = grind arith

-- a put at an entered path sets its slot, and a drop takes it out
pub put_entered :
    (es : List Slot) (s : Slot) → rises es ≡ true → is_some (lookup es (key s)) ≡ true → put es s ≡ set es (place es (key s)) s
put_entered [] s h found = grind arith
put_entered (t ∷ es) s h found =
    put_ways (λ fs. fs ≡ set (t ∷ es) (place (t ∷ es) (key s)) s) t es s
    (λ lt. grind (arith, lookup-before es (key t) (key s))) (λ e. grind arith)
    (λ lt. ap (λ fs. t ∷ fs) (put_entered es s (grind arith) (ap is_some (sym (lookup_past t es (key s) lt)) ∙ found))
    ∙ sym (ap (λ k. set (t ∷ es) k s) (place_past t es (key s) lt)))

pub drop_entered :
    (es : List Slot) (q : ℕ) → rises es ≡ true → is_some (lookup es q) ≡ true
    → drop_slots es q ≡ take (place es q) es ++ drop (suc (place es q)) es
drop_entered [] q h found = grind arith
drop_entered (t ∷ es) q h found =
    cond_both (eqb (key t) q) es (t ∷ drop_slots es q) (λ fs. fs ≡ take (place (t ∷ es) q) (t ∷ es) ++ drop (suc (place (t ∷ es) q)) (t ∷ es))
    (λ e. grind arith)
    (λ other. let lt : key t < q = grind (arith, lookup-before es (key t) q) in
    ap (λ fs. t ∷ fs) (drop_entered es q (grind arith) (ap is_some (sym (lookup_past t es q lt)) ∙ found))
    ∙ sym (ap (λ k. take k (t ∷ es) ++ drop (suc k) (t ∷ es)) (place_past t es q lt)))

pub dropped_entered :
    (es : List Slot) (q : ℕ) → rises es ≡ true → is_some (lookup es q) ≡ true
    → dropped es q ≡ take 1 (drop (place es q) es)
dropped_entered [] q h found = grind arith
dropped_entered (t ∷ es) q h found = grind (arith, lookup-before es (key t) q, dropped_entered es q)

-- a put at another path goes before the slot at its place
pub put_new :
    (es : List Slot) (s : Slot) → rises es ≡ true → is_some (lookup es (key s)) ≡ false
    → put es s ≡ take (place es (key s)) es ++ (s ∷ drop (place es (key s)) es)
put_new [] s h none = refl
put_new (t ∷ es) s h none =
    put_ways (λ fs. fs ≡ take (place (t ∷ es) (key s)) (t ∷ es) ++ (s ∷ drop (place (t ∷ es) (key s)) (t ∷ es))) t es s
    (λ lt. grind arith) (λ e. grind arith)
    (λ lt. ap (λ fs. t ∷ fs) (put_new es s (grind arith) (ap is_some (sym (lookup_past t es (key s) lt)) ∙ none))
    ∙ sym (ap (λ k. take k (t ∷ es) ++ (s ∷ drop k (t ∷ es))) (place_past t es (key s) lt)))
