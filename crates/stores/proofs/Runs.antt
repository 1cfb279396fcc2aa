-- The join of what a path covers, by the run of its slots.
use Rattle.std.proofs.Common.{◌≡◌, ℕ, zero, suc, ◌+◌, ◌-◌, ◌<◌, ◌≤◌, Bool, true, false, cond, ltb, List, [], ◌∷◌, length, get_or, take, drop, sym, refl, ap, ◌∙◌, arith, length-drop}
use Rattle.std.proofs.lemmas.List.{get_or-drop, take_rest}
use Rattle.std.proofs.lemmas.Bool.{and_parts, cond-false, cond_both, ltb-true}
use Rattle.paths.specs.Vectors.{greater, lesser}
use Rattle.paths.specs.declared.vector.Bounds.{Bounds}
use Rattle.std.specs.List.{fold, prefix_len}
use Rattle.paths.specs.Steps.{levels, covers}
use Rattle.paths.specs.declared.path.Path.{Path}
use Rattle.paths.proofs.Levels.{none_before, none_after}
use Rattle.paths.proofs.Values.{path-lawful}
use Rattle.stores.specs.Meaning.{nearest, joined_below}
use Rattle.stores.specs.Slots.{key, after, rises, place}
use Rattle.stores.specs.declared.entry.Slot.{Slot}
use Rattle.stores.proofs.Order.{after-at}

abbrev pub covered : Path → Slot → Bool
covered p s = covers levels p.number (key s)

rises-drop : (es : List Slot) (n : ℕ) → rises es ≡ true → rises (drop n es) ≡ true
rises-drop es zero h = h
rises-drop [] (suc n) h = refl
rises-drop (s ∷ es) (suc n) h = rises-drop es n (grind arith)

-- from the path's place on no slot comes before it
pub from_place :
    (es : List Slot) (q i : ℕ) (d : Slot) → rises es ≡ true → place es q ≤ i → i < length es → q ≤ key (get_or es i d)
from_place [] q i d h le lt = absurd (omega arith)
from_place (s ∷ es) q zero d h le lt = grind arith
from_place (s ∷ es) q (suc i) d h le lt =
    let first : key s < key (get_or es i d) = after-at (key s) es i d (grind arith) (omega arith) in
    grind (arith, from_place es q i d)

module _ (join : List ℕ → List ℕ → List ℕ) (p : Path) where
  abbrev joined : List Slot → List ℕ → List ℕ
  joined es v = joined_below join es p.number v

  -- a slot that is not covered adds nothing
  skip : (s : Slot) (es : List Slot) (v : List ℕ) → covered p s ≡ false → joined (s ∷ es) v ≡ joined es v
  skip s es v out = ap (joined es) (cond-false _ _ _ out)

  -- slots before the path's place are not covered
  joined-from : (es : List Slot) (v : List ℕ) → joined (drop (place es p.number) es) v ≡ joined es v
  joined-from [] v = refl
  joined-from (s ∷ es) v =
      cond_both (ltb (key s) p.number) _ _ (λ k. joined (drop k (s ∷ es)) v ≡ joined (s ∷ es) v)
      (λ less. joined-from es v
      ∙ sym
      (skip s es v
      (none_before levels p.number (key s) (path-lawful p) (path-lawful s.path) (ltb-true _ _ less))))
      (λ _. refl)

  -- nor are those after a slot that does not come before the path and is not covered
  joined_past :
      (s : Slot) (es : List Slot) (v : List ℕ) → p.number ≤ key s → covered p s ≡ false → after (key s) es ≡ true
      → joined es v ≡ v
  joined_past s [] v le out h = refl
  joined_past s (t ∷ es) v le out h =
      let (less, rest) = and_parts (ltb (key s) (key t)) (after (key s) es) h in
      skip t es v
      (none_after levels p.number (key s) (key t) (path-lawful p) (path-lawful s.path) (path-lawful t.path) le out
      (ltb-true _ _ less))
      ∙ joined_past s es v le out rest

-- bounds with those of one slot more
abbrev pub with_slot : Bounds → Slot → Bounds
with_slot b s =
    record {
      least = record { places = lesser b.least.places s.entry.vector.places };
      greatest = record { places = greater b.greatest.places s.entry.vector.places };
    }

pub with_slot_is :
    (a b : Bounds) (s : Slot) → b.least.places ≡ lesser a.least.places s.entry.vector.places
    → b.greatest.places ≡ greater a.greatest.places s.entry.vector.places → b ≡ with_slot a s
with_slot_is a b s l g = λ i. record { least = record { places = l i }; greatest = record { places = g i } }

-- all that p covers is in the run that begins where the slots begin that do not come before p
module _ (join : List ℕ → List ℕ → List ℕ) (part : Bounds → List ℕ)
    (is : (b : Bounds) (s : Slot) → part (with_slot b s) ≡ join (part b) s.entry.vector.places) (p : Path) where
  run :
      (es : List Slot) (b : Bounds) → rises es ≡ true → ((k : ℕ) (d : Slot) → k < length es → p.number ≤ key (get_or es k d))
      → part (fold with_slot b (take (prefix_len (covered p) es) es)) ≡ joined join p es (part b)
  run [] b h ge = refl
  run (s ∷ es) b h ge = go (covered p s) refl (λ c. run es c (and_parts _ _ h).1 (λ k d lt. ge (suc k) d (omega arith)))
    where
      go :
          (c : Bool) → covered p s ≡ c
          → ((b : Bounds) → part (fold with_slot b (take (prefix_len (covered p) es) es)) ≡ joined join p es (part b))
          → part (fold with_slot b (take (cond c (1 + prefix_len (covered p) es) 0) (s ∷ es)))
          ≡ joined join p es (cond c (join (part b) s.entry.vector.places) (part b))
      go true in_it rest =
          ap (λ n. part (fold with_slot b (take n (s ∷ es)))) longer ∙ rest (with_slot b s) ∙ ap (joined join p es) (is b s)
        where
          longer : 1 + prefix_len (covered p) es ≡ suc (prefix_len (covered p) es)
          longer = omega arith
      go false out rest = sym (joined_past join p s es (part b) (ge 0 s (omega arith)) out (and_parts _ _ h).0)

  pub run-join :
      (es ts : List Slot) (first : ℕ) (b : Bounds) → rises es ≡ true → first ≡ place es p.number
      → ts ≡ take (length es - first) (drop first es) → part b ≡ nearest es p.number
      → part (fold with_slot b (take (prefix_len (covered p) ts) ts)) ≡ joined join p es (nearest es p.number)
  run-join es ts first b h at rest from =
      ap (λ us. part (fold with_slot b (take (prefix_len (covered p) us) us))) here
      ∙ run (drop (place es p.number) es) b (rises-drop es (place es p.number) h) ge ∙ joined-from join p es (part b)
      ∙ ap (joined join p es) from
    where
      here : ts ≡ drop (place es p.number) es
      here = rest ∙ take_rest es first ∙ ap (λ n. drop n es) at

      ge : (k : ℕ) (d : Slot) → k < length (drop (place es p.number) es) → p.number ≤ key (get_or (drop (place es p.number) es) k d)
      ge k d lt =
          rw get_or-drop (from_place es p.number (place es p.number + k) d h (omega arith) (omega (arith, lt, length-drop (place es p.number) es)))
