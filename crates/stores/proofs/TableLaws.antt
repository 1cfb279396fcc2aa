-- A table as it is first, and after a change of its list.
use Rattle.std.proofs.Common.{◌≡◌, ℕ, ◌≤◌, Bool, true, false, cond, not, ◌&&◌, eqb, List, [], ◌∷◌, length, take, set, is_some, is_ok, Ok, Err, Result, sym, refl, ap, ◌∙◌, ap₂, subst, arith, length-set}
use Rattle.std.proofs.lemmas.Bool.{cond-false}
use Rattle.std.proofs.lemmas.List.{length-take, length-take-le}
use Rattle.paths.specs.declared.fault.Cause.{Cause}
use Rattle.paths.specs.declared.fault.Cause.TheVariants.{Full}
use Rattle.paths.specs.declared.path.Path.{Path}
use Rattle.paths.specs.declared.stamp.Panel.{Panel}
use Rattle.stores.specs.Making.{root_slot, blank}
use Rattle.stores.specs.Meaning.{Model, Lawful, put_model, drop_model, stored}
use Rattle.stores.specs.Slots.{key, lookup, put, drop as drop_slots}
use Rattle.stores.specs.TableSound.{TableSound, model_of}
use Rattle.stores.specs.declared.entry.Entry.{Entry}
use Rattle.stores.specs.declared.entry.Slot.{Slot}
use Rattle.stores.proofs.Kept.{lawful-put, lawful-drop}

-- what means a lawful model, with room for all that it may hold, is sound
pub sound_as :
    (number : Panel) (clock capacity len : ℕ) (places : List Slot) (m : Model)
    → model_of number clock capacity (take len places) ≡ m → Lawful m → len ≤ length places → capacity ≤ length places
    → TableSound number clock capacity len places
sound_as number clock capacity len places m is law within room =
    let lawful : Lawful (model_of number clock capacity (take len places)) = subst Lawful (sym is) law in
    record { lawful = lawful; filled = omega (arith, lawful.fits, length-take-le len places within); room = room }

-- how a put ends
put_ends :
    {X : Type 0} (full : Bool) (x y : X) (r : Result (Unit {0}) Cause) → r ≡ cond full (Err Full) (Ok tt)
    → cond (is_ok r) x y ≡ cond full y x
put_ends true x y r e = ap (λ t. cond (is_ok t) x y) e
put_ends false x y r e = ap (λ t. cond (is_ok t) x y) e

cond_length :
    (b : Bool) (fs gs : List Slot) {k : ℕ} → length gs ≡ k → length (cond b fs gs) ≡ cond b (length fs) k
cond_length true fs gs e = refl
cond_length false fs gs e = e

module _ {number : Panel} {clock capacity len : ℕ} {places : List Slot} (sound : TableSound number clock capacity len places)
    (n : ℕ) (after : List Slot) (room : length after ≡ length places) where
  size : length (take len places) ≡ len
  size = length-take-le len places (omega (arith, sound.filled, sound.room))

  pub put-sound :
      (p : Path) (e : Entry) (s : Slot) (r : Result (Unit {0}) Cause) → s ≡ record { path = p; entry = stored p.number e }
      → r ≡ cond (not (is_some (lookup (take len places) (key s))) && eqb len capacity) (Err Full) (Ok tt)
      → n ≡ cond (is_ok r) (length (put (take len places) s)) len
      → take n after ≡ cond (is_ok r) (put (take len places) s) (take len places) → TableSound number clock capacity n after
  put-sound p e s r is answer count held =
      let es : List Slot = take len places in
      let m : Model = model_of number clock capacity es in
      let held_in_all : take n after ≡ (put_model m p e).entries =
      held ∙ put_ends _ (put es s) es r answer
      ∙ ap₂ (λ (t : Slot) k. cond (not (is_some (lookup es (key t))) && eqb k capacity) es (put es t)) is (sym size) in
      let counted : length (take n after) ≡ n =
      ap length held ∙ cond_length (is_ok r) (put es s) es size ∙ sym count in
      sound_as number clock capacity n after (put_model m p e) (ap (model_of number clock capacity) held_in_all)
      (lawful-put m p e sound.lawful) (omega (arith, counted, length-take n after)) (omega (arith, sound.room, room))

  pub drop-sound :
      (p : Path) → eqb p.number 0 ≡ false → take n after ≡ drop_slots (take len places) p.number → n ≤ len
      → TableSound number clock capacity n after
  drop-sound p other held fewer =
      let m : Model = model_of number clock capacity (take len places) in
      sound_as number clock capacity n after (drop_model m p.number) (ap (model_of number clock capacity) (held ∙ sym (cond-false _ _ _ other)))
      (lawful-drop m p.number sound.lawful) (omega (arith, room, sound.filled, sound.room, fewer)) (omega (arith, sound.room, room))

-- the root alone means a blank store, which is lawful
pub lawful-blank :
    (number : Panel) (capacity : ℕ) → 1 ≤ capacity → capacity ≤ 1000 → Lawful (blank number capacity)
lawful-blank number capacity some small =
    record {
      time = omega arith;
      some_room = some;
      small = small;
      low = omega arith;
      in_order = refl;
      rooted = refl;
      bare = refl;
      fits = some;
    }

module _ (number : Panel) (capacity : ℕ) (xs : List Slot) (s : Slot) (is : s ≡ root_slot) (some : 1 ≤ length xs) where
  pub blank-model : model_of number 0 capacity (take 1 (set xs 0 s)) ≡ blank number capacity
  blank-model = ap (model_of number 0 capacity) (first xs some ∙ ap (λ t. t ∷ []) is)
    where
      first : (xs : List Slot) → 1 ≤ length xs → take 1 (set xs 0 s) ≡ s ∷ []
      first [] some = absurd (omega arith)
      first (x ∷ xs) some = refl

  pub blank-sound : 1 ≤ capacity → capacity ≤ 1000 → capacity ≤ length xs → TableSound number 0 capacity 1 (set xs 0 s)
  blank-sound positive small room =
      let size : length (set xs 0 s) ≡ length xs = length-set xs 0 s in
      sound_as number 0 capacity 1 (set xs 0 s) (blank number capacity) blank-model (lawful-blank number capacity positive small)
      (omega arith) (omega arith)
