-- A removal and a choice that is not refused leave a lawful store.
use Rattle.std.proofs.Common.{◌≡◌, ℕ, ◌+◌, ◌≤◌, Bool, true, false, cond, not, ◌&&◌, ◌||◌, eqb, ltb, List, [], ◌∷◌, ◌++◌, length, is_some, Some, None, Option, sym, refl, ap, ◌∙◌, subst, arith}
use Rattle.std.proofs.lemmas.Bool.{and_parts, cond_both, or_left, or_right}
use Rattle.paths.specs.Steps.{levels, covers, parent}
use Rattle.paths.specs.Vectors.{greater, same_places}
use Rattle.paths.specs.Values.{Grade}
use Rattle.paths.specs.declared.path.Path.{Path}
use Rattle.stores.proofs.Entries.{put-rises, drop-rises}
use Rattle.stores.proofs.Kept.{is_bare, bare-put, bare-drop, lawful_with}
use Rattle.stores.specs.Meaning.{Model, is_leaf, bare_folders}
use Rattle.stores.specs.Slots.{key, lookup, after, rises}
use Rattle.stores.specs.declared.entry.Entry.{Entry}
use Rattle.stores.specs.declared.entry.Slot.{Slot}
use Rattle.engine.specs.ActLaws.{ActsKeepLawful}
use Rattle.engine.specs.Acts.{removes, slot_of, after_removal}
use Rattle.engine.specs.Conflicts.{put_or_drop, after_choice}
use Rattle.engine.specs.Knowledge.{own, vector_at, due, settled}
use Rattle.engine.proofs.Acting.{lookup-put_or_drop, bared, left, one_slot, found_left}
use Rattle.engine.proofs.Keeping.{after_slot, rises_slot, bare_at, settled-bare, slot_bare}

-- what is due is entered, and the root is always due
due_entered : (d : Bool) (e : Entry) → d ≡ true → is_some (cond d (Some e) None) ≡ true
due_entered true e h = refl
due_entered false e h = h

settled_root :
    (m : Model) (q : ℕ) (v up : List ℕ) (g : Option Grade) → eqb q 0 ≡ true → is_some (settled m q v up g) ≡ true
settled_root m q v up g root =
    due_entered (due q v up g) _
    (or_left (eqb q 0 || is_some g) (not (same_places v up)) (or_left (eqb q 0) (is_some g) root))

length_slot : (p : Path) (o : Option Entry) (es : List Slot) (n : ℕ) → length es ≤ n → length (slot_of p o ++ es) ≤ n + 1
length_slot p None es n le = omega (arith, le)
length_slot p (Some e) es n le = omega (arith, le)

-- a removal over p leaves at most one slot for each, at its path
module _ (m : Model) (p : ℕ) where
  abbrev left_at : Slot → Option Entry
  left_at s = left m p (key s) (Some s.entry)

  by_slots :
      (P : List Slot → Type 0) (s : Slot) (es : List Slot) → P (slot_of s.path (left_at s) ++ after_removal m p es)
      → P (after_removal m p (s ∷ es))
  by_slots P s es =
      subst P (sym (ap (λ fs. fs ++ after_removal m p es) (one_slot m p (removes p s) s (bared m p (key s)))))

  removal-after : (es : List Slot) (q : ℕ) → after q es ≡ true → after q (after_removal m p es) ≡ true
  removal-after [] q h = refl
  removal-after (s ∷ es) q h =
      let (lt, rest) = and_parts (ltb q (key s)) (after q es) h in
      by_slots (λ fs. after q fs ≡ true) s es
      (after_slot s.path (left_at s) (after_removal m p es) q lt (removal-after es q rest))

  removal-rises : (es : List Slot) → rises es ≡ true → rises (after_removal m p es) ≡ true
  removal-rises [] h = refl
  removal-rises (s ∷ es) h =
      let (first, rest) = and_parts (after (key s) es) (rises es) h in
      by_slots (λ fs. rises fs ≡ true) s es
      (rises_slot s.path (left_at s) (after_removal m p es) (removal-after es (key s) first) (removal-rises es rest))

  left-bare : (s : Slot) → is_bare s ≡ true → bare_at (key s) (left_at s) ≡ true
  left-bare s h =
      cond_both (removes p s) (bared m p (key s)) (Some s.entry) (λ o. bare_at (key s) o ≡ true)
      (λ _. settled-bare m (key s) (vector_at m (key s)) (vector_at m (parent levels (key s))) None
      (or_right (is_leaf (key s)) true refl)) (λ _. h)

  removal-bare : (es : List Slot) → bare_folders es ≡ true → bare_folders (after_removal m p es) ≡ true
  removal-bare [] h = refl
  removal-bare (s ∷ es) h =
      let (first, rest) = and_parts (is_bare s) (bare_folders es) h in
      by_slots (λ fs. bare_folders fs ≡ true) s es
      (slot_bare s.path (left_at s) (after_removal m p es) (left-bare s first) (removal-bare es rest))

  removal_no_more : (es : List Slot) → length (after_removal m p es) ≤ length es
  removal_no_more [] = omega arith
  removal_no_more (s ∷ es) =
      by_slots (λ fs. length fs ≤ length (s ∷ es)) s es
      (omega (arith, length_slot s.path (left_at s) (after_removal m p es) (length es) (removal_no_more es)))

  -- the root stays entered
  left-root : (o : Option Entry) → is_some o ≡ true → is_some (left m p 0 o) ≡ true
  left-root None h = h
  left-root (Some e) h =
      cond_both (covers levels p 0 && is_some e.grade) (bared m p 0) (Some e) (λ o. is_some o ≡ true)
      (λ _. settled_root m 0 (vector_at m 0) (vector_at m (parent levels 0)) None refl) (λ _. refl)

-- a leaf that is put or dropped
put_or_drop-rises : (es : List Slot) (p : Path) (o : Option Entry) → rises es ≡ true → rises (put_or_drop es p o) ≡ true
put_or_drop-rises es p None h = drop-rises es p.number h
put_or_drop-rises es p (Some e) h = put-rises es (record { path = p; entry = e }) h

put_or_drop-bare :
    (es : List Slot) (p : Path) (o : Option Entry) → bare_folders es ≡ true → bare_at p.number o ≡ true
    → bare_folders (put_or_drop es p o) ≡ true
put_or_drop-bare es p None h b = bare-drop es p.number h
put_or_drop-bare es p (Some e) h b = bare-put es (record { path = p; entry = e }) h b

put_or_drop-root :
    (es : List Slot) (p : Path) (o : Option Entry) → rises es ≡ true → is_some (lookup es 0) ≡ true
    → (eqb p.number 0 ≡ true → is_some o ≡ true) → is_some (lookup (put_or_drop es p o) 0) ≡ true
put_or_drop-root es p o order root there =
    subst (λ x. is_some x ≡ true) (sym (lookup-put_or_drop es p o 0 order))
    (cond_both (eqb p.number 0) o (lookup es 0) (λ x. is_some x ≡ true) there (λ _. root))

pub acts_keep_lawful : ActsKeepLawful
acts_keep_lawful m lawful =
    record {
      removal =
          λ p. lawful_with m (after_removal m p m.entries) lawful
          (removal-rises m p m.entries lawful.in_order)
          (ap is_some (found_left m p m.entries 0 lawful.in_order)
          ∙ left-root m p (lookup m.entries 0) lawful.rooted) (removal-bare m p m.entries lawful.bare)
          (omega (arith, removal_no_more m p m.entries, lawful.fits));
      no_more = λ p. removal_no_more m p m.entries;
      choice =
          λ a p g leaf few. (let v : List ℕ = own m (greater (vector_at a p.number) (vector_at m p.number)) in
          let up : List ℕ = vector_at m (parent levels p.number) in
          let o : Option Entry = settled m p.number v up g in
          lawful_with m (after_choice a m p g) lawful (put_or_drop-rises m.entries p o lawful.in_order)
          (put_or_drop-root m.entries p o lawful.in_order lawful.rooted (settled_root m p.number v up g))
          (put_or_drop-bare m.entries p o lawful.bare
          (settled-bare m p.number v up g (or_left (is_leaf p.number) (not (is_some g)) leaf))) few);
    }
