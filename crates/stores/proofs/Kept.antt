-- Changes keep a store lawful.
use Rattle.std.proofs.Common.{◌≡◌, ℕ, ◌+◌, ◌≤◌, Bool, true, false, cond, not, ◌&&◌, ◌||◌, eqb, List, [], ◌∷◌, length, is_some, Some, None, Option, sym, refl, ◌∙◌, subst, arith}
use Rattle.paths.specs.declared.path.Path.{Path}
use Rattle.std.proofs.lemmas.Bool.{and_parts, and_from, cond_both, cond-false}
use Rattle.stores.proofs.Entries.{lookup-put, lookup-drop, put-rises, put_count, put_ways, drop-rises, drop-count}
use Rattle.stores.specs.Meaning.{Model, Lawful, is_leaf, stored, bare_folders, is_full, with_entries, put_model, drop_model, tick_model}
use Rattle.stores.specs.Slots.{key, lookup, put, drop, rises}
use Rattle.stores.specs.declared.entry.Entry.{Entry}
use Rattle.stores.specs.declared.entry.Slot.{Slot}

-- a folder's slot has no grade
abbrev pub is_bare : Slot → Bool
is_bare s = is_leaf (key s) || not (is_some s.entry.grade)

pub bare-put : (es : List Slot) (s : Slot) → bare_folders es ≡ true → is_bare s ≡ true → bare_folders (put es s) ≡ true
bare-put [] s h b = and_from (is_bare s) true b refl
bare-put (t ∷ es) s h b =
    let (first, rest) = and_parts (is_bare t) (bare_folders es) h in
    put_ways (λ fs. bare_folders fs ≡ true) t es s (λ _. and_from (is_bare s) (bare_folders (t ∷ es)) b h)
    (λ _. and_from (is_bare s) (bare_folders es) b rest)
    (λ _. and_from (is_bare t) (bare_folders (put es s)) first (bare-put es s rest b))

pub bare-drop : (es : List Slot) (p : ℕ) → bare_folders es ≡ true → bare_folders (drop es p) ≡ true
bare-drop [] p h = refl
bare-drop (t ∷ es) p h =
    let (first, rest) = and_parts (is_bare t) (bare_folders es) h in
    cond_both (eqb (key t) p) es (t ∷ drop es p) (λ fs. bare_folders fs ≡ true) (λ _. rest)
    (λ _. and_from (is_bare t) (bare_folders (drop es p)) first (bare-drop es p rest))

-- what is stored at a folder has no grade
stored-bare : (p : Path) (e : Entry) → is_bare (record { path = p; entry = stored p.number e }) ≡ true
stored-bare p e = go (is_leaf p.number) e.grade
  where
    go : {X : Type 0} (b : Bool) (g : Option X) → (b || not (is_some (cond b g None))) ≡ true
    go true g = refl
    go false g = refl

-- other entries that are in order, rooted, bare and few enough
pub lawful_with :
    (m : Model) (es : List Slot) → Lawful m → rises es ≡ true → is_some (lookup es 0) ≡ true → bare_folders es ≡ true
    → length es ≤ m.capacity → Lawful (with_entries m es)
lawful_with m es law order root bare few =
    record {
      time = law.time;
      some_room = law.some_room;
      small = law.small;
      low = law.low;
      in_order = order;
      rooted = root;
      bare = bare;
      fits = few;
    }

-- the root stays entered
root-put : (es : List Slot) (s : Slot) → is_some (lookup es 0) ≡ true → is_some (lookup (put es s) 0) ≡ true
root-put es s h =
    subst (λ o. is_some o ≡ true) (sym (lookup-put es s 0))
    (cond_both (eqb (key s) 0) (Some s.entry) (lookup es 0) (λ o. is_some o ≡ true) (λ _. refl) (λ _. h))

-- a store that is not full has room for one more, unless the path is entered
not_full : (b : Bool) (n c : ℕ) → n ≤ c → (not b && eqb n c) ≡ false → cond b n (n + 1) ≤ c
not_full true n c le h = le
not_full false n c le h = grind arith

pub lawful-put : (m : Model) (p : Path) (e : Entry) → Lawful m → Lawful (put_model m p e)
lawful-put m p e law =
    let s : Slot = record { path = p; entry = stored p.number e } in
    cond_both (is_full m p.number) m.entries (put m.entries s) (λ es. Lawful (with_entries m es)) (λ _. law)
    (λ room. lawful_with m (put m.entries s) law (put-rises m.entries s law.in_order)
    (root-put m.entries s law.rooted) (bare-put m.entries s law.bare (stored-bare p e))
    (subst (λ n. n ≤ m.capacity) (sym (put_count m.entries s law.in_order))
    (not_full (is_some (lookup m.entries p.number)) (length m.entries) m.capacity law.fits room)))

pub lawful-drop : (m : Model) (p : ℕ) → Lawful m → Lawful (drop_model m p)
lawful-drop m p law =
    cond_both (eqb p 0) m.entries (drop m.entries p) (λ es. Lawful (with_entries m es)) (λ _. law)
    (λ other. lawful_with m (drop m.entries p) law (drop-rises m.entries p law.in_order)
    (subst (λ o. is_some o ≡ true)
    (sym (lookup-drop m.entries p 0 law.in_order ∙ cond-false (eqb p 0) None _ other)) law.rooted)
    (bare-drop m.entries p law.bare) (omega (arith, drop-count m.entries p, law.fits)))

pub lawful_tick : (m : Model) → Lawful m → Lawful (tick_model m)
lawful_tick m law =
    record {
      time = let t = law.time in grind arith;
      some_room = law.some_room;
      small = law.small;
      low = law.low;
      in_order = law.in_order;
      rooted = law.rooted;
      bare = law.bare;
      fits = law.fits;
    }
