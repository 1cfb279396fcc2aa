-- A sync that is not refused leaves a lawful store.
use Rattle.std.proofs.Common.{◌≡◌, ℕ, ◌<◌, ◌≤◌, Bool, true, false, cond, not, ◌&&◌, ◌||◌, eqb, ltb, List, [], ◌∷◌, ◌++◌, is_some, Some, None, Option, sym, refl, ap, ◌∙◌, subst, inl, inr, arith}
use Rattle.std.proofs.lemmas.Bool.{and_parts, and_from, cond_both, cases_Bool, or_left, or_right, eqb-true, eqb-false, ltb-true, ltb-false}
use Rattle.paths.specs.Steps.{levels, parent}
use Rattle.paths.specs.Values.{Grade}
use Rattle.paths.specs.declared.path.Path.{Path}
use Rattle.stores.proofs.Kept.{is_bare, lawful_with}
use Rattle.stores.specs.Meaning.{Model, Lawful, is_leaf, bare_folders}
use Rattle.stores.specs.Slots.{key, lookup, after, rises}
use Rattle.stores.specs.declared.entry.Entry.{Entry}
use Rattle.stores.specs.declared.entry.Slot.{Slot}
use Rattle.engine.specs.Acts.{slot_of}
use Rattle.engine.specs.Knowledge.{grade_of, grade_at, due, settled}
use Rattle.engine.specs.SyncLaws.{SyncKeepsLawful}
use Rattle.engine.specs.Syncs.{
  grade_after,
  with_path,
  with_paths,
  gather,
  touched,
  leaf_outcome,
  vector_after,
  entry_after,
  candidates,
  entries_after,
}
use Rattle.engine.proofs.Knowing.{Fits}
use Rattle.engine.proofs.Settling.{leaf-at_folder, entry_touched, entry_kept, entry_fits, found_after}

-- every path comes after q
abbrev later : ℕ → List Path → Bool
later q [] = true
later q (p ∷ ps) = ltb q p.number && later q ps

-- each path comes after those before it
abbrev rising : List Path → Bool
rising [] = true
rising (p ∷ ps) = later p.number ps && rising ps

later_less : (ps : List Path) (p q : ℕ) → later p ps ≡ true → q ≤ p → later q ps ≡ true
later_less [] p q h le = refl
later_less (r ∷ ps) p q h le = grind (arith, later_less ps p q)

-- a path goes before the first one, is that one, or goes past it
with_ways :
    (P : List Path → Type 0) (p r : Path) (ps : List Path) → (p.number < r.number → P (p ∷ (r ∷ ps)))
    → P (r ∷ ps) → (r.number < p.number → P (r ∷ with_path p ps)) → P (with_path p (r ∷ ps))
with_ways P p r ps before here past =
    cond_both (ltb p.number r.number) _ _ P (λ b. before (ltb-true p.number r.number b))
    (λ b. cond_both (eqb p.number r.number) _ _ P (λ _. here)
    (λ c. past (omega (arith, ltb-false p.number r.number b, eqb-false p.number r.number c))))

later_with : (p : Path) (ps : List Path) (q : ℕ) → later q ps ≡ true → q < p.number → later q (with_path p ps) ≡ true
later_with p [] q h lt = grind arith
later_with p (r ∷ ps) q h lt =
    with_ways (λ rs. later q rs ≡ true) p r ps (λ _. grind arith) h (λ _. grind (arith, later_with p ps q))

rising_with : (p : Path) (ps : List Path) → rising ps ≡ true → rising (with_path p ps) ≡ true
rising_with p [] h = refl
rising_with p (r ∷ ps) h =
    with_ways (λ rs. rising rs ≡ true) p r ps (λ lt. grind (arith, later_less ps r.number p.number)) h
    (λ lt. grind (arith, later_with p ps r.number, rising_with p ps))

rising_withs : (es : List Slot) (ps : List Path) → rising ps ≡ true → rising (with_paths es ps) ≡ true
rising_withs [] ps h = h
rising_withs (s ∷ es) ps h = rising_with s.path (with_paths es ps) (rising_withs es ps h)

rising-candidates : (a b : Model) (top : Path) → rising (candidates a b top) ≡ true
rising-candidates a b top =
    let on-b : List Path = with_paths b.entries [] in
    rising_with top (with_paths a.entries on-b)
    (rising_withs a.entries on-b (rising_withs b.entries [] refl))

-- at most one slot is gathered at each path, so the slots rise as the paths do
pub after_slot :
    (p : Path) (o : Option Entry) (es : List Slot) (q : ℕ) → ltb q p.number ≡ true → after q es ≡ true
    → after q (slot_of p o ++ es) ≡ true
after_slot p None es q lt h = h
after_slot p (Some e) es q lt h = and_from (ltb q p.number) (after q es) lt h

after_gathered :
    (f : ℕ → Option Entry) (ps : List Path) (q : ℕ) → later q ps ≡ true → after q (gather f ps) ≡ true
after_gathered f [] q h = refl
after_gathered f (p ∷ ps) q h =
    let (lt, rest) = and_parts (ltb q p.number) (later q ps) h in
    after_slot p (f p.number) (gather f ps) q lt (after_gathered f ps q rest)

pub rises_slot :
    (p : Path) (o : Option Entry) (es : List Slot) → after p.number es ≡ true → rises es ≡ true
    → rises (slot_of p o ++ es) ≡ true
rises_slot p None es first h = h
rises_slot p (Some e) es first h = and_from (after p.number es) (rises es) first h

rises_gathered : (f : ℕ → Option Entry) (ps : List Path) → rising ps ≡ true → rises (gather f ps) ≡ true
rises_gathered f [] h = refl
rises_gathered f (p ∷ ps) h =
    let (first, rest) = and_parts (later p.number ps) (rising ps) h in
    rises_slot p (f p.number) (gather f ps) (after_gathered f ps p.number first) (rises_gathered f ps rest)

-- at a folder this has no grade
abbrev pub bare_at : ℕ → Option Entry → Bool
bare_at q o = is_leaf q || not (is_some (grade_of o))

none_bare : (q : ℕ) → bare_at q None ≡ true
none_bare q = or_right (is_leaf q) true refl

-- what is found among bare entries is bare
pub lookup-bare : (es : List Slot) (q : ℕ) → bare_folders es ≡ true → bare_at q (lookup es q) ≡ true
lookup-bare [] q h = none_bare q
lookup-bare (s ∷ es) q h =
    let (first, rest) = and_parts (is_bare s) (bare_folders es) h in
    cond_both (eqb (key s) q) (Some s.entry) (lookup es q) (λ o. bare_at q o ≡ true)
    (λ here. subst (λ k. bare_at k (Some s.entry) ≡ true) (eqb-true (key s) q here) first)
    (λ _. lookup-bare es q rest)

-- what is settled is bare if its grade is
due-bare : (d : Bool) (q : ℕ) (e : Entry) → bare_at q (Some e) ≡ true → bare_at q (cond d (Some e) None) ≡ true
due-bare true q e h = h
due-bare false q e h = none_bare q

pub settled-bare :
    (m : Model) (q : ℕ) (v up : List ℕ) (g : Option Grade) → (is_leaf q || not (is_some g)) ≡ true
    → bare_at q (settled m q v up g) ≡ true
settled-bare m q v up g h = due-bare (due q v up g) q _ h

-- and gathered entries are bare if each is
pub slot_bare :
    (p : Path) (o : Option Entry) (es : List Slot) → bare_at p.number o ≡ true → bare_folders es ≡ true
    → bare_folders (slot_of p o ++ es) ≡ true
slot_bare p None es first h = h
slot_bare p (Some e) es first h = and_from (bare_at p.number (Some e)) (bare_folders es) first h

gathered_bare :
    (f : ℕ → Option Entry) (ps : List Path) → ((q : ℕ) → bare_at q (f q) ≡ true) → bare_folders (gather f ps) ≡ true
gathered_bare f [] each = refl
gathered_bare f (p ∷ ps) each =
    slot_bare p (f p.number) (gather f ps) (each p.number) (gathered_bare f ps each)

not_none : {X : Type 0} (o : Option X) → (o ≡ None → ⊥) → is_some o ≡ true
not_none None some = absurd (some refl)
not_none (Some x) some = refl

module _ (a b : Model) (top : ℕ) (lawful : Lawful b) where
  -- a folder has no outcome, so it keeps its own grade, which is none
  grade-bare :
      (q : ℕ)
      → (is_leaf q || not (is_some (grade_after (leaf_outcome a b top q) (grade_at a q) (grade_at b q)))) ≡ true
  grade-bare q =
      elim (cases_Bool (is_leaf q)) [
        | inl leaf ↦ or_left (is_leaf q) _ leaf
        | inr folder ↦
            subst (λ o. (is_leaf q || not (is_some (grade_after o (grade_at a q) (grade_at b q)))) ≡ true)
            (sym (leaf-at_folder a b top q folder)) (lookup-bare b.entries q lawful.bare)
      ]

  entry_bare : (q : ℕ) → bare_at q (entry_after a b top q) ≡ true
  entry_bare q =
      elim (cases_Bool (touched a b top q)) [
        | inl touch ↦
            subst (λ o. bare_at q o ≡ true) (sym (entry_touched a b top q touch))
            (settled-bare b q (vector_after a b top q) (vector_after a b top (parent levels q)) _ (grade-bare q))
        | inr out ↦
            subst (λ o. bare_at q o ≡ true) (sym (entry_kept a b top q out))
            (lookup-bare b.entries q lawful.bare)
      ]

  -- the root is entered
  root_entered : is_some (entry_after a b top 0) ≡ true
  root_entered =
      not_none (entry_after a b top 0)
      (λ none. (subst (Fits b (vector_after a b top) 0) none (entry_fits a b top lawful 0 refl)).0 refl)

pub sync_keeps_lawful : SyncKeepsLawful
sync_keeps_lawful a b top lawful few =
    let f : ℕ → Option Entry = entry_after a b top.number in
    lawful_with b (entries_after a b top) lawful
    (rises_gathered f (candidates a b top) (rising-candidates a b top))
    (ap is_some (found_after a b top lawful 0 refl) ∙ root_entered a b top.number lawful)
    (gathered_bare f (candidates a b top) (entry_bare a b top.number lawful)) few
