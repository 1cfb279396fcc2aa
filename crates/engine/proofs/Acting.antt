-- What a store knows and holds after a write, a removal and a choice.
use Rattle.std.proofs.Common.{◌≡◌, ℕ, Bool, true, false, cond, not, ◌&&◌, ◌||◌, eqb, List, [], ◌∷◌, ◌++◌, is_some, Some, None, Option, sym, refl, ap, ◌∙◌, subst, arith}
use Rattle.std.proofs.lemmas.Bool.{and_parts, cond-true, cond-false, cond_both, both_ways, eq-eqb, eqb-true, ne_eqb, or_parts}
use Rattle.paths.proofs.Values.{path-lawful}
use Rattle.paths.specs.Steps.{levels, is_number, covers, parent}
use Rattle.paths.specs.Vectors.{with_place, greater, same_places}
use Rattle.paths.specs.Values.{Grade}
use Rattle.paths.specs.declared.path.Path.{Path}
use Rattle.stores.proofs.Entries.{lookup-before, lookup-put, lookup-drop}
use Rattle.stores.specs.Climb.{first_of}
use Rattle.stores.specs.Meaning.{Model, Lawful, is_leaf, stored, is_full, with_entries}
use Rattle.stores.specs.Slots.{key, lookup, put, after, rises}
use Rattle.stores.specs.declared.entry.Entry.{Entry}
use Rattle.stores.specs.declared.entry.Slot.{Slot}
use Rattle.engine.specs.ActLaws.{Holds, WriteSettles, RemoveSettles, ChoiceSettles}
use Rattle.engine.specs.Acts.{removes, slot_of, after_removal}
use Rattle.engine.specs.Conflicts.{put_or_drop, after_choice}
use Rattle.engine.specs.Knowledge.{own, vector_at, grade_of, grade_at, due, settled}
use Rattle.engine.proofs.Gathered.{not_some, lookup_slot}
use Rattle.engine.proofs.Knowing.{own_cleared, vector_cleared, parent_folder, Fits, settled-fits, kept-fits, knows}

-- what is settled has its grade: without an entry it has none
pub settled-grade :
    (m : Model) (q : ℕ) (v up : List ℕ) (g : Option Grade) → grade_of (settled m q v up g) ≡ g
settled-grade m q v up g =
    cond_both (due q v up g) _ None (λ o. grade_of o ≡ g) (λ _. refl)
    (λ no. (let (bare, _) = or_parts (eqb q 0 || is_some g) (not (same_places v up)) no in
    sym (not_some g (or_parts (eqb q 0) (is_some g) bare).1)))

-- a leaf is no parent
leaf_no_parent :
    (p q : ℕ) → is_leaf p ≡ true → is_number levels q ≡ true → eqb p (parent levels q) ≡ false
leaf_no_parent p q leaf k =
    ne_eqb p (parent levels q) (λ e. both_ways (is_leaf p) (ap is_leaf e ∙ parent_folder q k) leaf)

-- other entries of m that change one look-up, at a leaf
module _
    (m : Model) (p : Path) (es : List Slot) (o : Option Entry) (wanted : ℕ → List ℕ) (lawful : Lawful m)
    (leaf : is_leaf p.number ≡ true)
    (found : (q : ℕ) → lookup es q ≡ cond (eqb p.number q) o (lookup m.entries q))
    (there : Fits m wanted p.number o)
    (elsewhere : (q : ℕ) → eqb p.number q ≡ false → wanted q ≡ vector_at m q) where
  leaf-fits : (q : ℕ) → is_number levels q ≡ true → Fits m wanted q (lookup es q)
  leaf-fits q k =
      rw (found q)
      (cond_both (eqb p.number q) o (lookup m.entries q) (Fits m wanted q)
      (λ e. subst (λ r. Fits m wanted r o) (eqb-true p.number q e) there)
      (λ other. kept-fits m lawful wanted q k (elsewhere q other)
      (λ _. elsewhere (parent levels q) (leaf_no_parent p.number q leaf k))))

  leaf-grade : (q : ℕ) → grade_at (with_entries m es) q ≡ cond (eqb p.number q) (grade_of o) (grade_at m q)
  leaf-grade q = ap grade_of (found q) ∙ go (eqb p.number q)
    where
      go :
          (b : Bool)
          → grade_of (cond b o (lookup m.entries q)) ≡ cond b (grade_of o) (grade_of (lookup m.entries q))
      go true = refl
      go false = refl

  -- they know what is wanted, and have one other grade
  leaf-holds :
      (g : Option Grade) → grade_of o ≡ g → (q : ℕ) → is_number levels q ≡ true
      → Holds (with_entries m es) q (wanted q) (cond (eqb p.number q) g (grade_at m q))
  leaf-holds g has q k =
      record {
        vector = knows m es wanted leaf-fits q k;
        grade = leaf-grade q ∙ ap (λ x. cond (eqb p.number q) x (grade_at m q)) has;
      }

pub write_settles : WriteSettles
write_settles m p g q lawful leaf room k =
    subst (λ es. Holds (with_entries m es) q (vector_at m q) (cond (eqb p.number q) (Some g) (grade_at m q)))
    (sym (cond-false (is_full m p.number) m.entries (put m.entries s) room))
    (leaf-holds m p (put m.entries s) (Some s.entry) (vector_at m) lawful leaf (lookup-put m.entries s)
    (vector_cleared m p.number) (λ _ _. refl) (Some g) (cond-true (is_leaf p.number) (Some g) None leaf) q k)
  where
    s : Slot
    s =
        record {
          path = p;
          entry =
              stored p.number
              (record {
                vector = record { places = with_place (vector_at m p.number) m.number.number 0 };
                grade = Some g;
              });
        }

-- what is found after a leaf was put or dropped
pub lookup-put_or_drop :
    (es : List Slot) (p : Path) (o : Option Entry) (q : ℕ) → rises es ≡ true
    → lookup (put_or_drop es p o) q ≡ cond (eqb p.number q) o (lookup es q)
lookup-put_or_drop es p None q order = lookup-drop es p.number q order
lookup-put_or_drop es p (Some e) q order = lookup-put es (record { path = p; entry = e }) q

pub choice_settles : ChoiceSettles
choice_settles a b p g q lawful leaf k =
    leaf-holds b p (after_choice a b p g) (settled b p.number both up g) wanted lawful leaf
    (λ r. lookup-put_or_drop b.entries p (settled b p.number both up g) r lawful.in_order)
    (settled-fits b wanted p.number both up g
    (cond-true (eqb p.number p.number) both _ (eq-eqb p.number p.number refl))
    (elsewhere (parent levels p.number) (leaf_no_parent p.number p.number leaf (path-lawful p)))
    (own_cleared b (greater (vector_at a p.number) (vector_at b p.number)))) elsewhere g
    (settled-grade b p.number both up g) q k
  where
    both : List ℕ
    both = own b (greater (vector_at a p.number) (vector_at b p.number))

    up : List ℕ
    up = vector_at b (parent levels p.number)

    wanted : ℕ → List ℕ
    wanted r = cond (eqb p.number r) (own b (greater (vector_at a r) (vector_at b r))) (vector_at b r)

    elsewhere : (r : ℕ) → eqb p.number r ≡ false → wanted r ≡ vector_at b r
    elsewhere r other = cond-false (eqb p.number r) _ (vector_at b r) other

-- the first is all where there is no second
first_or_none : {X : Type 0} (o x : Option X) → x ≡ None → first_of o x ≡ o
first_or_none None x none = none
first_or_none (Some y) x none = refl

-- a removal over p
module _ (m : Model) (p : ℕ) where
  -- a leaf that loses its grade
  abbrev pub bared : ℕ → Option Entry
  bared q = settled m q (vector_at m q) (vector_at m (parent levels q)) None

  -- what is found at q after it
  abbrev pub left : ℕ → Option Entry → Option Entry
  left q None = None
  left q (Some e) = cond (covers levels p q && is_some e.grade) (bared q) (Some e)

  -- a slot is left as it is found: none of the others has its path
  left_first :
      (s : Slot) (fs : List Slot) (q : ℕ) (later : Option Entry) → lookup fs q ≡ left q later
      → (key s ≡ q → later ≡ None)
      → cond (eqb (key s) q) (first_of (left (key s) (Some s.entry)) (lookup fs q)) (lookup fs q)
      ≡ left q (cond (eqb (key s) q) (Some s.entry) later)
  left_first s fs q later found none = go (eqb (key s) q) refl
    where
      go :
          (b : Bool) → eqb (key s) q ≡ b
          → cond b (first_of (left (key s) (Some s.entry)) (lookup fs q)) (lookup fs q)
          ≡ left q (cond b (Some s.entry) later)
      go true e =
          let same : key s ≡ q = eqb-true (key s) q e in
          first_or_none (left (key s) (Some s.entry)) (lookup fs q) (found ∙ ap (left q) (none same))
          ∙ ap (λ r. left r (Some s.entry)) same
      go false e = found

  -- one slot, or none
  pub one_slot :
      (b : Bool) (s : Slot) (o : Option Entry)
      → cond b (slot_of s.path o) (s ∷ []) ≡ slot_of s.path (cond b o (Some s.entry))
  one_slot true s o = refl
  one_slot false s o = refl

  -- by the slots in their order
  pub found_left :
      (es : List Slot) (q : ℕ) → rises es ≡ true → lookup (after_removal m p es) q ≡ left q (lookup es q)
  found_left [] q order = refl
  found_left (s ∷ es) q order =
      let (behind, rising) = and_parts (after (key s) es) (rises es) order in
      ap (λ fs. lookup (fs ++ after_removal m p es) q) (one_slot (removes p s) s (bared (key s)))
      ∙ lookup_slot s.path (left (key s) (Some s.entry)) (after_removal m p es) q
      ∙ left_first s (after_removal m p es) q (lookup es q) (found_left es q rising)
      (λ e. lookup-before es (key s) q behind (omega (arith, e)))

  -- it fits what is known
  left-fits :
      Lawful m → (q : ℕ) → is_number levels q ≡ true
      → Fits m (vector_at m) q (left q (lookup m.entries q))
  left-fits lawful q k = go (lookup m.entries q) (kept-fits m lawful (vector_at m) q k refl (λ _. refl))
    where
      go : (o : Option Entry) → Fits m (vector_at m) q o → Fits m (vector_at m) q (left q o)
      go None fit = fit
      go (Some e) fit =
          cond_both (covers levels p q && is_some e.grade) (bared q) (Some e) (Fits m (vector_at m) q)
          (λ _. settled-fits m (vector_at m) q _ _ None refl refl (vector_cleared m q)) (λ _. fit)

  -- and has no grade where p covers
  left-grade : (q : ℕ) (o : Option Entry) → grade_of (left q o) ≡ cond (covers levels p q) None (grade_of o)
  left-grade q None = cond_both (covers levels p q) None None (λ x. None ≡ x) (λ _. refl) (λ _. refl)
  left-grade q (Some e) = go (covers levels p q)
    where
      go :
          (b : Bool) → grade_of (cond (b && is_some e.grade) (bared q) (Some e)) ≡ cond b None e.grade
      go true =
          cond_both (is_some e.grade) (bared q) (Some e) (λ x. grade_of x ≡ None)
          (λ _. settled-grade m q (vector_at m q) (vector_at m (parent levels q)) None) (not_some e.grade)
      go false = refl

pub remove_settles : RemoveSettles
remove_settles m p q lawful k =
    record {
      vector =
          knows m (after_removal m p m.entries) (vector_at m)
          (λ r l. rw (found_left m p m.entries r lawful.in_order) (left-fits m p lawful r l)) q k;
      grade = ap grade_of (found_left m p m.entries q lawful.in_order) ∙ left-grade m p q (lookup m.entries q);
    }
