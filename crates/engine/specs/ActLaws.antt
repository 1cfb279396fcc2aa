-- What holds of the definitions of write, remove and choose. `laws.rt` promises each.
use Rattle.std.specs.Prelude.{◌≡◌, ℕ, ◌≤◌, true, false, cond, List, length, Some, None, Option, ◌==◌}
use Rattle.paths.specs.Steps.{levels, is_number, covers}
use Rattle.paths.specs.Vectors.{greater, with_place, same_places}
use Rattle.paths.specs.Values.{Grade}
use Rattle.paths.specs.declared.path.Path.{Path}
use Rattle.stores.specs.Meaning.{Model, Lawful, is_leaf, is_full, with_entries, put_model}
use Rattle.engine.specs.Acts.{after_removal}
use Rattle.engine.specs.Conflicts.{after_choice}
use Rattle.engine.specs.Knowledge.{own, vector_at, grade_at}

-- a store that knows v and has g at q
pub record Holds (m : Model) (q : ℕ) (v : List ℕ) (g : Option Grade) : Type 0 where
  pub vector : same_places (vector_at m q) v ≡ true
  pub grade : grade_at m q ≡ g

-- a write changes one grade and no vector; the tick after it moves only the clock
abbrev pub WriteSettles : Type 0
WriteSettles =
    (m : Model) (p : Path) (g : Grade) (q : ℕ) → Lawful m → is_leaf p.number ≡ true → is_full m p.number ≡ false
    → is_number levels q ≡ true
    → Holds
    (put_model m p
    (record {
      vector = record { places = with_place (vector_at m p.number) m.number.number 0 };
      grade = Some g;
    }))
    q (vector_at m q) (cond (p.number == q) (Some g) (grade_at m q))

-- a removal takes every covered grade and no vector
abbrev pub RemoveSettles : Type 0
RemoveSettles =
    (m : Model) (p q : ℕ) → Lawful m → is_number levels q ≡ true
    → Holds (with_entries m (after_removal m p m.entries)) q (vector_at m q)
    (cond (covers levels p q) None (grade_at m q))

-- a choice changes grade and vector at its leaf and nowhere else
abbrev pub ChoiceSettles : Type 0
ChoiceSettles =
    (a b : Model) (p : Path) (g : Option Grade) (q : ℕ) → Lawful b → is_leaf p.number ≡ true → is_number levels q ≡ true
    → Holds (with_entries b (after_choice a b p g)) q
    (cond (p.number == q) (own b (greater (vector_at a q) (vector_at b q))) (vector_at b q))
    (cond (p.number == q) g (grade_at b q))

-- a removal or a choice that is not refused leaves a lawful store; a removal never needs room
pub record ActsKeep (m : Model) : Type 0 where
  pub removal : (p : ℕ) → Lawful (with_entries m (after_removal m p m.entries))
  pub no_more : (p : ℕ) → length (after_removal m p m.entries) ≤ length m.entries
  pub choice :
      (a : Model) (p : Path) (g : Option Grade) → is_leaf p.number ≡ true
      → length (after_choice a m p g) ≤ m.capacity → Lawful (with_entries m (after_choice a m p g))

abbrev pub ActsKeepLawful : Type 0
ActsKeepLawful = (m : Model) → Lawful m → ActsKeep m
