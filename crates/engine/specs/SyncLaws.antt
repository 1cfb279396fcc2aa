-- What holds of the definition of a sync. `laws.rt` promises each.
use Rattle.std.specs.Prelude.{◌≡◌, ℕ, ◌≤◌, true, false, length, None, ◌≢◌}
use Rattle.paths.specs.Steps.{levels, is_number, covers}
use Rattle.paths.specs.Vectors.{at_most, same_places}
use Rattle.paths.specs.declared.path.Path.{Path}
use Rattle.stores.specs.Meaning.{Model, Lawful, is_leaf, with_entries}
use Rattle.stores.specs.Slots.{lookup}
use Rattle.engine.specs.Knowledge.{vector_at}
use Rattle.engine.specs.Syncs.{passed, vector_after, entry_after, entries_after}

-- p is passed by and covers q: what A knows at q B knows there too, and if q is a folder it would be passed by itself
pub record PassedBy (a b : Model) (top q : ℕ) : Type 0 where
  pub known : at_most (vector_at a q) (vector_at b q) ≡ true
  pub inherited : is_leaf q ≡ false → passed a b top q ≡ true

abbrev pub PassedIsKnown : Type 0
PassedIsKnown =
    (a b : Model) (top p q : ℕ) → is_number levels p ≡ true → is_number levels q ≡ true → passed a b top p ≡ true
    → covers levels p q ≡ true → PassedBy a b top q

-- what the destination finds and knows at a path after a sync over top
pub record AfterSync (a b : Model) (top : Path) (q : ℕ) : Type 0 where
  pub found : lookup (entries_after a b top) q ≡ entry_after a b top.number q
  pub vector :
      same_places (vector_at (with_entries b (entries_after a b top)) q) (vector_after a b top.number q) ≡ true
  -- a path entered on neither side is not entered after it, unless it is the path of the call
  pub nothing_new :
      lookup a.entries q ≡ None → lookup b.entries q ≡ None → (q ≢ top.number)
      → entry_after a b top.number q ≡ None

abbrev pub SyncSettles : Type 0
SyncSettles =
    (a b : Model) (top : Path) (q : ℕ) → Lawful b → is_number levels q ≡ true → AfterSync a b top q

-- a sync that is not refused leaves a lawful store
abbrev pub SyncKeepsLawful : Type 0
SyncKeepsLawful =
    (a b : Model) (top : Path) → Lawful b → length (entries_after a b top) ≤ b.capacity
    → Lawful (with_entries b (entries_after a b top))
