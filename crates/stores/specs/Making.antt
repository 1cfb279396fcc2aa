-- Making a store: what may be made, and what a blank store means.
use Rattle.std.specs.Prelude.{ℕ, Bool, ◌&&◌, List, [], ◌∷◌, replicate, None, nat_le}
use Rattle.paths.specs.Ranges.{is_panel}
use Rattle.paths.specs.declared.path.Path.{Path}
use Rattle.paths.specs.declared.stamp.Panel.{Panel}
use Rattle.stores.specs.Meaning.{Model, stored}
use Rattle.stores.specs.Slots.{put}
use Rattle.stores.specs.declared.entry.Entry.{Entry}
use Rattle.stores.specs.declared.entry.Slot.{Slot}

-- a panel number from 1 to 8, a capacity from 1 to 1000, and as much memory as is needed
abbrev pub may_make : ℕ → ℕ → ℕ → ℕ → Bool
may_make number capacity needed memory = is_panel number && nat_le 1 capacity && nat_le capacity 1000 && nat_le needed memory

-- the root with eight zeros
abbrev pub root_slot : Slot
root_slot =
    record {
      path = record { number = 0; lawful = tt };
      entry = record { vector = record { places = replicate 8 0 }; grade = None };
    }

-- the entries after a put into a blank store with room for it
abbrev pub with_one : Path → Entry → List Slot
with_one p e = put (root_slot ∷ []) (record { path = p; entry = stored p.number e })

abbrev pub blank : Panel → ℕ → Model
blank number capacity =
    record { number = number; clock = 0; capacity = capacity; height = 0; entries = root_slot ∷ [] }
