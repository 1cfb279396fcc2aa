-- What holds of a table's fields.
use Rattle.std.specs.Prelude.{ℕ, ◌≤◌, List, length, take}
use Rattle.paths.specs.declared.stamp.Panel.{Panel}
use Rattle.stores.specs.Meaning.{Model, Lawful}
use Rattle.stores.specs.declared.entry.Slot.{Slot}

abbrev pub model_of : Panel → ℕ → ℕ → List Slot → Model
model_of number clock capacity entries =
    record { number = number; clock = clock; capacity = capacity; height = 0; entries = entries }

-- the first len places mean a lawful store, and the list has a place for each entry that the capacity allows
pub record TableSound (number : Panel) (clock capacity len : ℕ) (places : List Slot) : Type 0 where
  pub lawful : Lawful (model_of number clock capacity (take len places))
  pub filled : len ≤ capacity
  pub room : capacity ≤ length places
