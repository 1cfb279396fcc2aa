-- What a table means.
use Rattle.std.specs.Prelude.{◌≡◌, cond, List, [], ◌++◌, take, drop, ◌==◌}
use Rattle.stores.specs.Changes.{Change, puts, drops, ticks}
use Rattle.stores.specs.Meaning.{Model}
use Rattle.stores.specs.Slots.{dropped}
use Rattle.stores.specs.TableSound.{model_of}
use Rattle.stores.specs.declared.entry.Slot.{Slot}
use Rattle.stores.specs.declared.table.Table.{Table}

abbrev pub entries : Table → List Slot
entries t = take t.len t.slots.now

abbrev pub table_model : Table → Model
table_model t = model_of t.number t.clock t.capacity (entries t)

-- the places of the list behind the entries
abbrev pub spare : Table → List Slot
spare t = drop t.len t.slots.now

-- these after a change from t to u: they stay as they are, and the slot that a drop takes out comes before them
abbrev pub spare_after : Change → Table → Table → List Slot
spare_after (puts p e) t u = drop u.len t.slots.now
spare_after (drops p) t u = cond (p.number == 0) [] (dropped (entries t) p.number) ++ spare t
spare_after ticks t u = spare t

-- what a change does in the list, which stays the one that was lent
pub record TableKeeps (c : Change) (t u : Table) : Type 0 where
  pub same : u.slots.ghost_name ≡ t.slots.ghost_name
  pub behind : spare u ≡ spare_after c t u
