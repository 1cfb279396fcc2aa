-- What a store means: a panel number, a clock, a capacity, a height and its entries in path order.
use Rattle.std.specs.Prelude.{◌≡◌, ℕ, ◌+◌, ◌≤◌, min, Bool, true, cond, not, ◌&&◌, ◌||◌, List, [], ◌∷◌, length, is_some, Some, None, Ok, Err, Option, Result, ◌==◌}
use Rattle.paths.specs.Steps.{levels, covers, depth}
use Rattle.paths.specs.Vectors.{greater, lesser}
use Rattle.paths.specs.declared.fault.Cause.TheVariants.{Full, LastTime}
use Rattle.paths.specs.declared.fault.StoreFault.{StoreFault}
use Rattle.paths.specs.declared.path.Path.{Path}
use Rattle.paths.specs.declared.stamp.Panel.{Panel}
use Rattle.stores.specs.declared.entry.Entry.{Entry}
use Rattle.stores.specs.declared.entry.Slot.{Slot}
use Rattle.stores.specs.Climb.{climb}
use Rattle.stores.specs.Slots.{key, lookup, put, drop, rises}

pub record Model : Type 0 where
  pub number : Panel
  pub clock : ℕ
  pub capacity : ℕ
  pub height : ℕ
  pub entries : List Slot

-- the height of a layer over a store; 255 stands for 255 or more
abbrev pub layered : ℕ → ℕ
layered height = min (height + 1) 255

abbrev pub is_leaf : ℕ → Bool
is_leaf p = depth levels p == levels

-- an entry as it is stored at a path: at a folder without a grade
abbrev pub stored : ℕ → Entry → Entry
stored p e = record { vector = e.vector; grade = cond (is_leaf p) e.grade None }

-- no folder has a grade
abbrev pub bare_folders : List Slot → Bool
bare_folders [] = true
bare_folders (s ∷ es) = (is_leaf (key s) || not (is_some s.entry.grade)) && bare_folders es

-- what every store keeps
pub record Lawful (m : Model) : Type 0 where
  pub time : m.clock ≤ 1000000
  pub some_room : 1 ≤ m.capacity
  pub small : m.capacity ≤ 1000
  pub low : m.height ≤ 255
  pub in_order : rises m.entries ≡ true
  pub rooted : is_some (lookup m.entries 0) ≡ true
  pub bare : bare_folders m.entries ≡ true
  pub fits : length m.entries ≤ m.capacity

abbrev pub places_of : Option Entry → List ℕ
places_of None = []
places_of (Some e) = e.vector.places

-- the vector, as stored, of the nearest entered path at or above p
unfoldable pub nearest : List Slot → ℕ → List ℕ
nearest es p = places_of (climb (lookup es) p)

-- a vector joined with those of the entered paths that p covers
abbrev pub joined_below : (List ℕ → List ℕ → List ℕ) → List Slot → ℕ → List ℕ → List ℕ
joined_below join [] p v = v
joined_below join (s ∷ es) p v =
    joined_below join es p (cond (covers levels p (key s)) (join v s.entry.vector.places) v)

unfoldable pub least_at : List Slot → ℕ → List ℕ
least_at es p = joined_below lesser es p (nearest es p)

unfoldable pub greatest_at : List Slot → ℕ → List ℕ
greatest_at es p = joined_below greater es p (nearest es p)

-- a put is refused exactly if the path is not entered and the store is full
abbrev pub is_full : Model → ℕ → Bool
is_full m p = not (is_some (lookup m.entries p)) && length m.entries == m.capacity

abbrev pub put_answer : Model → ℕ → Result (Unit {0}) StoreFault
put_answer m p = cond (is_full m p) (Err (record { cause = Full; height = m.height })) (Ok tt)

abbrev pub with_entries : Model → List Slot → Model
with_entries m es =
    record { number = m.number; clock = m.clock; capacity = m.capacity; height = m.height; entries = es }

abbrev pub put_model : Model → Path → Entry → Model
put_model m p e =
    with_entries m
    (cond (is_full m p.number) m.entries (put m.entries (record { path = p; entry = stored p.number e })))

abbrev pub drop_answer : Model → ℕ → Bool
drop_answer m p = not (p == 0) && is_some (lookup m.entries p)

abbrev pub drop_model : Model → ℕ → Model
drop_model m p = with_entries m (cond (p == 0) m.entries (drop m.entries p))

abbrev pub at_last : Model → Bool
at_last m = m.clock == 1000000

abbrev pub tick_answer : Model → Result (Unit {0}) StoreFault
tick_answer m = cond (at_last m) (Err (record { cause = LastTime; height = m.height })) (Ok tt)

abbrev pub tick_model : Model → Model
tick_model m =
    record {
      number = m.number;
      clock = cond (at_last m) m.clock (m.clock + 1);
      capacity = m.capacity;
      height = m.height;
      entries = m.entries;
    }
