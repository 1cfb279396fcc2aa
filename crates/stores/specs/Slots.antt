-- The entries of a store: slots in path order, each path once.
use Rattle.std.specs.Prelude.{◌≡◌, ℕ, suc, ◌<◌, ◌≤◌, Bool, true, cond, ◌&&◌, List, [], ◌∷◌, length, Some, None, Ok, Err, Option, Result, ◌==◌, nat_lt, slice_index_or}
use Rattle.paths.specs.declared.path.Path.{Path}
use Rattle.stores.specs.declared.entry.Entry.{Entry}
use Rattle.stores.specs.declared.entry.Slot.{Slot}

abbrev pub key : Slot → ℕ
key s = s.path.number

-- the entry at the path of number q
abbrev pub lookup : List Slot → ℕ → Option Entry
lookup [] q = None
lookup (s ∷ es) q = cond (key s == q) (Some s.entry) (lookup es q)

-- the first path after q
abbrev pub next_after : List Slot → ℕ → Option Path
next_after [] q = None
next_after (s ∷ es) q = cond (nat_lt q (key s)) (Some s.path) (next_after es q)

-- the slots with s at its place in path order, in the place of one of the same path
abbrev pub put : List Slot → Slot → List Slot
put [] s = s ∷ []
put (t ∷ es) s = cond (nat_lt (key s) (key t)) (s ∷ (t ∷ es)) (cond (key s == key t) (s ∷ es) (t ∷ put es s))

abbrev pub drop : List Slot → ℕ → List Slot
drop [] q = []
drop (t ∷ es) q = cond (key t == q) es (t ∷ drop es q)

-- what a drop takes out: the slot of q, if there is one
abbrev pub dropped : List Slot → ℕ → List Slot
dropped [] q = []
dropped (t ∷ es) q = cond (key t == q) (t ∷ []) (dropped es q)

-- every path comes after q
abbrev pub after : ℕ → List Slot → Bool
after q [] = true
after q (s ∷ es) = nat_lt q (key s) && after q es

-- each path comes after those before it
abbrev pub rises : List Slot → Bool
rises [] = true
rises (s ∷ es) = after (key s) es && rises es

-- how many of the slots come before q
abbrev pub place : List Slot → ℕ → ℕ
place [] q = 0
place (s ∷ es) q = cond (nat_lt (key s) q) (suc (place es q)) 0

-- where a search for q ends: at its slot, or where that would come
abbrev pub Sought : List Slot → ℕ → Result ℕ ℕ → Type 0
Sought es q (Ok i) = (i ≡ place es q) × (i < length es) × ((d : Slot) → lookup es q ≡ Some (slice_index_or es i d).entry)
Sought es q (Err i) = (i ≡ place es q) × (i ≤ length es) × (lookup es q ≡ None)
