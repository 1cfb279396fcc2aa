-- What holds of every store's entries. `laws.rt` promises each.
use Rattle.std.specs.Prelude.{◌≡◌, ℕ, ◌+◌, ◌<◌, true, cond, ◌≢◌, List, length, is_some, Some, None, MatchOption}
use Rattle.paths.specs.Steps.{levels, is_number, covers}
use Rattle.paths.specs.Vectors.{at_most}
use Rattle.stores.specs.Meaning.{nearest, least_at, greatest_at}
use Rattle.stores.specs.Slots.{key, lookup, next_after, put, drop, rises}
use Rattle.stores.specs.declared.entry.Slot.{Slot}

-- look-ups after a put
pub record Puts (es : List Slot) (s : Slot) : Type 0 where
  pub there : lookup (put es s) (key s) ≡ Some s.entry
  pub elsewhere : (q : ℕ) → q ≢ key s → lookup (put es s) q ≡ lookup es q
  pub in_order : rises (put es s) ≡ true
  pub count : length (put es s) ≡ cond (is_some (lookup es (key s))) (length es) (length es + 1)

-- look-ups after a drop
pub record Drops (es : List Slot) (p : ℕ) : Type 0 where
  pub there : lookup (drop es p) p ≡ None
  pub elsewhere : (q : ℕ) → q ≢ p → lookup (drop es p) q ≡ lookup es q
  pub in_order : rises (drop es p) ≡ true
  pub count : length (drop es p) + cond (is_some (lookup es p)) 1 0 ≡ length es

-- the next path is entered, comes after q, and none is entered between
abbrev pub Nexts : List Slot → ℕ → Type 0
Nexts es q =
    MatchOption (next_after es q) ((r : ℕ) → q < r → lookup es r ≡ None)
    (λ p. (q < p.number) × (is_some (lookup es p.number) ≡ true)
    × ((r : ℕ) → q < r → r < p.number → lookup es r ≡ None))

abbrev pub LookupLaws : Type 0
LookupLaws =
    (es : List Slot) → rises es ≡ true
    → ((s : Slot) → Puts es s) × ((p : ℕ) → Drops es p) × ((q : ℕ) → Nexts es q)

-- entries with equal look-ups are equal
abbrev pub EqualLookups : Type 0
EqualLookups =
    (es fs : List Slot) → rises es ≡ true → rises fs ≡ true → ((q : ℕ) → lookup es q ≡ lookup fs q) → es ≡ fs

-- p covers q: what is known at q lies within the bounds of p, and the bounds of q within those of p
pub record Within (es : List Slot) (p q : ℕ) : Type 0 where
  pub least : at_most (least_at es p) (nearest es q) ≡ true
  pub greatest : at_most (nearest es q) (greatest_at es p) ≡ true
  pub least_narrows : at_most (least_at es p) (least_at es q) ≡ true
  pub greatest_narrows : at_most (greatest_at es q) (greatest_at es p) ≡ true

abbrev pub BoundsLaws : Type 0
BoundsLaws =
    (es : List Slot) (p q : ℕ) → is_number levels p ≡ true → is_number levels q ≡ true → covers levels p q ≡ true
    → Within es p q
