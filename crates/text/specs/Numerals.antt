-- Numbers as decimal text, by the bytes.
use Rattle.std.specs.Prelude.{ℕ, ◌+◌, ◌-◌, ◌*◌, ◌^◌, min, cond, List, [], ◌∷◌, Some, None, Option, ◌==◌}
use Rattle.std.specs.Str.{all_ascii_digits}

-- the number that digits write after those of n
abbrev pub value_after : ℕ → List ℕ → ℕ
value_after n [] = n
value_after n (c ∷ cs) = value_after (n * 10 + (c - 48)) cs

-- the number of a text of digits, capped at the greatest of 64 bits
abbrev pub digits_value : List ℕ → Option ℕ
digits_value ds = cond (all_ascii_digits ds) (Some (min (value_after 0 ds) (2 ^ 64 - 1))) None

-- the same of a numeral: one digit or more, and no leading zero
abbrev pub numeral : List ℕ → Option ℕ
numeral [] = None
numeral (c ∷ []) = digits_value (c ∷ [])
numeral (c ∷ (d ∷ ds)) = cond (c == 48) None (digits_value (c ∷ (d ∷ ds)))
