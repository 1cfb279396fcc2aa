-- A text cut at the first byte of a kind.
use Rattle.std.specs.Prelude.{◌≡◌, ℕ, ◌+◌, ◌<◌, zero, suc, cond, List, [], ◌∷◌, length, take, drop, replicate, Some, None, Option, MatchOption, ◌==◌}
use Rattle.std.specs.Option.{option_map}

-- what stands before and after the first byte b
abbrev pub before_first : ℕ → List ℕ → List ℕ
before_first b [] = []
before_first b (x ∷ xs) = cond (x == b) [] (x ∷ before_first b xs)

abbrev pub after_first : ℕ → List ℕ → Option (List ℕ)
after_first b [] = None
after_first b (x ∷ xs) = cond (x == b) (Some xs) (after_first b xs)

-- the first byte b stands at the place i, or nowhere
abbrev pub Marked : ℕ → List ℕ → Option ℕ → Type 0
Marked b xs (Some i) = (i < length xs) × (take i xs ≡ before_first b xs) × (Some (drop (i + 1) xs) ≡ after_first b xs)
Marked b xs None = (xs ≡ before_first b xs) × (None ≡ after_first b xs)

-- what a reader comes to that answers a field as R says: the n fields of what is left of a text, those that it leaves out
-- blank, or nothing where a field is not read or where there are more than n
abbrev pub FieldsRead :
    {X : Type 0} → (List ℕ → Option X → Type 0) → ℕ → X → ℕ → Option (List ℕ) → Option (List X) → Type 0
FieldsRead R mark blank n None all = all ≡ Some (replicate n blank)
FieldsRead R mark blank zero (Some text) all = all ≡ None
FieldsRead {X} R mark blank (suc n) (Some text) all =
    (first : Option X) × R (before_first mark text) first
    × MatchOption first (all ≡ None)
    (λ x. (others : Option (List X)) × FieldsRead R mark blank n (after_first mark text) others
    × (all ≡ option_map (λ xs. x ∷ xs) others))
