-- Paths over any number of levels n: a path is a list of at most n steps, each from 1 to 255, and its number
-- has a byte for each level, the first step highest, missing steps 0.
use Rattle.std.specs.Prelude.{ℕ, zero, suc, ◌+◌, ◌-◌, ◌*◌, ◌/◌, ◌%◌, ◌^◌, Bool, true, false, cond, ◌&&◌, List, [], ◌∷◌, length, ◌==◌, nat_lt}

-- the levels of a panel's tree: reel, scene, shot, node
abbrev pub levels : ℕ
levels = 4

abbrev pub is_step : ℕ → Bool
is_step x = nat_lt 0 x && nat_lt x 256

-- the lists that are paths of n levels
abbrev pub is_path : ℕ → List ℕ → Bool
is_path n [] = true
is_path zero (x ∷ xs) = false
is_path (suc n) (x ∷ xs) = is_step x && is_path n xs

-- the number of a path of n levels
abbrev pub number : ℕ → List ℕ → ℕ
number n [] = 0
number zero (x ∷ xs) = 0
number (suc n) (x ∷ xs) = x * 256 ^ n + number n xs

-- the bytes of a number of n levels, the first step's first
abbrev pub digits : ℕ → ℕ → List ℕ
digits zero p = []
digits (suc n) p = p / 256 ^ n ∷ digits n (p % 256 ^ n)

-- the steps that a number of n levels names, up to its first byte that is 0
abbrev pub steps : ℕ → ℕ → List ℕ
steps zero p = []
steps (suc n) p = cond (p / 256 ^ n == 0) [] (p / 256 ^ n ∷ steps n (p % 256 ^ n))

-- the numbers that are the number of a path of n levels: no step follows a missing one
abbrev pub is_number : ℕ → ℕ → Bool
is_number zero p = p == 0
is_number (suc n) p = cond (p / 256 ^ n == 0) (p == 0) (nat_lt (p / 256 ^ n) 256 && is_number n (p % 256 ^ n))

abbrev pub begins : List ℕ → List ℕ → Bool
begins [] ys = true
begins (x ∷ xs) [] = false
begins (x ∷ xs) (y ∷ ys) = x == y && begins xs ys

-- one path covers another that begins with its steps
abbrev pub covers : ℕ → ℕ → ℕ → Bool
covers n p q = begins (steps n p) (steps n q)

abbrev pub depth : ℕ → ℕ → ℕ
depth n p = length (steps n p)

-- the number without its last step; the root's is the root's
abbrev pub parent : ℕ → ℕ → ℕ
parent zero p = 0
parent (suc n) p = cond (p % 256 ^ n == 0) 0 (p / 256 ^ n * 256 ^ n + parent n (p % 256 ^ n))

-- the greatest number that can begin with the steps of p
abbrev pub last : ℕ → ℕ → ℕ
last zero p = 0
last (suc n) p = cond (p / 256 ^ n == 0) (256 ^ suc n - 1) (p / 256 ^ n * 256 ^ n + last n (p % 256 ^ n))
