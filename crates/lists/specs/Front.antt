-- Lists that fill the front of a slice.
use Rattle.std.specs.Prelude.{◌≡◌, ℕ, ◌+◌, List, ◌∷◌, ◌++◌, take, drop}

-- the n filled places of before, with x put before the i-th, are the n + 1 of after, and the places behind them stay
pub record Inserts {X : Type 0} (before after : List X) (n i : ℕ) (x : X) : Type 0 where
  pub held : take (n + 1) after ≡ take i before ++ (x ∷ drop i (take n before))
  pub behind : drop (n + 1) after ≡ drop (n + 1) before

-- the n + 1 filled places of before, without the i-th, are the n of after; that one comes behind them, and what was behind stays
pub record Removes {X : Type 0} (before after : List X) (n i : ℕ) : Type 0 where
  pub held : take n after ≡ take i before ++ drop (i + 1) (take (n + 1) before)
  pub behind : drop n after ≡ take 1 (drop i before) ++ drop (n + 1) before
