-- The first mark in a text.
use Rattle.std.proofs.Common.{◌≡◌, ◌≢◌, ℕ, zero, suc, ◌+◌, ◌<◌, eqb, List, [], ◌∷◌, length, get_or, drop, Some, None, Option, MatchOption, sym, refl, ap, ◌∙◌, suc-le-suc, arith}
use Rattle.std.proofs.lemmas.Bool.{cond-true, cond-false, eq-eqb, ne_eqb}
use Rattle.text.specs.Fields.{Marked}

unmarked : (b : ℕ) (xs : List ℕ) → ((k : ℕ) → k < length xs → get_or xs k 0 ≢ b) → Marked b xs None
unmarked b [] others = (refl, refl)
unmarked b (x ∷ xs) others =
    let differs = ne_eqb x b (others 0 (omega arith)) in
    let rest = unmarked b xs (λ k lt. others (suc k) (suc-le-suc lt)) in (
      ap (λ t. x ∷ t) rest.0 ∙ sym (cond-false (eqb x b) [] _ differs),
      rest.1 ∙ sym (cond-false (eqb x b) (Some xs) _ differs),
    )

marked :
    (b : ℕ) (xs : List ℕ) (i : ℕ) → i < length xs → get_or xs i 0 ≡ b → ((k : ℕ) → k < i → get_or xs k 0 ≢ b)
    → Marked b xs (Some i)
marked b [] i lt here others = absurd (omega arith)
marked b (x ∷ xs) zero lt here others =
    (lt, sym (cond-true (eqb x b) [] _ (eq-eqb x b here)), sym (cond-true (eqb x b) (Some xs) _ (eq-eqb x b here)))
marked b (x ∷ xs) (suc i) lt here others =
    let differs = ne_eqb x b (others 0 (omega arith)) in
    let rest = marked b xs i (omega arith) here (λ k below. others (suc k) (suc-le-suc below)) in
    let one_more : suc i + 1 ≡ suc (i + 1) = omega arith in (
      lt,
      ap (λ t. x ∷ t) rest.1 ∙ sym (cond-false (eqb x b) [] _ differs),
      ap (λ k. Some (drop k (x ∷ xs))) one_more ∙ rest.2 ∙ sym (cond-false (eqb x b) (Some xs) _ differs),
    )

-- what a look at byte after byte finds
pub found :
    (b : ℕ) (xs : List ℕ) (r : Option ℕ)
    → MatchOption r ((k : ℕ) → k < length xs → get_or xs k 0 ≢ b)
    (λ i. (i < length xs) × (get_or xs i 0 ≡ b) × ((k : ℕ) → k < i → get_or xs k 0 ≢ b))
    → Marked b xs r
found b xs None others = unmarked b xs others
found b xs (Some i) at = marked b xs i at.0 at.1 at.2
