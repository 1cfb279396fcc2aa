-- Texts of digits, read one digit after the other.
use Rattle.std.proofs.Common.{◌≡◌, ℕ, ◌+◌, ◌-◌, ◌*◌, ◌^◌, ◌<◌, ◌≤◌, min, true, false, ◌&&◌, List, [], ◌∷◌, length, get_or, drop, Some, None, sym, ap, ◌∙◌, arith}
use Rattle.std.specs.Char.{is_ascii_digit}
use Rattle.std.specs.Str.{all_ascii_digits}
use Rattle.std.proofs.lemmas.List.{drop_more, drop_all}
use Rattle.std.proofs.lemmas.Bool.{cond-true, cond-false}
use Rattle.text.specs.Numerals.{value_after, digits_value}

-- what is read so far, n, and then the rest is the whole, up to the cap
pub record Reading (text : List ℕ) (i n : ℕ) : Type 0 where
  pub small : n < 2 ^ 64
  pub value : min (value_after n (drop i text)) (2 ^ 64 - 1) ≡ min (value_after 0 text) (2 ^ 64 - 1)
  pub digits : all_ascii_digits (drop i text) ≡ all_ascii_digits text

-- numbers that are alike up to the cap stay so under further digits
capped_alike :
    (cs : List ℕ) (m n : ℕ) → min m (2 ^ 64 - 1) ≡ min n (2 ^ 64 - 1)
    → min (value_after m cs) (2 ^ 64 - 1) ≡ min (value_after n cs) (2 ^ 64 - 1)
capped_alike [] m n e = e
capped_alike (c ∷ cs) m n e = capped_alike cs (m * 10 + (c - 48)) (n * 10 + (c - 48)) (omega arith)

pub reading_more :
    (text : List ℕ) (i n m : ℕ) → i < length text → is_ascii_digit (get_or text i 0) ≡ true
    → m ≡ min (n * 10 + (get_or text i 0 - 48)) (2 ^ 64 - 1) → Reading text i n → Reading text (i + 1) m
reading_more text i n m lt digit e so_far =
    let more = drop_more text i 0 lt in
    record {
      small = omega arith;
      value =
          capped_alike (drop (i + 1) text) m (n * 10 + (get_or text i 0 - 48)) (omega arith)
          ∙ ap (λ cs. min (value_after n cs) (2 ^ 64 - 1)) (sym more) ∙ so_far.value;
      digits = ap (λ b. b && all_ascii_digits (drop (i + 1) text)) (sym digit) ∙ ap all_ascii_digits (sym more) ∙ so_far.digits;
    }

pub reading_all : (text : List ℕ) (i n : ℕ) → length text ≤ i → Reading text i n → Some n ≡ digits_value text
reading_all text i n end so_far =
    let none = drop_all i text end in
    let whole : n ≡ min (value_after 0 text) (2 ^ 64 - 1) =
    omega (arith, ap (λ cs. min (value_after n cs) (2 ^ 64 - 1)) none) in
    ap Some whole ∙ sym (cond-true (all_ascii_digits text) _ None (sym so_far.digits ∙ ap all_ascii_digits none))

pub reading_stops :
    (text : List ℕ) (i n : ℕ) → i < length text → is_ascii_digit (get_or text i 0) ≡ false → Reading text i n
    → None ≡ digits_value text
reading_stops text i n lt no_digit so_far =
    let stop : all_ascii_digits text ≡ false =
    sym so_far.digits ∙ ap all_ascii_digits (drop_more text i 0 lt) ∙ ap (λ b. b && all_ascii_digits (drop (i + 1) text)) no_digit in
    sym (cond-false (all_ascii_digits text) _ None stop)
