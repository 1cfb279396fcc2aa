-- Reading a path's steps gives back exactly what printing writes.
use Rattle.std.proofs.Common.{◌≡◌, ℕ, zero, suc, ◌+◌, ◌-◌, ◌*◌, ◌^◌, ◌<◌, Bool, true, false, List, [], ◌∷◌, ◌++◌, length, get_or, Some, None, Ok, Err, decimal, Option, Result, sym, refl, ap, ◌∙◌, subst, ap₂, arith, rules}
use Rattle.std.specs.Option.{option_map}
use Rattle.std.specs.Str.{all_ascii_digits}
use Rattle.std.proofs.lemmas.Fmt.{decimal-digits_value, digits_decimal, digits_value-decimal, decimal_nonempty, first_decimal}
use Rattle.std.proofs.lemmas.List.{get_or_append_left}
use Rattle.std.proofs.lemmas.Str.Parse.{IsNumeralModel, numerals_by_fold}
use Rattle.std.proofs.lemmas.Bool.{cond-true, cond-false}
use Rattle.paths.proofs.Levels.{of_path, round_trip}
use Rattle.paths.proofs.Values.{path-lawful}
use Rattle.paths.specs.Notation.{only_step, read_step, read_steps, add_step, is_dot, read_path, text_of, Parsed, joined, path_text}
use Rattle.paths.specs.declared.fault.Fault.{Fault}
use Rattle.paths.specs.declared.fault.Fault.TheVariants.{NoPath}
use Rattle.paths.specs.declared.path.Path.{Path}
use Rattle.paths.specs.Parts.{MadeOf}
use Rattle.paths.specs.Steps.{levels, is_step, is_path, number, is_number, steps}
use Rattle.text.specs.Fields.{before_first, after_first}
use Rattle.text.specs.Numerals.{value_after, digits_value, numeral}

-- a text of digits and its value, in the words of the library's lemmas
own : IsNumeralModel (λ ds. all_ascii_digits ds ≡ true) (value_after 0)
own = numerals_by_fold _ (search rules) value_after (search rules)

-- digits without a leading zero are written as their value is
digits-written :
    (t : List ℕ) (n : ℕ) → n < 2 ^ 64 - 1 → 0 < length t → (get_or t 0 0 ≡ 48 → length t ≡ 1) → digits_value t ≡ Some n
    → decimal n ≡ t
digits-written t n small some first e =
    let digits : all_ascii_digits t ≡ true = grind arith in
    let value : n ≡ value_after 0 t = grind arith in
    ap decimal value ∙ decimal-digits_value own t digits some first (omega arith)

numeral-written : (t : List ℕ) (n : ℕ) → n < 2 ^ 64 - 1 → numeral t ≡ Some n → decimal n ≡ t
numeral-written [] n small e = grind arith
numeral-written (c ∷ []) n small e = digits-written (c ∷ []) n small (omega arith) (λ _. refl) e
numeral-written (c ∷ (d ∷ ds)) n small e =
    digits-written (c ∷ (d ∷ ds)) n small (omega arith) (λ zero. grind arith) (grind arith)

numeral-value :
    (t : List ℕ) (n : ℕ) → n < 2 ^ 64 → 0 < length t → 48 < get_or t 0 0 → all_ascii_digits t ≡ true → value_after 0 t ≡ n
    → numeral t ≡ Some n
numeral-value [] n small some first digits value = absurd (omega arith)
numeral-value (c ∷ []) n small some first digits value = grind arith
numeral-value (c ∷ (d ∷ ds)) n small some first digits value = grind arith

decimal-numeral : (n : ℕ) → 0 < n → n < 2 ^ 64 → numeral (decimal n) ≡ Some n
decimal-numeral n pos small =
    numeral-value (decimal n) n small (decimal_nonempty n small) (first_decimal n pos small) (digits_decimal own n small)
    (digits_value-decimal own n small)

-- a text is what stands before its first mark, and then the mark and what stands after it
split_none : (mark : ℕ) (t : List ℕ) → after_first mark t ≡ None → before_first mark t ≡ t
split_none mark [] e = refl
split_none mark (x ∷ t) e = grind (arith, split_none mark t)

split_some :
    (mark : ℕ) (t rest : List ℕ) → after_first mark t ≡ Some rest → before_first mark t ++ (mark ∷ rest) ≡ t
split_some mark [] rest e = grind arith
split_some mark (x ∷ t) rest e = grind (arith, split_some mark t rest)

-- digits hold no slash
no_split : (ds : List ℕ) → all_ascii_digits ds ≡ true → (before_first 47 ds ≡ ds) × (after_first 47 ds ≡ None)
no_split [] h = (refl, refl)
no_split (d ∷ ds) h = grind (arith, no_split ds)

split_digits :
    (ds rest : List ℕ) → all_ascii_digits ds ≡ true
    → (before_first 47 (ds ++ (47 ∷ rest)) ≡ ds) × (after_first 47 (ds ++ (47 ∷ rest)) ≡ Some rest)
split_digits [] rest h = (refl, refl)
split_digits (d ∷ ds) rest h = grind (arith, split_digits ds rest)

step_written : (t : List ℕ) (x : ℕ) → read_step t ≡ Some x → (is_step x ≡ true) × (decimal x ≡ t)
step_written t x e = go (numeral t) refl
  where
    go : (o : Option ℕ) → numeral t ≡ o → (is_step x ≡ true) × (decimal x ≡ t)
    go None p = grind arith
    go (Some y) p = grind (arith, numeral-written t y)

written_step : (x : ℕ) → is_step x ≡ true → read_step (decimal x) ≡ Some x
written_step x h = ap only_step (decimal-numeral x (grind arith) (grind arith)) ∙ cond-true (is_step x) (Some x) None h

joined-more : (x : ℕ) (ys : List ℕ) → 0 < length ys → joined x ys ≡ decimal x ++ (47 ∷ path_text ys)
joined-more x [] some = absurd (omega arith)
joined-more x (y ∷ ys) some = refl

-- what reading gives is the number of a path that is written so
pub record Writes (n m : ℕ) (t : List ℕ) : Type 0 where
  pub path : List ℕ
  pub some : 0 < length path
  pub lawful : is_path n path ≡ true
  pub number_is : number n path ≡ m
  pub written : path_text path ≡ t

writes_one :
    (n m x : ℕ) (t : List ℕ) → read_step (before_first 47 t) ≡ Some x → after_first 47 t ≡ None → x * 256 ^ n ≡ m
    → Writes (suc n) m t
writes_one n m x t step last e =
    let first = step_written (before_first 47 t) x step in
    record {
      path = x ∷ [];
      some = omega arith;
      lawful = grind arith;
      number_is = omega arith;
      written = first.1 ∙ split_none 47 t last;
    }

writes_more :
    (n m k x : ℕ) (t rest : List ℕ) → read_step (before_first 47 t) ≡ Some x → after_first 47 t ≡ Some rest
    → Writes n k rest → x * 256 ^ n + k ≡ m → Writes (suc n) m t
writes_more n m k x t rest step more below e =
    let first = step_written (before_first 47 t) x step in
    record {
      path = x ∷ below.path;
      some = omega arith;
      lawful = grind arith;
      number_is = ap (λ j. x * 256 ^ n + j) below.number_is ∙ e;
      written =
          joined-more x below.path below.some
          ∙ ap₂ (λ front text. front ++ (47 ∷ text)) first.1 below.written ∙ split_some 47 t rest more;
    }

-- a sum that was made had both its parts
both_parts :
    (w : ℕ) (o : Option ℕ) (m : ℕ) → option_map (λ k. w + k) o ≡ Some m → (k : ℕ) × (o ≡ Some k) × (w + k ≡ m)
both_parts w None m e = grind arith
both_parts w (Some k) m e = (k, refl, grind arith)

pub read_written : (n m : ℕ) (t : List ℕ) → read_steps n t ≡ Some m → Writes n m t
read_written zero m t e = grind arith
read_written (suc n) m t e = go (read_step (before_first 47 t)) (after_first 47 t) refl refl (read_written n) e
  where
    go :
        (f : Option ℕ) (a : Option (List ℕ)) → read_step (before_first 47 t) ≡ f → after_first 47 t ≡ a
        → ((k : ℕ) (rest : List ℕ) → read_steps n rest ≡ Some k → Writes n k rest)
        → add_step (256 ^ n) f (option_map (read_steps n) a) ≡ Some m → Writes (suc n) m t
    go None a step after below e = grind arith
    go (Some x) None step after below e = writes_one n m x t step after (grind arith)
    go (Some x) (Some rest) step after below e =
        let (k, read, sum) = both_parts (x * 256 ^ n) (read_steps n rest) m e in
        writes_more n m k x t rest step after (below k rest read) sum

-- a step in front of a text adds its weight
read_step_first :
    (n x : ℕ) (t : List ℕ) (a : Option (List ℕ)) → is_step x ≡ true
    → (before_first 47 t ≡ decimal x) × (after_first 47 t ≡ a)
    → read_steps (suc n) t ≡ add_step (256 ^ n) (Some x) (option_map (read_steps n) a)
read_step_first n x t a step split =
    ap₂ (λ f rest. add_step (256 ^ n) f (option_map (read_steps n) rest))
    (ap read_step split.0 ∙ written_step x step) split.1

pub written_read :
    (n x : ℕ) (xs : List ℕ) → is_path n (x ∷ xs) ≡ true → read_steps n (joined x xs) ≡ Some (number n (x ∷ xs))
written_read zero x xs h = grind arith
written_read (suc n) x [] h =
    read_step_first n x (decimal x) None (grind arith) (no_split (decimal x) (digits_decimal own x (grind arith)))
    ∙ ap Some (omega arith)
written_read (suc n) x (y ∷ ys) h =
    read_step_first n x (joined x (y ∷ ys)) (Some (joined y ys)) (grind arith)
    (split_digits (decimal x) (joined y ys) (digits_decimal own x (grind arith)))
    ∙ ap (option_map (λ m. x * 256 ^ n + m)) (written_read n y ys (grind arith))

-- a text that begins with a digit is no dot
not_dot : (t : List ℕ) → 48 < get_or t 0 0 → is_dot t ≡ false
not_dot [] digit = refl
not_dot (c ∷ []) digit = grind arith
not_dot (c ∷ (d ∷ ds)) digit = refl

joined_digit : (x : ℕ) (xs : List ℕ) → is_step x ≡ true → 48 < get_or (joined x xs) 0 0
joined_digit x [] h = first_decimal x (grind arith) (grind arith)
joined_digit x (y ∷ ys) h =
    let some : 0 < length (decimal x) = decimal_nonempty x (grind arith) in
    rw get_or_append_left (first_decimal x (grind arith) (grind arith))

dot_is : (t : List ℕ) → is_dot t ≡ true → path_text [] ≡ t
dot_is [] h = grind arith
dot_is (c ∷ []) h = ap (λ x. x ∷ []) (grind arith)
dot_is (c ∷ (d ∷ ds)) h = grind arith

-- what is read is a path that is written so
pub path-written :
    (n : ℕ) (t : List ℕ) (m : ℕ) → read_path n t ≡ Some m → (is_number n m ≡ true) × (path_text (steps n m) ≡ t)
path-written n t m e = go (is_dot t) refl
  where
    written :
        (xs : List ℕ) → is_path n xs ≡ true → number n xs ≡ m → path_text xs ≡ t
        → (is_number n m ≡ true) × (path_text (steps n m) ≡ t)
    written xs lawful is text =
        subst (λ k. (is_number n k ≡ true) × (path_text (steps n k) ≡ t)) is
        ((round_trip n).number_lawful xs lawful, ap path_text ((round_trip n).steps_back xs lawful) ∙ text)

    go : (b : Bool) → is_dot t ≡ b → (is_number n m ≡ true) × (path_text (steps n m) ≡ t)
    go true dot = written [] refl (grind arith) (dot_is t dot)
    go false dot =
        let w = read_written n m t (sym (cond-false (is_dot t) (Some 0) (read_steps n t) dot) ∙ e) in
        written w.path w.lawful w.number_is w.written

first_is_step : (n x : ℕ) (xs : List ℕ) → is_path n (x ∷ xs) ≡ true → is_step x ≡ true
first_is_step zero x xs h = grind arith
first_is_step (suc n) x xs h = grind arith

-- and what is written is read
pub path_read : (n p : ℕ) → is_number n p ≡ true → read_path n (path_text (steps n p)) ≡ Some p
path_read n = of_path n (λ xs p. read_path n (path_text xs) ≡ Some p) go
  where
    go : (xs : List ℕ) → is_path n xs ≡ true → read_path n (path_text xs) ≡ Some (number n xs)
    go [] h = refl
    go (x ∷ xs) h =
        cond-false (is_dot (joined x xs)) (Some 0) _
        (not_dot (joined x xs) (joined_digit x xs (first_is_step n x xs h)))
        ∙ written_read n x xs h

pub none_written : (t : List ℕ) → read_path levels t ≡ None → (p : Path) → text_of p ≡ t → ⊥
none_written t unread p e =
    let clash : Some p.number ≡ None =
    sym (path_read levels p.number (path-lawful p)) ∙ ap (read_path levels) e ∙ unread in
    let z : ◌≡◌ {A = ℕ} 0 1 = cc in omega arith

-- what is said of a text that no path is written as
pub parsed_as-none :
    (t : List ℕ) (r : Result Path Fault) → read_path levels t ≡ None → r ≡ Err NoPath → Parsed t r
parsed_as-none t r unread is = subst (Parsed t) (sym is) (refl, none_written t unread)

-- what is made of the number that was read is the path that is written so
pub parsed_from-made :
    (t : List ℕ) (m : ℕ) (r : Result Path Fault) → read_path levels t ≡ Some m
    → MadeOf (λ p. p.number) m (is_number levels m) NoPath r → Parsed t r
parsed_from-made t m (Ok p) read made =
    ap (λ k. path_text (steps levels k)) made.1 ∙ (path-written levels t m read).1
parsed_from-made t m (Err f) read made = absurd (search (rules, (path-written levels t m read).0, made.0))
