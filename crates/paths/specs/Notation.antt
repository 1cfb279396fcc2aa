-- How a path is read from text: exactly the texts that are printed are read.
use Rattle.std.specs.Prelude.{◌≡◌, ℕ, zero, suc, ◌+◌, ◌*◌, ◌^◌, Bool, false, cond, List, [], ◌∷◌, ◌++◌, Some, None, Ok, Err, codes, decimal, Option, Result, ◌==◌, ◌≢◌}
use Rattle.std.specs.Option.{option_map}
use Rattle.paths.specs.declared.fault.Fault.{Fault}
use Rattle.paths.specs.declared.fault.Fault.TheVariants.{NoPath}
use Rattle.paths.specs.declared.path.Path.{Path}
use Rattle.paths.specs.Steps.{levels, is_step, steps}
use Rattle.text.specs.Fields.{before_first, after_first}
use Rattle.text.specs.Numerals.{numeral}

-- steps in decimal, joined by '/'
abbrev pub joined : ℕ → List ℕ → List ℕ
joined x [] = decimal x
joined x (y ∷ ys) = decimal x ++ (47 ∷ joined y ys)

-- the text of a path: '.' for the root
abbrev pub path_text : List ℕ → List ℕ
path_text [] = codes "."
path_text (x ∷ xs) = joined x xs

-- the text of the path of a number
abbrev pub text_of : Path → List ℕ
text_of p = path_text (steps levels p.number)

-- a text is read as the path that is written so, and refused where none is
abbrev pub Parsed : List ℕ → Result Path Fault → Type 0
Parsed text (Ok p) = text_of p ≡ text
Parsed text (Err f) = (f ≡ NoPath) × ((p : Path) → text_of p ≢ text)

-- a number that is a step
abbrev pub only_step : Option ℕ → Option ℕ
only_step None = None
only_step (Some x) = cond (is_step x) (Some x) None

-- the step that a text writes
abbrev pub read_step : List ℕ → Option ℕ
read_step t = only_step (numeral t)

-- a step of weight w before what was read of the text after it, if there is any
abbrev pub add_step : ℕ → Option ℕ → Option (Option ℕ) → Option ℕ
add_step w None rest = None
add_step w (Some x) None = Some (x * w)
add_step w (Some x) (Some rest) = option_map (λ m. x * w + m) rest

-- the number of the steps that a text writes, at least one and at most n
abbrev pub read_steps : ℕ → List ℕ → Option ℕ
read_steps zero t = None
read_steps (suc n) t = add_step (256 ^ n) (read_step (before_first 47 t)) (option_map (read_steps n) (after_first 47 t))

abbrev pub is_dot : List ℕ → Bool
is_dot [] = false
is_dot (c ∷ []) = c == 46
is_dot (c ∷ (d ∷ ds)) = false

-- the number of the path of n levels that a text writes
abbrev pub read_path : ℕ → List ℕ → Option ℕ
read_path n t = cond (is_dot t) (Some 0) (read_steps n t)
