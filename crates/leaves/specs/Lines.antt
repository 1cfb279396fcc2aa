-- How a line is read: a leaf, and then of A and of B its grade, if any, and its vector, with a space between fields.
use Rattle.std.specs.Prelude.{ℕ, zero, suc, ◌^◌, Bool, false, cond, List, [], ◌∷◌, replicate, pos, Some, None, Option, ◌==◌, nat_lt}
use Rattle.std.specs.Option.{option_map}
use Rattle.paths.specs.Values.{GradeParts, KnobsParts, StampParts}
use Rattle.paths.specs.declared.vector.Vector.{Vector}
use Rattle.engine.specs.declared.leaf.Side.{Side}
use Rattle.leaves.specs.declared.line.Line.{Line}
use Rattle.text.specs.Fields.{before_first, after_first}
use Rattle.text.specs.Numerals.{numeral}

-- what is read next, where something was read before
abbrev pub and_then : {X Y : Type 0} → Option X → (X → Option Y) → Option Y
and_then None f = None
and_then (Some x) f = f x

-- panel:time
abbrev pub read_stamp : List ℕ → Option StampParts
read_stamp t =
    and_then (numeral (before_first 58 t)) (λ panel.
    and_then (after_first 58 t) (λ rest.
    and_then (numeral rest) (λ time.
    Some (record { panel = panel; time = time }))))

abbrev pub no_knobs : KnobsParts
no_knobs = record { lift = pos 0; gamma = pos 0; gain = pos 0; contrast = pos 0 }

-- stamp/birth; the knobs are no part of a line
abbrev pub read_stamps : List ℕ → Option GradeParts
read_stamps t =
    and_then (read_stamp (before_first 47 t)) (λ stamp.
    and_then (after_first 47 t) (λ rest.
    and_then (read_stamp rest) (λ birth.
    Some (record { knobs = no_knobs; stamp = stamp; birth = birth }))))

abbrev pub is_dash : List ℕ → Bool
is_dash [] = false
is_dash (c ∷ []) = c == 45
is_dash (c ∷ (d ∷ ds)) = false

-- a grade, or '-' where there is none
abbrev pub read_grade : List ℕ → Option (Option GradeParts)
read_grade t = cond (is_dash t) (Some None) (option_map Some (read_stamps t))

abbrev pub only_place : Option ℕ → Option ℕ
only_place None = None
only_place (Some x) = cond (nat_lt x (2 ^ 32)) (Some x) None

abbrev pub read_place : List ℕ → Option ℕ
read_place t = only_place (numeral t)

-- the place x, n more of which may follow, before what is read of the text after it, if there is any
abbrev pub add_place : ℕ → ℕ → Option (Option (List ℕ)) → Option (List ℕ)
add_place n x None = Some (x ∷ replicate n 0)
add_place n x (Some rest) = option_map (λ xs. x ∷ xs) rest

-- the n places of a vector that writes at least one of them; those that it leaves out are 0
abbrev pub read_places : ℕ → List ℕ → Option (List ℕ)
read_places zero t = None
read_places (suc n) t =
    and_then (read_place (before_first 44 t)) (λ x. add_place n x (option_map (read_places n) (after_first 44 t)))

abbrev pub read_vector : List ℕ → Option Vector
read_vector t = option_map (λ xs. record { places = xs }) (read_places 8 t)

abbrev pub read_side : List ℕ → List ℕ → Option (Side (Option GradeParts))
read_side g v =
    and_then (read_grade g) (λ grade.
    and_then (read_vector v) (λ vector.
    Some (record { grade = grade; vector = vector })))

-- a line as it is read, its leaf by the bytes
pub record LineText : Type 0 where
  pub leaf : List ℕ
  pub a : Side (Option GradeParts)
  pub b : Side (Option GradeParts)

abbrev pub line_text : Line → LineText
line_text l = record { leaf = l.leaf.now; a = l.a; b = l.b }

-- five fields: no vector holds a space, so nothing can follow the last
abbrev pub read_line : List ℕ → Option LineText
read_line t =
    and_then (after_first 32 t) (λ u.
    and_then (after_first 32 u) (λ v.
    and_then (after_first 32 v) (λ w.
    and_then (read_side (before_first 32 u) (before_first 32 v)) (λ a.
    and_then (after_first 32 w) (λ x.
    and_then (read_side (before_first 32 w) x) (λ b.
    Some (record { leaf = before_first 32 t; a = a; b = b })))))))
