-- What is answered to a line, and how an answer is written.
use Rattle.std.specs.Prelude.{◌≡◌, ℕ, Bool, true, cond, ◌&&◌, List, ◌∷◌, ◌++◌, Some, None, Ok, Err, codes, decimal, Option, Result, ◌==◌}
use Rattle.std.specs.Option.{option_map}
use Rattle.paths.specs.Faults.{nowhere, refusal}
use Rattle.paths.specs.Notation.{text_of, Parsed}
use Rattle.paths.specs.Parts.{grade_parts, lawful_grade}
use Rattle.paths.specs.Steps.{levels, depth}
use Rattle.paths.specs.declared.fault.Fault.{Fault}
use Rattle.paths.specs.declared.fault.Fault.TheVariants.{NoLeaf, OutOfRange}
use Rattle.paths.specs.Values.{Grade, GradeParts}
use Rattle.paths.specs.declared.path.Path.{Path}
use Rattle.engine.specs.LeafRule.{Version, outcome, kind_number}
use Rattle.engine.specs.declared.leaf.Outcome.{Outcome}
use Rattle.engine.specs.declared.leaf.Outcome.TheVariants.{Kept, Taken, Removed, Conflict}
use Rattle.engine.specs.declared.leaf.Side.{Side}
use Rattle.leaves.specs.Lines.{LineText}
use Rattle.leaves.specs.declared.answer.Decided.{Decided}
use Rattle.leaves.specs.declared.answer.Undecided.{Undecided}
use Rattle.leaves.specs.declared.answer.Undecided.TheVariants.{Unread, Refused}

abbrev pub side_parts : Side (Option Grade) → Side (Option GradeParts)
side_parts s = record { grade = option_map grade_parts s.grade; vector = s.vector }

-- a side with no grade has no stamps that could be out of range
abbrev pub lawful_side : Option GradeParts → Bool
lawful_side None = true
lawful_side (Some g) = lawful_grade g

-- the stamps of a grade, by which the rule decides
abbrev pub version_of : GradeParts → Version
version_of g = record { stamp = g.stamp; birth = g.birth }

-- what the rule decides of two sides
abbrev pub decided : Side (Option GradeParts) → Side (Option GradeParts) → Option Outcome
decided a b =
    outcome (option_map version_of a.grade) a.vector.places (option_map version_of b.grade) b.vector.places

-- what is answered of a path and two sides: the path must be a leaf, and the stamps in range
abbrev pub judged : Path → Side (Option GradeParts) → Side (Option GradeParts) → Result Decided Undecided
judged p a b =
    cond (depth levels p.number == levels)
    (cond (lawful_side a.grade && lawful_side b.grade) (Ok (record { leaf = p; outcome = decided a b }))
    (Err (Refused (OutOfRange nowhere))))
    (Err (Refused (NoLeaf (record { path = p; panel = None }))))

-- what is answered once the leaf's text is parsed
abbrev pub judged_leaf : Result Path Fault → LineText → Result Decided Undecided
judged_leaf (Ok p) l = judged p l.a l.b
judged_leaf (Err f) l = Err (Refused f)

-- what is answered to a line: its form is looked at before all else
abbrev pub Answered : Option LineText → Result Decided Undecided → Type 0
Answered None r = r ≡ Err Unread
Answered (Some l) r = (leaf : Result Path Fault) × (Parsed l.leaf leaf × (r ≡ judged_leaf leaf l))

abbrev pub outcome_text : Option Outcome → List ℕ
outcome_text None = codes "empty"
outcome_text (Some Kept) = codes "kept"
outcome_text (Some Taken) = codes "taken"
outcome_text (Some Removed) = codes "removed"
outcome_text (Some (Conflict k)) = codes "conflict " ++ decimal (kind_number k)

-- an answer as it is printed
abbrev pub answer_text : Result Decided Undecided → List ℕ
answer_text (Err Unread) = codes "?"
answer_text (Err (Refused f)) = codes "no " ++ decimal (refusal f).number
answer_text (Ok d) = text_of d.leaf ++ (32 ∷ outcome_text d.outcome)
