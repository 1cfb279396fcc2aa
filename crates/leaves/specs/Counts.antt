-- The counts of a whole list of lines: what each answer adds to them, and how they are written.
use Rattle.std.specs.Prelude.{ℕ, List, ◌++◌, Ok, Err, Result, codes, decimal}
use Rattle.engine.specs.Counts.{no_counts, counted, plus, both_counts}
use Rattle.leaves.specs.declared.answer.Decided.{Decided}
use Rattle.leaves.specs.declared.answer.Undecided.{Undecided}
use Rattle.leaves.specs.declared.totals.Totals.{Totals}

-- what one answer adds to each count
abbrev pub adds : Result Decided Undecided → Totals
adds (Ok d) = record { leaves = 1; outcomes = counted d.outcome no_counts; refused = 0 }
adds (Err u) = record { leaves = 0; outcomes = no_counts; refused = 1 }

abbrev pub both : Totals → Totals → Totals
both s t =
    record {
      leaves = plus s.leaves t.leaves;
      outcomes = both_counts s.outcomes t.outcomes;
      refused = plus s.refused t.refused;
    }

-- the report line
abbrev pub report : Totals → List ℕ
report t =
    codes "leaves " ++ (decimal t.leaves ++ (codes " kept " ++ (decimal t.outcomes.kept ++ (codes " taken "
    ++ (decimal t.outcomes.taken ++ (codes " removed " ++ (decimal t.outcomes.removed ++ (codes " conflicts "
    ++ (decimal t.outcomes.conflicts ++ (codes " refused " ++ decimal t.refused))))))))))
