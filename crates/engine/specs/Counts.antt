-- How many leaves have each outcome.
use Rattle.std.specs.Prelude.{ℕ, suc, ◌+◌, ◌-◌, ◌^◌, min, Some, None, Option}
use Rattle.engine.specs.declared.leaf.Outcome.{Outcome}
use Rattle.engine.specs.declared.leaf.Outcome.TheVariants.{Kept, Taken, Removed, Conflict}
use Rattle.engine.specs.declared.tally.Tally.{Tally}

abbrev pub no_counts : Tally
no_counts = record { kept = 0; taken = 0; removed = 0; conflicts = 0 }

-- with one leaf more
abbrev pub counted : Option Outcome → Tally → Tally
counted None t = t
counted (Some Kept) t =
    record { kept = suc t.kept; taken = t.taken; removed = t.removed; conflicts = t.conflicts }
counted (Some Taken) t =
    record { kept = t.kept; taken = suc t.taken; removed = t.removed; conflicts = t.conflicts }
counted (Some Removed) t =
    record { kept = t.kept; taken = t.taken; removed = suc t.removed; conflicts = t.conflicts }
counted (Some (Conflict k)) t =
    record { kept = t.kept; taken = t.taken; removed = t.removed; conflicts = suc t.conflicts }

-- a sum that stays at the greatest number of 64 bits
abbrev pub plus : ℕ → ℕ → ℕ
plus m n = min (m + n) (2 ^ 64 - 1)

abbrev pub both_counts : Tally → Tally → Tally
both_counts s t =
    record {
      kept = plus s.kept t.kept;
      taken = plus s.taken t.taken;
      removed = plus s.removed t.removed;
      conflicts = plus s.conflicts t.conflicts;
    }
