-- The refusals: one definition gives the number and the values of each.
use Rattle.std.specs.Prelude.{ℕ, Some, None, Option}
use Rattle.paths.specs.declared.stamp.Panel.{Panel}
use Rattle.paths.specs.declared.fault.Cause.{Cause}
use Rattle.paths.specs.declared.fault.Cause.TheVariants.{Full, LastTime}
use Rattle.paths.specs.declared.fault.Site.{Site}
use Rattle.paths.specs.declared.fault.Fault.{Fault}
use Rattle.paths.specs.declared.fault.Fault.TheVariants.{NoPath, NoLeaf, OutOfRange, SamePanel, NothingToRemove, ShortWorkList, ShortReport, Store, NoConflict, StaleConflict, BadStore, BadJournal}
use Rattle.paths.specs.declared.fault.Refusal.{Refusal}

-- the site of a refusal that comes before any path or panel
abbrev pub nowhere : Site
nowhere = record { path = record { number = 0; lawful = tt }; panel = None }

abbrev pub panel_number : Option Panel → ℕ
panel_number None = 0
panel_number (Some p) = p.number

-- the refusal n of a call at a site
abbrev pub at : ℕ → Site → Refusal
at n s = record { number = n; path = s.path.number; panel = panel_number s.panel; store = None; place = None }

abbrev pub store_number : Cause → ℕ
store_number Full = 8
store_number LastTime = 9

abbrev pub refusal : Fault → Refusal
refusal NoPath = at 1 nowhere
refusal (NoLeaf s) = at 2 s
refusal (OutOfRange s) = at 3 s
refusal (SamePanel s) = at 4 s
refusal (NothingToRemove s) = at 5 s
refusal (ShortWorkList s) = at 6 s
refusal (ShortReport s) = at 7 s
refusal (Store s f) =
    record { number = store_number f.cause; path = s.path.number; panel = panel_number s.panel; store = Some f; place = None }
refusal (NoConflict s) = at 10 s
refusal (StaleConflict s) = at 11 s
refusal BadStore = at 12 nowhere
refusal (BadJournal b) = record { number = 13; path = 0; panel = 0; store = None; place = Some b }
