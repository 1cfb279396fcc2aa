-- The values by their names: in range, and as the plain numbers that a caller hands in.
use Rattle.std.specs.Prelude.{ℕ, ℤ, Option}
use Rattle.paths.specs.declared.grade.Grade.{Grade as GradeOf}
use Rattle.paths.specs.declared.grade.Knob.{Knob}
use Rattle.paths.specs.declared.grade.Knobs.{Knobs}
use Rattle.paths.specs.declared.stamp.Panel.{Panel}
use Rattle.paths.specs.declared.stamp.Stamp.{Stamp as StampOf}
use Rattle.paths.specs.declared.stamp.Time.{Time}

abbrev pub Stamp : Type 0
Stamp = StampOf Panel Time

abbrev pub StampParts : Type 0
StampParts = StampOf ℕ ℕ

abbrev pub Grade : Type 0
Grade = GradeOf Knob Stamp

abbrev pub KnobsParts : Type 0
KnobsParts = Knobs ℤ

abbrev pub GradeParts : Type 0
GradeParts = GradeOf ℤ StampParts

abbrev pub SettingParts : Type 0
SettingParts = Knobs (Option ℤ)
