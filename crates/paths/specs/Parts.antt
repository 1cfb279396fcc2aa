-- Values by the plain numbers that they are made of, and which numbers make one.
use Rattle.std.specs.Prelude.{◌≡◌, Bool, true, false, ◌&&◌, ◌||◌, ℤ, is_some, Some, None, Ok, Err, Option, Result}
use Rattle.std.specs.Option.{option_map}
use Rattle.paths.specs.declared.grade.Knob.{Knob}
use Rattle.paths.specs.declared.grade.Knobs.{Knobs}
use Rattle.paths.specs.declared.grade.Setting.{Setting}
use Rattle.paths.specs.declared.parts.RangeError.{RangeError}
use Rattle.paths.specs.Ranges.{is_knob, is_panel, is_time}
use Rattle.paths.specs.Values.{Grade, GradeParts, KnobsParts, SettingParts, Stamp, StampParts}

-- what a maker answers: where the parts are lawful a value of just these parts, else the fault
abbrev pub MadeOf : {V P E : Type 0} → (V → P) → P → Bool → E → Result V E → Type 0
MadeOf parts-of parts lawful fault (Ok v) = (lawful ≡ true) × (parts-of v ≡ parts)
MadeOf parts-of parts lawful fault (Err f) = (lawful ≡ false) × (f ≡ fault)

abbrev pub range_error : RangeError
range_error = record {}

abbrev pub stamp_parts : Stamp → StampParts
stamp_parts s = record { panel = s.panel.number; time = s.time.value }

abbrev pub lawful_stamp : StampParts → Bool
lawful_stamp s = is_panel s.panel && is_time s.time

abbrev pub knobs_parts : Knobs Knob → KnobsParts
knobs_parts k =
    record { lift = k.lift.value; gamma = k.gamma.value; gain = k.gain.value; contrast = k.contrast.value }

abbrev pub lawful_knobs : KnobsParts → Bool
lawful_knobs k = is_knob k.lift && is_knob k.gamma && is_knob k.gain && is_knob k.contrast

abbrev pub grade_parts : Grade → GradeParts
grade_parts g =
    record { knobs = knobs_parts g.knobs; stamp = stamp_parts g.stamp; birth = stamp_parts g.birth }

abbrev pub lawful_grade : GradeParts → Bool
lawful_grade g = lawful_knobs g.knobs && lawful_stamp g.stamp && lawful_stamp g.birth

abbrev pub setting_parts : Setting → SettingParts
setting_parts k =
    record {
      lift = option_map (λ x. x.value) k.knobs.lift;
      gamma = option_map (λ x. x.value) k.knobs.gamma;
      gain = option_map (λ x. x.value) k.knobs.gain;
      contrast = option_map (λ x. x.value) k.knobs.contrast;
    }

-- what is left out is in range
abbrev pub in_range : Option ℤ → Bool
in_range None = true
in_range (Some x) = is_knob x

abbrev pub some_set : SettingParts → Bool
some_set k = is_some k.lift || is_some k.gamma || is_some k.gain || is_some k.contrast

-- at least one knob is set, and each that is set is in range
abbrev pub lawful_setting : SettingParts → Bool
lawful_setting k =
    (is_some k.lift || is_some k.gamma || is_some k.gain || is_some k.contrast)
    && in_range k.lift && in_range k.gamma && in_range k.gain && in_range k.contrast
