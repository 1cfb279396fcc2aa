-- One rule for each knob.
use Rattle.std.specs.Prelude.{◌⊎◌, Ok, Err, Result}
use Rattle.paths.specs.declared.grade.Knobs.{Knobs}

-- the rule makes something of x
abbrev pub Makes : {K L E : Type 0} → (K → Result L E → Type 0) → K → Type 0
Makes {K} {L} {E} R x = (y : L) × R x (Ok y)

-- what the rule makes of each knob, or its first refusal
abbrev pub EachMade : {K L E : Type 0} → (K → Result L E → Type 0) → Knobs K → Result (Knobs L) E → Type 0
EachMade R k (Ok m) = R k.lift (Ok m.lift) × R k.gamma (Ok m.gamma) × R k.gain (Ok m.gain) × R k.contrast (Ok m.contrast)
EachMade R k (Err e) =
    R k.lift (Err e)
    ⊎ (Makes R k.lift × (R k.gamma (Err e) ⊎ (Makes R k.gamma × (R k.gain (Err e) ⊎ (Makes R k.gain × R k.contrast (Err e))))))
