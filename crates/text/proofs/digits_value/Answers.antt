use Rattle.std.proofs.Common.{rules, arith}
use Rattle.text.proofs.Numerals.{reading_more}
use Rattle.text.proofs.digits_value.Goals as goal

pub loop-digit-preserved : goal.loop-digit-preserved
loop-digit-preserved c =
    reading_more c.args.text.now c.loop-digit.digit-index c.loop-digit.number c.saturating_add-number.result
    (omega arith) (search rules) (omega arith) c.loop-digit.invariant
