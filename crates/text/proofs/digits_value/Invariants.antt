use Rattle.text.proofs.Numerals.{Reading}
use Rattle.text.proofs.digits_value.Given as goal

abbrev pub invariant-loop-digit : goal.invariant-loop-digit
invariant-loop-digit l = Reading l.text l.digit-index l.number
