use Rattle.std.proofs.Common.{rules}
use Rattle.paths.proofs.ReadSteps.{parsed_as-none, parsed_from-made}
use Rattle.paths.proofs.notation.PathTryFromRefSliceU8.try_from.Goals as goal

pub returns-in_err-ok_or : goal.returns-in_err-ok_or
returns-in_err-ok_or c = parsed_as-none c.args.text.now c.from_residual.result (search rules) (search rules)

pub returns : goal.returns
returns c = parsed_from-made c.args.text.now c.in_ok-ok_or.field-0 c.try_from.result (search rules) c.try_from.ensures
