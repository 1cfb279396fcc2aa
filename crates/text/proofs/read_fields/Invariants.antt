use Rattle.std.specs.Fn.{FnReturnsAt}
use Rattle.std.specs.Option.{option_map}
use Rattle.text.proofs.ReadFields.{Reading}
use Rattle.text.proofs.read_fields.Given as goal

abbrev pub invariant-loop-field : goal.invariant-loop-field
invariant-loop-field g l =
    Reading (FnReturnsAt g.F.Fn l.fn.read) l.fn.mark l.fn.blank g.row.N l.fn.text l.field-index l.field-items
    (option_map (λ x. x.now) l.rest)
