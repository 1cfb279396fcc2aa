use Rattle.std.proofs.Common.{Some, None, ap, sym, refl, subst, ◌∙◌, rules}
use Rattle.std.specs.Option.{option_map}
use Rattle.std.specs.Fn.{FnReturnsAt}
use Rattle.std.proofs.lemmas.Fn.{says_at}
use Rattle.text.specs.Fields.{FieldsRead}
use Rattle.text.proofs.ReadFields.{one_more, unread, none_more, all_read, too_many, no_field}
use Rattle.text.proofs.read_fields.Goals as goal
use Rattle.text.proofs.read_fields.Goals.{in-Some+in_ok-field, in_default}

pub loop-field-preserved : goal.loop-field-preserved
loop-field-preserved g c =
    elim c.match-rest.branch [
      | in-Some+in_ok-field w ↦
          one_more w.in_ok-field.field-0 c.loop-field.invariant c.loop-field-test.true
          (ap (option_map (λ x. x.now)) w.in-Some.is)
          (subst (λ t. FnReturnsAt g.F.Fn c.args.read t (Some w.in_ok-field.field-0)) w.split_first.ensures.before
          (says_at g.F.Fn w.in_ok-field.ensures refl))
          w.field-items-is (ap (option_map (λ x. x.now)) w.rest-is ∙ w.split_first.ensures.after)
      | in_default w ↦
          none_more _ c.loop-field.invariant c.loop-field-test.true (ap (option_map (λ x. x.now)) w.in_default.is)
          w.field-items-is (search (rules, unread c.loop-field.invariant c.loop-field-test.true))
          (ap (option_map (λ x. x.now)) w.rest-is)
    ]

pub returns-in_err-field : goal.returns-in_err-field
returns-in_err-field g c =
    subst (λ r. FieldsRead (FnReturnsAt g.F.Fn c.args.read) c.args.mark c.args.blank g.row.N (Some c.args.text.now) r)
    (sym c.from_residual.ensures)
    (no_field c.loop-field.invariant c.loop-field-test.true (ap (option_map (λ x. x.now)) c.in-Some.is)
    (subst (λ t. FnReturnsAt g.F.Fn c.args.read t None) c.split_first.ensures.before
    (says_at g.F.Fn c.in_err-field.ensures refl)))

pub returns-in-None : goal.returns-in-None
returns-in-None g c =
    all_read c.loop-field.invariant c.loop-field-test.false (ap (option_map (λ x. x.now)) c.in-None.is)

pub returns : goal.returns
returns g c =
    too_many c.loop-field.invariant c.loop-field-test.false (ap (option_map (λ x. x.now)) c.in-Some-rest.is)
