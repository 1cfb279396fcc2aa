use Rattle.std.proofs.Common.{length, refl, ap, ◌∙◌, rules}
use Rattle.history.proofs.Continuing.{none_asked, asked_next, performed_next, named_at, report-room}
use Rattle.history.proofs.perform.run.Goals as goal

pub loop-request-init : goal.loop-request-init
loop-request-init g c =
    record {
      law =
          none_asked g.P.Panels.has (length c.args.lists.now.work.now.slots.now) (length c.args.lists.now.report.now.slots.now)
          (g.P.Panels.stores c.args.panels.now);
      done = refl;
      work = refl;
      report = refl;
      lent = record { work = refl; report = refl; work_places = refl; report_places = refl };
    }

pub perform-requires : goal.perform-requires
perform-requires g c =
    let each = named_at g.P.Panels.has c.args.requests.now c.requires in
    search (rules, each)

pub loop-request-preserved : goal.loop-request-preserved
loop-request-preserved g c =
    let kept = c.loop-request.invariant in
    let here = c.perform.ensures in
    record {
      law =
          asked_next g.P.Panels.has _ _ _ _ c.args.requests.now c.loop-request.request-index c.request-item.result _ _ _
          kept.work kept.report c.loop-request-test.true c.request-item.is kept.law here.law;
      done =
          performed_next _ _ _ _ c.args.requests.now c.loop-request.request-index c.request-item.result _ _ _
          c.perform.result
          kept.work kept.report c.loop-request-test.true c.request-item.is kept.done
          (record { done = here.done; reported = here.reported; filled = here.filled; worked = here.worked });
      work = here.work ∙ kept.work;
      report =
          ap length here.reported
          ∙ report-room _ c.request-item.result _ _ _ c.loop-request.lists.report.now.slots.now here.done ∙ kept.report;
      lent =
          record {
            work = here.lent.work ∙ kept.lent.work;
            report = here.lent.report ∙ kept.lent.report;
            work_places = here.lent.work_places ∙ kept.lent.work_places;
            report_places = here.lent.report_places ∙ kept.lent.report_places;
          };
    }
