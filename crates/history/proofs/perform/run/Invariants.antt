use Rattle.std.proofs.Common.{◌≡◌, length, take}
use Rattle.history.specs.Requests.{AsksAll, Continues, PerformsAll, StayLent}
use Rattle.history.proofs.perform.run.Given as goal

-- the requests so far make a run longer and are done, and both lists are those that were lent
abbrev pub invariant-loop-request : goal.invariant-loop-request
invariant-loop-request g l =
    record {
      law :
          Continues g.P.Panels.has
          (AsksAll (length l.initial.lists.work.now.slots.now) (length l.initial.lists.report.now.slots.now)
          (take l.request-index l.requests)) (g.P.Panels.stores l.initial.panels) (g.P.Panels.stores l.panels);
      done :
          PerformsAll (length l.initial.lists.work.now.slots.now) (length l.initial.lists.report.now.slots.now)
          (take l.request-index l.requests) (record { stores = g.P.Panels.stores l.initial.panels; lists = l.initial.lists })
          (record { stores = g.P.Panels.stores l.panels; lists = l.lists });
      work : length l.lists.work.now.slots.now ≡ length l.initial.lists.work.now.slots.now;
      report : length l.lists.report.now.slots.now ≡ length l.initial.lists.report.now.slots.now;
      lent : StayLent l.initial.lists l.lists;
    }
