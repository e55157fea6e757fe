use Rattle.std.proofs.Common.{◌∙◌, None, refl, inl, inr}
use Rattle.fwupd_service.proofs.LoadLaws.{loaded-only, only-loaded}
use Rattle.fwupd_service.proofs.planning.plan_campaign.Goals as goal

pub print-status-requires-clause-history : goal.print-status-requires-clause-history
print-status-requires-clause-history g c = rw c.deref.ensures.value (loaded-only _ _ _ _ _ c.load-rows.ensures c.in-None.is).says.1

pub returns-in-None-clause-goes : goal.returns-in-None-clause-goes
returns-in-None-clause-goes g c =
    let e = c.loaded.ensures in
    inr (record {
      only = only-loaded _ None _ _ _ _ (loaded-only _ _ _ _ _ c.load-rows.ensures c.in-None.is) e.log e.opening e.boards e.keeper;
      printed = rw (e.status, e.opening) (rw c.deref.ensures.value at c.print-status.ensures.printed);
    })

pub returns-in-Some-clause-goes : goal.returns-in-Some-clause-goes
returns-in-Some-clause-goes g c =
    let e = c.loaded-in-Some.ensures in
    inl (record {
      stop = c.in-Some.stop;
      status_is = e.status ∙ c.load_status.ensures;
      only = only-loaded _ _ _ _ _ _ (rw c.in-Some.is at c.load-rows.ensures) e.log e.opening e.boards e.keeper;
      nothing = refl;
    })
