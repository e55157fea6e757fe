use Rattle.std.proofs.Common.{◌∙◌, refl, inl, inr}
use Rattle.fwupd_service.proofs.LoadLaws.{loaded-only, only-loaded, planned-can-be-played, plan-is-ready}
use Rattle.fwupd_service.proofs.TopLaws.{stay-same}
use Rattle.fwupd_service.proofs.update.update_campaign.Goals as goal

pub returns-in-Some-clause-goes : goal.returns-in-Some-clause-goes
returns-in-Some-clause-goes g c =
    let e = c.loaded.ensures in
    inl (record {
      stop = c.in-Some.stop;
      status_is = e.status ∙ c.load_status.ensures;
      only = only-loaded _ _ _ _ _ _ (rw c.in-Some.is at c.load-rows.ensures) e.log e.opening e.boards e.keeper;
      nothing = refl;
    })

pub run_ready-requires-clause-ready : goal.run_ready-requires-clause-ready
run_ready-requires-clause-ready g c = λ κs lives.
    planned-can-be-played c.args.campaign c.load-rows.result.rows.items c.args.tag c.in-Ok.made (rw c.deref.ensures.value at c.in-Ok.ensures) c.requires.ready

pub run_ready-requires-clause-shelves : goal.run_ready-requires-clause-shelves
run_ready-requires-clause-shelves g c = λ κs lives. plan-is-ready _ _ _ _ _ c.in-Ok.ensures c.requires.shelves

pub returns-in-Ok-clause-goes : goal.returns-in-Ok-clause-goes
returns-in-Ok-clause-goes g c = inr (inr (record {
  rows = c.load-rows.result.rows.items;
  middle = c.load-rows.new.keeper;
  loaded = loaded-only _ _ _ _ _ c.load-rows.ensures c.in-None.is;
  made = c.in-Ok.made;
  plays = rw c.deref.ensures.value at c.in-Ok.ensures;
  went = c.run_ready.ensures.went;
}))

pub returns-in-Some-clause-shelves : goal.returns-in-Some-clause-shelves
returns-in-Some-clause-shelves g c = rw c.loaded.ensures.shelves (stay-same _)

pub returns-in-Err-clause-shelves : goal.returns-in-Err-clause-shelves
returns-in-Err-clause-shelves g c = rw c.loaded-in-Err.ensures.shelves (stay-same _)
