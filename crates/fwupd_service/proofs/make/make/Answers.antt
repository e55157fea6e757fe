use Rattle.std.proofs.Common.{◌≡◌, length, refl, inl, inr, ap, ◌∙◌, arith}
use Rattle.std.proofs.lemmas.List.{length-map}
use Rattle.std.proofs.lemmas.List.FromFn.{length-map-range_with_len}
use Rattle.site_making.specs.Made.{made_site}
use Rattle.fwupd_service.proofs.StartLaws.{can-be-played, is-ready-for}
use Rattle.fwupd_service.proofs.make.make.Goals as goal

pub make_ready-requires-clause-ready : goal.make_ready-requires-clause-ready
make_ready-requires-clause-ready g c =
    let e = c.in-Ok.ensures in λ κs lives. can-be-played (made_site c.args.boards c.args.clients) _ _ c.in-Ok.ready.campaign e.can_run e.settled e.begins

pub make_ready-requires-clause-shelves : goal.make_ready-requires-clause-shelves
make_ready-requires-clause-shelves g c =
    let e = c.in-Ok.ensures in
    let same : length (made_site c.args.boards c.args.clients).features ≡ c.args.clients = length-map-range_with_len _ 1 c.args.clients in
    λ κs lives. is-ready-for (made_site c.args.boards c.args.clients) _ _ c.in-Ok.ready.campaign c.args.clients (length c.in-Ok.ready.plugins.items) e.can_run e.settled
    (omega arith) (omega (arith, same)) (ap length e.plugins ∙ length-map _ _)

pub returns-in-Ok-clause-ends : goal.returns-in-Ok-clause-ends
returns-in-Ok-clause-ends g c = inr (record {
  campaign = c.in-Ok.ready.campaign;
  settled = c.in-Ok.ensures.settled;
  started = c.in-Ok.ready.plugins.items;
  started_are = record { running = c.in-Ok.ensures.running; vetoes = c.in-Ok.ensures.plugins };
  went = c.make_ready.ensures.went;
})

pub returns-in-Err-clause-ends : goal.returns-in-Err-clause-ends
returns-in-Err-clause-ends g c = inl (record {
  fault = c.in-Err.fault;
  status_is = c.nothing.ensures.status ∙ c.order_status.ensures;
  cause = c.in-Err.ensures.refused;
  nothing = record {
    log = c.nothing.ensures.log;
    opening = c.nothing.ensures.opening;
    boards = c.nothing.ensures.boards;
    keeper_is = c.nothing.ensures.keeper;
    nothing = refl;
  };
})
