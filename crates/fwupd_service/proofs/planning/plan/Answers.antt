use Rattle.std.proofs.Common.{◌≡◌, length, refl, sym, inl, inr, ◌∙◌}
use Rattle.std.proofs.lemmas.List.{length-map}
use Rattle.client_plays.specs.Has.{shelves_told}
use Rattle.fwupd_service.proofs.StartLaws.{opened-many, stopped-many}
use Rattle.fwupd_service.proofs.planning.plan.Goals as goal

pub returns-in-Ok-clause-ends : goal.returns-in-Ok-clause-ends
returns-in-Ok-clause-ends g c =
    let shelves = shelves_told g.P.Shelf.files g.P.Shelf.faults c.args.shelves.items in
    let count : c.len.result ≡ length shelves = c.len.ensures ∙ c.args.shelves.ok.0 ∙ sym (length-map _ _) in
    inr (record {
      campaign = c.in-Ok.ready.campaign;
      opened = opened-many c.len.result (length shelves) count c.in-Ok.ensures.opened;
      goes = c.plan_campaign.ensures.goes;
    })

pub returns-in-Err-clause-ends : goal.returns-in-Err-clause-ends
returns-in-Err-clause-ends g c =
    let shelves = shelves_told g.P.Shelf.files g.P.Shelf.faults c.args.shelves.items in
    let count : c.len.result ≡ length shelves = c.len.ensures ∙ c.args.shelves.ok.0 ∙ sym (length-map _ _) in
    inl (record {
      stop = c.in-Err.stop;
      status_is = c.nothing.ensures.status ∙ c.stop_status.ensures;
      stopped = stopped-many c.len.result (length shelves) count c.in-Err.ensures.stopped;
      nothing = record {
        log = c.nothing.ensures.log;
        opening = c.nothing.ensures.opening;
        boards = c.nothing.ensures.boards;
        keeper_is = c.nothing.ensures.keeper;
        nothing = refl;
      };
    })
