use Rattle.std.proofs.Common.{◌≡◌, ◌≤◌, length, refl, sym, inl, inr, ap, ◌∙◌, arith}
use Rattle.std.proofs.lemmas.List.{length-map}
use Rattle.campaign_inputs.specs.Opened.{asked_for}
use Rattle.client_plays.specs.Has.{shelves_told}
use Rattle.fwupd_service.proofs.StartLaws.{can-be-played, is-ready-for, opened-many, stopped-many}
use Rattle.fwupd_service.proofs.TopLaws.{stay-same}
use Rattle.fwupd_service.proofs.update.update.Goals as goal

pub update_campaign-requires-clause-ready : goal.update_campaign-requires-clause-ready
update_campaign-requires-clause-ready g c =
    let opened = c.in-Ok.ensures.opened in
    λ κs lives. can-be-played opened.site _ _ c.in-Ok.ready.campaign opened.states.can_run opened.settled c.in-Ok.ensures.begins

pub update_campaign-requires-clause-shelves : goal.update_campaign-requires-clause-shelves
update_campaign-requires-clause-shelves g c =
    let opened = c.in-Ok.ensures.opened in
    let count : c.len.result ≡ length c.args.shelves.items = c.len.ensures ∙ c.args.shelves.ok.0 in
    let enough : asked_for opened.site ≤ c.len.result = opened.allowed in
    λ κs lives. is-ready-for opened.site _ _ c.in-Ok.ready.campaign (length c.args.shelves.items) (length c.in-Ok.ready.plugins.items) opened.states.can_run opened.settled
    (omega arith) (omega arith) (ap length c.in-Ok.ensures.plugins ∙ length-map _ _)

pub returns-in-Ok-clause-ends : goal.returns-in-Ok-clause-ends
returns-in-Ok-clause-ends g c =
    let shelves = shelves_told g.P.Shelf.files g.P.Shelf.faults c.args.shelves.items in
    let count : c.len.result ≡ length shelves = c.len.ensures ∙ c.args.shelves.ok.0 ∙ sym (length-map _ _) in
    inr (record {
      campaign = c.in-Ok.ready.campaign;
      opened = opened-many c.len.result (length shelves) count c.in-Ok.ensures.opened;
      started = c.in-Ok.ready.plugins.items;
      started_are = record { running = c.in-Ok.ensures.running; vetoes = c.in-Ok.ensures.plugins };
      goes = c.update_campaign.ensures.goes;
    })

pub returns-in-Err-clause-ends : goal.returns-in-Err-clause-ends
returns-in-Err-clause-ends g c =
    let shelves = shelves_told g.P.Shelf.files g.P.Shelf.faults c.args.shelves.items in
    let count : c.len.result ≡ length shelves = c.len.ensures ∙ c.args.shelves.ok.0 ∙ sym (length-map _ _) in
    inl (record {
      stop = c.in-Err.stop;
      status_is = c.nothing.ensures.status ∙ c.stop_status.ensures;
      stopped = stopped-many c.len.result (length shelves) count c.in-Err.ensures.stopped;
      nothing = record {
        log = c.nothing.ensures.log;
        opening = c.nothing.ensures.opening;
        boards = c.nothing.ensures.boards;
        keeper_is = c.nothing.ensures.keeper;
        nothing = refl;
      };
    })

pub returns-in-Err-clause-shelves : goal.returns-in-Err-clause-shelves
returns-in-Err-clause-shelves g c = rw c.nothing.ensures.shelves (stay-same _)
