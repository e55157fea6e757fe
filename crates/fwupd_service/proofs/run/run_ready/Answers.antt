use Rattle.std.proofs.Common.{◌≡◌, List, Some, ap, inl, map, subst, sym}
use Rattle.fw_facts.specs.declared.seen.Seen.{Seen}
use Rattle.history_keeper.specs.Signs.{signs_of}
use Rattle.update_log.specs.declared.facts.Facts.{Facts}
use Rattle.update_log.specs.Legal.{Legal}
use Rattle.update_log.specs.Known.{basis_of}
use Rattle.update_log.specs.Shows.{campaign_on}
use Rattle.daemon_core.specs.House.{shown_by}
use Rattle.fwupd_service.specs.Tops.{Left}
use Rattle.fwupd_service.proofs.TopLaws.{campaign-told, if-err, if-ok, stay-same}
use Rattle.fwupd_service.proofs.run.run_ready.Goals as goal

pub reported-requires-clause-legal : goal.reported-requires-clause-legal
reported-requires-clause-legal g c =
    let campaign = c.args.campaign in
    let played = if-ok _ _ _ c.play-outcome.ensures.played c.in-Ok.is in
    let facts : c.in-Ok.played.facts ≡ campaign.facts = if-ok _ _ _ c.play-outcome.ensures.facts c.in-Ok.is in
    let shown : List Seen = map shown_by campaign.boards.items in (
      shown,
      campaign.boots,
      subst (λ (x : Facts). Legal (campaign_on (basis_of x c.in-Ok.played.opening) shown campaign.boots) c.in-Ok.played.log) (sym facts) played.true_log.legal,
    )

pub returns-in-Ok-clause-went : goal.returns-in-Ok-clause-went
returns-in-Ok-clause-went g c =
    let campaign = c.args.campaign in
    let played = if-ok _ _ _ c.play-outcome.ensures.played c.in-Ok.is in
    let facts : c.in-Ok.played.facts ≡ campaign.facts = if-ok _ _ _ c.play-outcome.ensures.facts c.in-Ok.is in
    let stand = if-ok _ _ _ c.play-outcome.ensures.stand c.in-Ok.is in
    let plans = if-ok _ _ _ c.play-outcome.ensures.plans c.in-Ok.is in
    let out = c.in-Ok.played in
    let same = c.reported.ensures.left in
    let log : c.reported.result.log ≡ out.log = ap (λ (left : Left g.row.K.Denot). left.log) same in
    let opening : c.reported.result.opening ≡ out.opening = ap (λ (left : Left g.row.K.Denot). left.opening) same in
    let boards : c.reported.result.boards ≡ Some out.boards = ap (λ (left : Left g.row.K.Denot). left.boards) same in
    let keeper : c.reported.result.keeper ≡ out.keeper = ap (λ (left : Left g.row.K.Denot). left.keeper) same in
    rw (log, opening, boards, keeper, c.reported.ensures.shelves) (inl (campaign-told (signs_of g.K.Keeper.tells g.K.Keeper.doubt g.K.Keeper.faults) _ out.ran campaign out.opening out.log out.boards
    c.args.keeper out.keeper _ _ _ c.reported.result.status stand plans played (rw facts at c.reported.ensures.reported)))

pub returns-in-Err-clause-shelves : goal.returns-in-Err-clause-shelves
returns-in-Err-clause-shelves g c = rw (c.nothing.ensures.shelves, if-err _ _ _ c.play-outcome.ensures.unused c.in-Err.is) (stay-same _)

pub returns-in-Ok-clause-shelves : goal.returns-in-Ok-clause-shelves
returns-in-Ok-clause-shelves g c =
    let stand = if-ok _ _ _ c.play-outcome.ensures.stand c.in-Ok.is in
    rw c.reported.ensures.shelves stand.stay
