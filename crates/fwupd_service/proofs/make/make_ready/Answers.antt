use Rattle.std.proofs.Common.{◌≡◌, ◌∙◌, [], List, Some, ap, inl}
use Rattle.client_plays.specs.Has.{shelves_told}
use Rattle.client_plays.specs.Tools.{ShelfTold}
use Rattle.outer_traits.specs.Plans.{MemoryFiles}
use Rattle.fwupd_service.specs.Makes.{own_shelves, own_signs}
use Rattle.fwupd_service.specs.Tops.{Left}
use Rattle.fwupd_service.proofs.MakeShelves.{told-own}
use Rattle.fwupd_service.proofs.TopLaws.{campaign-told, if-ok}
use Rattle.fwupd_service.proofs.Unfailing.{made-went}
use Rattle.fwupd_service.proofs.make.make_ready.Goals as goal

pub returns-in-Ok-outcome-clause-went : goal.returns-in-Ok-outcome-clause-went
returns-in-Ok-outcome-clause-went g c =
    let out = c.in-Ok-outcome.played in
    let campaign = c.args.campaign in
    let files = λ (m : MemoryFiles). Some m.files in
    let faults = λ (m : MemoryFiles). m.plan.faults in
    let told : shelves_told files faults c.in-Ok.own.items ≡ own_shelves c.args.clients =
    ap (shelves_told files faults) (if-ok _ _ _ c.own_shelves.ensures c.in-Ok.is) ∙ told-own c.args.clients in
    let was = if-ok _ _ _ c.play-outcome.ensures.played c.in-Ok-outcome.is in
    let played = rw (told, c.new-own_keeper.ensures) at was in
    let kept : List ShelfTold = shelves_told files faults c.play-outcome.result.1.items in
    let stood = if-ok _ _ _ c.play-outcome.ensures.stand c.in-Ok-outcome.is in
    let stand = rw told at stood in
    let plans = if-ok _ _ _ c.play-outcome.ensures.plans c.in-Ok-outcome.is in
    let same = c.summed.ensures.left in
    let log : c.summed.result.log ≡ out.log = ap (λ (left : Left g.row.K.Denot). left.log) same in
    let opening : c.summed.result.opening ≡ out.opening = ap (λ (left : Left g.row.K.Denot). left.opening) same in
    let boards : c.summed.result.boards ≡ Some out.boards = ap (λ (left : Left g.row.K.Denot). left.boards) same in
    let keeper : c.summed.result.keeper ≡ c.args.keeper = ap (λ (left : Left g.row.K.Denot). left.keeper) same in
    rw (log, opening, boards) (inl (made-went _ _ _ _ _ _ _ out.keeper kept _ _ keeper
    (campaign-told own_signs _ out.ran campaign out.opening out.log out.boards [] out.keeper _
    (record { shelves = own_shelves c.args.clients; written = g.T.Sink.taken c.args.out.now }) (record { shelves = kept; written = g.T.Sink.taken c.summed.new.out }) c.summed.result.status stand plans played c.summed.ensures.reported)))
