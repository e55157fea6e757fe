use Rattle.std.proofs.Common.{List, ℕ, refl, subst}
use Rattle.fwupd_service.specs.Updates.{WasPrinted}
use Rattle.fwupd_service.proofs.LoadLaws.{plan-text}
use Rattle.fwupd_service.proofs.planning.print.Goals as goal

pub returns-in-Ok-clause-printed : goal.returns-in-Ok-clause-printed
returns-in-Ok-clause-printed g c =
    subst (λ (text : List ℕ). WasPrinted text c.print_first.result (g.T.Sink.taken c.args.out.now) (g.T.Sink.taken c.print_first.new.out))
    (plan-text c.args.campaign.now c.args.rows.now c.args.tag.now c.in-Ok.first c.in-Ok.first.state.views c.in-Ok.first.plan.steps c.in-Ok.ensures refl refl) c.print_first.ensures.printed
