use Rattle.std.proofs.Common.{◌≡◌, ap, sym, ◌∙◌}
use Rattle.update_log.specs.Legal.{ask_stage}
use Rattle.update_log.specs.Verdicts.{verdict}
use Rattle.update_log.specs.declared.decision.Stage.{Stage}
use Rattle.daemon_core.specs.Housed.{basis_in, HouseLogView, Housed, past_in}
use Rattle.daemon_core.proofs.house.House.ask_for.Goals as goal

pub hold-hold-requires-clause-accepted : goal.hold-hold-requires-clause-accepted
hold-hold-requires-clause-accepted g c =
    let e : c.self.inside.house_log ≡ c.enter.new.self.house_log = ap (λ (h : Housed g.row.K.Denot). h.house_log) c.self.view_is in (
      c.in-Accept.device,
      ap (λ (a : HouseLogView). verdict (basis_in a) (past_in a) c.args.client c.args.request.now (ask_stage c.args.pending)) (sym e)
          ∙ sym (ap (λ (s : Stage). verdict (basis_in c.self.inside.house_log) (past_in c.self.inside.house_log) c.args.client c.args.request.now s) c.ask_stage.ensures)
          ∙ sym c.in-Accept.ensures,
    )
