use Rattle.std.proofs.Common.{◌≡◌, ap, sym, ◌∙◌}
use Rattle.std.specs.Prelude.{not}
use Rattle.history_keeper.specs.Signs.{signs_of}
use Rattle.update_log.specs.Verdicts.{case_of, verdict}
use Rattle.update_log.specs.declared.decision.Stage.{Stage}
use Rattle.update_log.specs.Pasts.{meets_fault}
use Rattle.daemon_core.specs.Housed.{basis_in, HouseLogView, Housed, past_in}
use Rattle.daemon_core.specs.Keeping.{keeper_faults}
use Rattle.daemon_core.specs.Quiet.{is_quiet}
use Rattle.daemon_core.proofs.ClaimAnswers.{faults-after}
use Rattle.daemon_core.proofs.PuttingOff.{quiet-faults, refusal-other}
use Rattle.daemon_core.proofs.house.House.schedule.Goals as goal
use Rattle.daemon_core.proofs.Fared.{fared-same}

pub put_off-requires-clause-accepted : goal.put_off-requires-clause-accepted
put_off-requires-clause-accepted g c =
    let e : c.self.inside.house_log ≡ c.enter.new.self.house_log = ap (λ (h : Housed g.row.K.Denot). h.house_log) c.self.view_is in (
      c.in-Accept.device,
      c.in-Accept.release,
      c.in-Accept.blocks,
      ap (λ (a : HouseLogView). verdict (basis_in a) (past_in a) c.args.client c.args.request.now Stage.Schedule) (sym e) ∙ sym c.in-Accept.ensures,
    )

pub note-requires-in-Refused-clause-quiet : goal.note-requires-in-Refused-clause-quiet
note-requires-in-Refused-clause-quiet g c =
    let a : HouseLogView = c.self.inside.house_log in
    let r = refusal-other (case_of (basis_in a) (past_in a) c.args.client c.args.request.now Stage.Schedule) c.in-Refused.refusal (sym c.in-Refused.ensures) in
    ap is_quiet c.put_off-in-Refused.ensures ∙ ap not r

pub returns-in-Refused-clause-fared : goal.returns-in-Refused-clause-fared
returns-in-Refused-clause-fared g c =
    let a : HouseLogView = c.self.inside.house_log in
    let r = refusal-other (case_of (basis_in a) (past_in a) c.args.client c.args.request.now Stage.Schedule) c.in-Refused.refusal (sym c.in-Refused.ensures) in
    fared-same (signs_of g.K.Keeper.tells g.K.Keeper.doubt g.K.Keeper.faults) c.args.self.now c.note-in-Refused.new.self
    (quiet-faults c.args.client c.put_off-in-Refused.result c.enter.new.self.house_log c.note-in-Refused.new.self.house_log c.note-in-Refused.ensures.appended (ap meets_fault c.put_off-in-Refused.ensures ∙ r)
    ∙ ap (λ (x : HouseLogView). keeper_faults (past_in x)) c.in_ok-enter.ensures.entered.same)
    (c.note-in-Refused.ensures.elsewhere.keeper ∙ c.in_ok-enter.ensures.elsewhere.keeper)

pub returns-in-Accept-clause-fared : goal.returns-in-Accept-clause-fared
returns-in-Accept-clause-fared g c =
    faults-after (signs_of g.K.Keeper.tells g.K.Keeper.doubt g.K.Keeper.faults) c.args.self.now c.enter.new.self c.put_off.new.self (ap (λ (x : HouseLogView). keeper_faults (past_in x)) c.in_ok-enter.ensures.entered.same) c.in_ok-enter.ensures.elsewhere.keeper c.put_off.ensures.counts c.put_off.ensures.fared
