use Rattle.std.proofs.Common.{ap}
use Rattle.history_keeper.specs.Signs.{signs_of}
use Rattle.daemon_core.specs.Housed.{HouseLogView, past_in}
use Rattle.daemon_core.specs.Keeping.{keeper_faults}
use Rattle.daemon_core.proofs.ClaimAnswers.{faults-after}
use Rattle.daemon_core.proofs.ClaimExits.{stopped-faults}
use Rattle.daemon_core.proofs.Fared.{fared-same}
use Rattle.daemon_core.proofs.house.House.judge_done.Goals as goal

pub returns-in_err-enter-clause-fared : goal.returns-in_err-enter-clause-fared
returns-in_err-enter-clause-fared g c =
    fared-same (signs_of g.K.Keeper.tells g.K.Keeper.doubt g.K.Keeper.faults) c.args.self.now c.enter.new.self
    (stopped-faults (Unit {0}) c.args.client 1 c.in_err-enter.field-0.0 c.args.self.now.house_log c.enter.new.self.house_log c.in_err-enter.ensures.entered) c.in_err-enter.ensures.elsewhere.keeper

pub returns-in_err-stored-clause-fared : goal.returns-in_err-stored-clause-fared
returns-in_err-stored-clause-fared g c =
    faults-after (signs_of g.K.Keeper.tells g.K.Keeper.doubt g.K.Keeper.faults) c.args.self.now c.enter.new.self c.judge_so.new.self (ap (λ (x : HouseLogView). keeper_faults (past_in x)) c.in_ok-enter.ensures.entered.same) c.in_ok-enter.ensures.elsewhere.keeper c.judge_so.ensures.counts c.judge_so.ensures.fared

pub returns-clause-fared : goal.returns-clause-fared
returns-clause-fared g c =
    faults-after (signs_of g.K.Keeper.tells g.K.Keeper.doubt g.K.Keeper.faults) c.args.self.now c.enter.new.self c.judge_so.new.self (ap (λ (x : HouseLogView). keeper_faults (past_in x)) c.in_ok-enter.ensures.entered.same) c.in_ok-enter.ensures.elsewhere.keeper c.judge_so.ensures.counts c.judge_so.ensures.fared
