use Rattle.std.proofs.Common.{ap, sym, ◌∙◌}
use Rattle.history_keeper.specs.Signs.{signs_of}
use Rattle.update_log.specs.Pasts.{past_of}
use Rattle.daemon_core.specs.Housed.{HouseLogView}
use Rattle.daemon_core.specs.Keeping.{keeper_faults}
use Rattle.daemon_core.proofs.ClaimAnswers.{faults-after}
use Rattle.daemon_core.proofs.JudgeRoom.{judged-after, off-same, row-there}
use Rattle.daemon_core.proofs.house.House.judge.Goals as goal

pub judge_standing-requires-clause-on : goal.judge_standing-requires-clause-on
judge_standing-requires-clause-on g c = off-same c.args.self.now.house_log c.reserve.new.self.house_log c.reserve.ensures.same ∙ sym c.is_off.ensures ∙ c.if-is_off.false

pub judge_standing-requires-clause-row : goal.judge_standing-requires-clause-row
judge_standing-requires-clause-row g c = row-there c.args.self.now.house_log c.reserve.new.self.house_log c.reserve.ensures.same c.args.entry c.requires.row

pub returns-clause-turn : goal.returns-clause-turn
returns-clause-turn g c =
    judged-after c.args.self.now.house_log c.reserve.new.self.house_log c.reserve.ensures.same c.args.client c.args.entry c.judge_standing.result
    c.judge_standing.new.self.house_log c.judge_standing.ensures.turn

pub returns-clause-fared : goal.returns-clause-fared
returns-clause-fared g c =
    faults-after (signs_of g.K.Keeper.tells g.K.Keeper.doubt g.K.Keeper.faults) c.args.self.now c.reserve.new.self c.judge_standing.new.self (ap (λ (a : HouseLogView). keeper_faults (past_of a.core.log)) c.reserve.ensures.same) c.reserve.ensures.elsewhere.keeper c.judge_standing.ensures.counts c.judge_standing.ensures.fared
