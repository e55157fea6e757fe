use Rattle.std.proofs.Common.{◌∙◌}
use Rattle.fwupd_service.proofs.others.run_remotes.Goals as goal

pub returns-clause-ends : goal.returns-clause-ends
returns-clause-ends g c = record {
  ended = c.remotes-ended.result;
  status_is = c.nothing.ensures.status ∙ c.ended_status.ensures;
  ends = c.remotes-ended.ensures.ends;
  nothing = record {
    log = c.nothing.ensures.log;
    opening = c.nothing.ensures.opening;
    boards = c.nothing.ensures.boards;
    keeper_is = c.nothing.ensures.keeper;
  };
}
