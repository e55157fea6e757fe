use Rattle.report_queue.proofs.Following.{calls-follow}
use Rattle.report_queue.proofs.laws.calls_follow.Goals as goal

pub returns : goal.returns
returns c = calls-follow
