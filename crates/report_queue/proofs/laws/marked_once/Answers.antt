use Rattle.report_queue.proofs.Once.{marked-once}
use Rattle.report_queue.proofs.laws.marked_once.Goals as goal

pub returns : goal.returns
returns c = marked-once
