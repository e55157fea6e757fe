use Rattle.report_queue.proofs.Once.{sent-once}
use Rattle.report_queue.proofs.laws.sent_once.Goals as goal

pub returns : goal.returns
returns c = sent-once
