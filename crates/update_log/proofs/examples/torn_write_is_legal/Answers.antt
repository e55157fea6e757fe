use Rattle.update_log.proofs.WorkedLogs.{torn-legal}
use Rattle.update_log.proofs.examples.torn_write_is_legal.Goals as goal

pub returns : goal.returns
returns c = torn-legal
