use Rattle.update_log.proofs.WorkedLogs.{install-legal}
use Rattle.update_log.proofs.examples.install_is_legal.Goals as goal

pub returns : goal.returns
returns c = install-legal
