use Rattle.update_log.proofs.WorkedLogs.{offline-legal}
use Rattle.update_log.proofs.examples.offline_install_is_legal.Goals as goal

pub returns : goal.returns
returns c = offline-legal
