use Rattle.daemon_core.specs.Housed.{rows_before}
use Rattle.daemon_core.proofs.house_log.HouseLog.note.Given as goal

abbrev pub ghost-append : goal.ghost-append
ghost-append a = rows_before a.self.now
