-- The exit status of each way in which a run ends.
use Rattle.std.specs.Prelude.{ℕ}
use Rattle.run_status.specs.declared.status.Status.{Status}
use Rattle.run_status.specs.declared.status.Status.TheVariants as statuses

abbrev pub exit_code : Status → ℕ
exit_code statuses.Done = 0
exit_code statuses.Usage = 2
exit_code statuses.TooLong = 3
exit_code (statuses.Document place reason) = 3
exit_code (statuses.TooManyClients asked shelves) = 3
exit_code statuses.SourceFault = 4
exit_code statuses.SinkFault = 5
exit_code statuses.NoMemory = 6
exit_code statuses.KeeperFault = 7
exit_code (statuses.Plugins fault) = 8
exit_code (statuses.BadHistory entry) = 9
