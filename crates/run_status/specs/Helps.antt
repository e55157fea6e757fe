-- Which help belongs to which status.
use Rattle.std.specs.Prelude.{Option, Some, None}
use Rattle.run_status.specs.declared.status.Status.{Status}
use Rattle.run_status.specs.declared.status.Status.TheVariants as statuses
use Rattle.run_status.specs.declared.help.Help.{Help}
use Rattle.run_status.specs.declared.help.Help.TheVariants as helps

-- the commands for words that are none, the meaning of the reason for a fault of the document, and nothing for
-- a status whose line says enough
abbrev pub help_for : Status → Option Help
help_for statuses.Usage = Some helps.Commands
help_for (statuses.Document place reason) = Some (helps.Meaning reason)
help_for statuses.Done = None
help_for statuses.SourceFault = None
help_for statuses.TooLong = None
help_for (statuses.TooManyClients asked shelves) = None
help_for (statuses.Plugins fault) = None
help_for (statuses.BadHistory entry) = None
help_for statuses.KeeperFault = None
help_for statuses.SinkFault = None
help_for statuses.NoMemory = None
