-- Which keepers a command is about.
use Rattle.std.specs.Prelude.{Option, Some, None}
use Rattle.command_words.specs.declared.command.Command.{Command}
use Rattle.command_words.specs.declared.command.Command.TheVariants as commands
use Rattle.fwupd_service.specs.declared.keeping.Kept.{Kept}
use Rattle.fwupd_service.specs.declared.keeping.Kept.TheVariants.{Nothing, History, HistoryAndMarks}

-- `run` and `update` play over the history, `plan` reads it, and `report` reads it and marks what it reports.
abbrev pub kept_by : Option Command → Kept
kept_by None = Nothing
kept_by (Some commands.Run) = History
kept_by (Some (commands.Plan tag)) = History
kept_by (Some (commands.Update tag)) = History
kept_by (Some commands.Check) = Nothing
kept_by (Some commands.Remotes) = Nothing
kept_by (Some (commands.Explain port version)) = Nothing
kept_by (Some (commands.Ids texts)) = Nothing
kept_by (Some (commands.Make boards clients)) = Nothing
kept_by (Some (commands.Report max)) = HistoryAndMarks
