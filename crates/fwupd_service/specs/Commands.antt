-- What a run of the program comes to, by its words.
use Rattle.std.specs.Prelude.{◌≡◌, ◌⊎◌, ◌≤◌, ℕ, List, [], Option, Some, None}
use Rattle.outer_traits.specs.Sinks.{Took, TookFront}
use Rattle.fw_facts.specs.declared.machine.MachineFacts.{MachineFacts}
use Rattle.history_keeper.specs.declared.row.Row.{Row}
use Rattle.history_keeper.specs.Keepers.{StillTold}
use Rattle.history_keeper.specs.Signs.{KeeperSigns}
use Rattle.plugin_order.specs.declared.sheet.PluginSheet.{PluginSheet}
use Rattle.update_log.specs.declared.facts.PluginVetoes.{PluginVetoes}
use Rattle.command_outputs.specs.Printed.{ids_output}
use Rattle.command_words.specs.declared.command.Command.{Command}
use Rattle.command_words.specs.declared.command.Command.TheVariants as commands
use Rattle.document_commands.specs.declared.ended.Ended.{Ended}
use Rattle.document_commands.specs.declared.ended.Ended.TheVariants as ends
use Rattle.document_commands.specs.Ends.{CheckEnds, RemotesEnds}
use Rattle.document_commands.specs.Explains.{ExplainEnds}
use Rattle.run_status.specs.declared.status.Status.{Status}
use Rattle.run_status.specs.declared.status.Status.TheVariants as statuses
use Rattle.fwupd_service.specs.Makes.{MakeEnds}
use Rattle.fwupd_service.specs.Plugged.{Plugins}
use Rattle.update_plans.specs.Tags.{IsTag}
use Rattle.fwupd_service.specs.Tops.{Left, NothingBegan, RunEnds}
use Rattle.fwupd_service.specs.Updates.{PlanEnds, UpdateEnds}
use Rattle.fwupd_service.specs.Worlds.{World}

-- The shelves are those that came, but under `run` and `update`, whose clients fetch from them.
abbrev pub KeepsShelves : {P : Type 0} → Option Command → List P → List P → Type 0
KeepsShelves None old new = new ≡ old
KeepsShelves (Some commands.Run) old new = Unit {0}
KeepsShelves (Some (commands.Update tag)) old new = Unit {0}
KeepsShelves (Some (commands.Plan tag)) old new = new ≡ old
KeepsShelves (Some commands.Check) old new = new ≡ old
KeepsShelves (Some commands.Remotes) old new = new ≡ old
KeepsShelves (Some (commands.Explain port version)) old new = new ≡ old
KeepsShelves (Some (commands.Ids texts)) old new = new ≡ old
KeepsShelves (Some (commands.Make boards clients)) old new = new ≡ old
KeepsShelves (Some (commands.Report max)) old new = new ≡ old

-- No campaign began, and the keeper is as it came.
pub record NothingHappened {K : Type 0} (keeper : K) (left : Left K) : Type 0 where
  pub log : left.log ≡ []
  pub opening : left.opening ≡ []
  pub boards : left.boards ≡ None
  pub keeper_is : left.keeper ≡ keeper

-- How a status tells the end of a command over a document.
abbrev pub ended_status : Ended → Status
ended_status ends.Done = statuses.Done
ended_status ends.SourceFault = statuses.SourceFault
ended_status ends.TooLong = statuses.TooLong
ended_status (ends.Document place reason) = statuses.Document place reason
ended_status (ends.Plugins fault) = statuses.Plugins fault
ended_status ends.SinkFault = statuses.SinkFault
ended_status ends.NoMemory = statuses.NoMemory

-- `check`, `remotes` and `explain`: the status tells how the command ended over what came, and nothing else happened.
pub record Checked {K : Type 0} (status : Status) (keeper : K) (left : Left K) (before after : World) : Type 0 where
  pub ended : Ended
  pub status_is : status ≡ ended_status ended
  pub ends : CheckEnds ended before.unread after.unread before.written after.written
  pub nothing : NothingHappened keeper left

pub record RemotesTold {K : Type 0} (status : Status) (keeper : K) (left : Left K) (before after : World) : Type 0 where
  pub ended : Ended
  pub status_is : status ≡ ended_status ended
  pub ends : RemotesEnds ended before.unread after.unread before.written after.written
  pub nothing : NothingHappened keeper left

pub record Explained {K : Type 0} (sheets : List PluginSheet) (vetoes : MachineFacts → List PluginVetoes) (port version : List ℕ) (status : Status) (keeper : K) (left : Left K) (before after : World) : Type 0 where
  pub ended : Ended
  pub status_is : status ≡ ended_status ended
  pub ends : ExplainEnds sheets vetoes port version ended before.unread after.unread before.written after.written
  pub nothing : NothingHappened keeper left

-- What was written of a text under a status: all of it, a front of it, or nothing.
abbrev pub Written : List ℕ → Status → Option (List ℕ) → Option (List ℕ) → Type 0
Written text statuses.Done before after = Took text before after
Written text statuses.SinkFault before after = TookFront text before after
Written text statuses.NoMemory before after = after ≡ before
Written text _ before after = ⊥

-- `ids`: nothing was read, and a line for each text was written.
pub record Identified {K : Type 0} (texts : List (List ℕ)) (status : Status) (keeper : K) (left : Left K) (before after : World) : Type 0 where
  pub unread : after.unread ≡ before.unread
  pub written : Written (ids_output texts) status before.written after.written
  pub nothing : NothingHappened keeper left

-- Nothing was read, and nothing else happened.
pub record NothingDone {K : Type 0} (keeper : K) (left : Left K) (before after : World) : Type 0 where
  pub unread : after.unread ≡ before.unread
  pub nothing : NothingBegan keeper left before.written after.written

-- `report`: nothing was read from the source, no campaign began, and what the keeper tells it told as it came.
pub record Looked {K : Type 0} (told : K → List Row → Type 0) (keeper : K) (left : Left K) (before after : World) : Type 0 where
  pub unread : after.unread ≡ before.unread
  pub log : left.log ≡ []
  pub boards : left.boards ≡ None
  pub rows_stay : StillTold (told keeper) (told left.keeper)

-- The numbers of `make` and of `report` are within their limits, and the tags of `plan` and `update` are tags of
-- plans; the other commands have none.
pub record IsWithin (least most n : ℕ) : Type 0 where
  pub low : least ≤ n
  pub high : n ≤ most

pub record MakeFits (boards clients : ℕ) : Type 0 where
  pub boards_fit : IsWithin 1 256 boards
  pub clients_fit : IsWithin 1 16 clients

abbrev pub CommandFits : Command → Type 0
CommandFits (commands.Make boards clients) = MakeFits boards clients
CommandFits commands.Run = Unit {0}
CommandFits (commands.Plan tag) = IsTag tag
CommandFits (commands.Update tag) = IsTag tag
CommandFits commands.Check = Unit {0}
CommandFits commands.Remotes = Unit {0}
CommandFits (commands.Explain port version) = Unit {0}
CommandFits (commands.Ids texts) = Unit {0}
CommandFits (commands.Report max) = IsWithin 1 65536 max

-- The command ends so.
abbrev pub CommandEnds : {K Q : Type 0} → KeeperSigns K → Plugins Q → Command → Status → K → Left K → World → World → Type 0
CommandEnds signs plugins commands.Run status keeper left before after = RunEnds signs plugins status keeper left before after
CommandEnds signs plugins (commands.Make boards clients) status keeper left before after =
    (after.unread ≡ before.unread) × MakeEnds boards clients plugins status keeper left before.written after.written
CommandEnds signs plugins (commands.Plan tag) status keeper left before after =
    PlanEnds signs plugins.sheets plugins.vetoes tag status keeper left before after
CommandEnds signs plugins (commands.Update tag) status keeper left before after = UpdateEnds signs plugins tag status keeper left before after
CommandEnds signs plugins commands.Check status keeper left before after = Checked status keeper left before after
CommandEnds signs plugins commands.Remotes status keeper left before after = RemotesTold status keeper left before after
CommandEnds signs plugins (commands.Explain port version) status keeper left before after =
    Explained plugins.sheets plugins.vetoes port version status keeper left before after
CommandEnds signs plugins (commands.Ids texts) status keeper left before after = Identified texts status keeper left before after
CommandEnds signs plugins (commands.Report max) status keeper left before after = Looked signs.tells keeper left before after

-- Words that are no command do nothing; those that are one do what it does, unless there was no memory to
-- read them.
abbrev pub WordsEnd : {K Q : Type 0} → KeeperSigns K → Plugins Q → Option Command → Status → K → Left K → World → World → Type 0
WordsEnd signs plugins None status keeper left before after = (status ≡ statuses.Usage) × NothingDone keeper left before after
WordsEnd signs plugins (Some command) status keeper left before after =
    CommandEnds signs plugins command status keeper left before after
    ⊎ ((status ≡ statuses.NoMemory) × NothingDone keeper left before after)
