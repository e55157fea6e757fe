-- What a run makes of the rows that a file of the history held as it was opened.
use Rattle.std.specs.Prelude.{◌≡◌, ◌⊎◌, List, [], Option, Some, None}
use Rattle.emulated_boards.specs.Boards.{BoardState}
use Rattle.history_keeper.specs.declared.row.Row.{Row}
use Rattle.history_keeper.specs.Keepers.{with_doubt}
use Rattle.history_keeper.specs.Signs.{KeeperSigns}
use Rattle.update_log.specs.declared.event.Event.{Event}
use Rattle.update_log.specs.Known.{doubt, rows}
use Rattle.update_log.specs.Pasts.{AllFaults, past_of}
use Rattle.update_log.specs.Shows.{Campaign}
use Rattle.command_words.specs.declared.command.Command.{Command}
use Rattle.command_words.specs.declared.command.Command.TheVariants as commands
use Rattle.fwupd_service.specs.Campaigns.{IsTrueLog, IsUnread}

-- The keeper was just opened: it is in no doubt, and where the file held the rows of a history it tells no others.
pub record WasOpened {K : Type 0} (held : List Row → Type 0) (signs : KeeperSigns K) (keeper : K) : Type 0 where
  pub no_doubt : signs.doubt keeper ≡ None
  pub no_others : (rows : List Row) → held rows → (all : List Row) → signs.tells keeper all → all ≡ rows

-- Nothing happened, and the file has its rows still.
pub record AreLeft (held left : List Row) (log : List Event) : Type 0 where
  pub nothing : log ≡ []
  pub same : left ≡ held

-- No boot took the rows, and the file has them still. Those before the log are none, or the ones that a boot refused.
pub record NoneTaken (held left opening : List Row) (log : List Event) : Type 0 where
  pub none : AllFaults (past_of log)
  pub same : left ≡ held
  pub before : (opening ≡ []) ⊎ (opening ≡ held)

-- The rows are those before the log, and the file has those behind it; or the last boot that was begun didn't read the
-- history, and then the change in doubt may be made too.
pub record WereTaken (c : Campaign) (held left : List Row) (log : List Event) : Type 0 where
  pub before : c.basis.opening ≡ held
  pub behind : (left ≡ rows c.basis (past_of log))
      ⊎ (IsUnread c log × (left ≡ with_doubt (doubt c.basis (past_of log)) (rows c.basis (past_of log))))

-- A campaign was played over the rows.
pub record ArePlayed (held left opening : List Row) (log : List Event) : Type 0 where
  pub campaign : Campaign
  pub opening_is : campaign.basis.opening ≡ opening
  pub boards : List BoardState
  pub true_log : IsTrueLog campaign log boards
  pub taken : NoneTaken held left opening log ⊎ WereTaken campaign held left log

-- What a run by these words makes of the rows that the file held, where it has the last ones afterwards: `run` and
-- `update` may play a campaign over them, and `make` plays one over rows of its own. All else leaves them.
abbrev pub RanOver : Option Command → List Row → List Row → List Row → List Event → Type 0
RanOver None held left opening log = AreLeft held left log
RanOver (Some commands.Run) held left opening log = AreLeft held left log ⊎ ArePlayed held left opening log
RanOver (Some (commands.Update tag)) held left opening log = AreLeft held left log ⊎ ArePlayed held left opening log
RanOver (Some (commands.Plan tag)) held left opening log = AreLeft held left log
RanOver (Some commands.Check) held left opening log = AreLeft held left log
RanOver (Some commands.Remotes) held left opening log = AreLeft held left log
RanOver (Some (commands.Explain port version)) held left opening log = AreLeft held left log
RanOver (Some (commands.Ids texts)) held left opening log = AreLeft held left log
RanOver (Some (commands.Make boards clients)) held left opening log = left ≡ held
RanOver (Some (commands.Report max)) held left opening log = AreLeft held left log
