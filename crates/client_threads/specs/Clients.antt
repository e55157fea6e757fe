-- What each client of a boot does behind the lock, and what all of them do to a house.
use Rattle.std.specs.Prelude.{◌≡◌, ◌<◌, ℕ, Bool, List, []}
use Rattle.history_keeper.specs.Signs.{KeeperSigns}
use Rattle.update_log.specs.Pasts.{off}
use Rattle.daemon_core.specs.Housed.{basis_in, Housed, past}
use Rattle.client_scripts.specs.declared.item.Item.{Item}
use Rattle.client_plays.specs.Endings.{AtRest}
use Rattle.client_plays.specs.Faults.{FaultsTold}
use Rattle.client_plays.specs.Has.{shelf_told}
use Rattle.client_plays.specs.Moments.{Grew, mine}
use Rattle.client_plays.specs.Plays.{Plays}
use Rattle.client_plays.specs.Scripts.{PlayedSo, items_of}
use Rattle.client_plays.specs.Tools.{Files, Means, ShelfStays, means_of}
use Rattle.plugin_trait.specs.Steps.{PluginSteps}
use Rattle.turn_lock.specs.Shown.{LockId}
use Rattle.shared_daemon.specs.declared.entry.Entry.{Entry}
use Rattle.shared_daemon.specs.Closings.{IsFreePass}
use Rattle.shared_daemon.specs.Entries.{past_seen}
use Rattle.shared_daemon.specs.Names.{IsPass, Name}
use Rattle.script_runs.specs.Passes.{PassWent, own}
use Rattle.client_threads.specs.declared.clients.Client.{Client}

-- The client may play: its pass is one of this daemon, with a number from 1 on, and has nothing out.
pub record MayPlay {P : Type 0} (lock : LockId) (name : Name) (client : Client P) : Type 0 where
  pub pass : IsPass lock name client.pass
  pub free : IsFreePass client.pass
  pub numbered : 0 < client.pass.number

-- The client went through its own script. It has nothing out, and its shelf has the same files and counted
-- each fault that the client's own events tell.
pub record PlayedScript {P : Type 0} (files : P → Files) (plugins : ℕ → PluginSteps) (faults : P → ℕ) (lock : LockId) (name : Name) (of_boot : List (List Item)) (old new : Client P) : Type 0 where
  pub pass : IsPass lock name new.pass
  pub went : PassWent new.wanting (Plays name.basis (means_of (files old.shelf) plugins) old.pass.number) (items_of of_boot old.pass.number) old.pass new.pass
  pub shelf : ShelfStays (shelf_told files faults old.shelf) (shelf_told files faults new.shelf)
  pub told : FaultsTold (own old.pass) (own new.pass) (faults old.shelf) (faults new.shelf)

-- The clients of a boot went through their scripts, the daemon itself did nothing, and the house is at rest.
pub record ClientsPlayed {K : Type 0} (signs : KeeperSigns K) (wanting : Bool) (means : ℕ → Means) (of_boot : List (List Item)) (old new : Housed K) : Type 0 where
  pub daemon : mine 0 (past new) ≡ mine 0 (past old)
  pub clients : (client : ℕ) → 0 < client → PlayedSo (off (past new)) wanting client (Plays (basis_in old.house_log) (means client) client) (items_of of_boot client) (mine client (past new))
  pub grew : Grew (past old) (past new)
  pub rest : AtRest signs old new

-- What the clients of a boot did behind the lock, by the log as the daemon closed: the daemon itself did
-- nothing, and each client that had done nothing before went through its script.
pub record PlayedBehind (wanting : Bool) (name : Name) (means : ℕ → Means) (of_boot : List (List Item)) (log : List Entry) : Type 0 where
  pub daemon : mine 0 (past_seen log) ≡ mine 0 (past_seen name.start)
  pub clients : (client : ℕ) → 0 < client → mine client (past_seen name.start) ≡ [] → PlayedSo (off (past_seen log)) wanting client (Plays name.basis (means client) client) (items_of of_boot client) (mine client (past_seen log))
