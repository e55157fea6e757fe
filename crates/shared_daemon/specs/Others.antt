-- What other clients put behind a log.
--
-- Between two turns of a client others take theirs. What they put behind the log that the client saw last
-- are events of others, and no boot, and the log is legal with them.
use Rattle.std.specs.Prelude.{◌≡◌, ◌≢◌, ℕ, List, ◌++◌, Some}
use Rattle.std.specs.List.{AllByRecursion}
use Rattle.fw_facts.specs.declared.seen.Seen.{Seen}
use Rattle.history_keeper.specs.Histories.{IsHistory}
use Rattle.update_log.specs.declared.event.Event.{Event}
use Rattle.update_log.specs.declared.live.LiveEntry.{LiveEntry}
use Rattle.update_log.specs.Holding.{live_entry}
use Rattle.update_log.specs.Pasts.{boots, past_of}
use Rattle.update_log.specs.Known.{Basis}
use Rattle.daemon_core.specs.HouseLog.{IsLegalSo, MadeBy}

-- The log that a client saw, and behind it what others made: the whole is legal and has no boot more, and
-- the client is none of the makers of what stands behind.
pub record Others (basis : Basis) (first : List Seen) (client : ℕ) (seen more : List Event) : Type 0 where
  pub history : IsHistory basis.opening
  pub after : IsLegalSo basis first (past_of (seen ++ more))
  pub booted : boots (past_of (seen ++ more)) ≡ boots (past_of seen)
  pub makers : List ℕ
  pub made : MadeBy more makers
  pub others : AllByRecursion (λ maker. maker ≢ client) makers

-- The entry is live, and is the client's.
pub record IsOwn (past : List Event) (client entry : ℕ) (l : LiveEntry) : Type 0 where
  pub live : live_entry past entry ≡ Some l
  pub client_is : l.client ≡ client
