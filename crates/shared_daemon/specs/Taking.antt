-- What a claim gave, by the log that it left.
use Rattle.std.specs.Prelude.{◌≡◌, ℕ, List, Result, Ok, Err}
use Rattle.daemon_core.specs.declared.claimed.Claimed.{Claimed}
use Rattle.daemon_core.specs.declared.claimed.ClaimStop.{ClaimStop}
use Rattle.daemon_core.specs.declared.claimed.Taken.{Taken}
use Rattle.daemon_core.specs.declared.fetched.Fetched.{Fetched}
use Rattle.daemon_core.specs.declared.hold.Ticket.{Ticket}
use Rattle.daemon_core.specs.Claims.{IsTaken}
use Rattle.shared_daemon.specs.declared.entry.Entry.{Entry}
use Rattle.shared_daemon.specs.Entries.{past_seen}
use Rattle.daemon_core.specs.Planned.{HasPlan}
use Rattle.shared_daemon.specs.Names.{Name}

-- An entry that was taken is the client's live one, and its board has the faults planned that its number has.
pub record TookEntry (name : Name) (client : ℕ) (taken : Taken) (log : List Entry) : Type 0 where
  pub number : ℕ
  pub is : IsTaken name.basis name.first (past_seen log) client taken number
  pub planned : HasPlan name.plans number taken.board

-- A claim that took an entry has the payload that was fetched. One that was stopped hands the ticket and what
-- was fetched back.
abbrev pub ClaimGaveIn : Name → ℕ → Ticket → Fetched → Result Claimed ClaimStop → List Entry → Type 0
ClaimGaveIn name client ticket fetched (Ok (Claimed.Taken taken)) log =
    (fetched ≡ Fetched.Whole taken.payload) × TookEntry name client taken log
ClaimGaveIn name client ticket fetched (Ok (Claimed.Kept entry state)) log = Unit {0}
ClaimGaveIn name client ticket fetched (Ok (Claimed.Refused refusal)) log = Unit {0}
ClaimGaveIn name client ticket fetched (Err stopped) log = (stopped.ticket ≡ ticket) × (stopped.fetched ≡ fetched)
