-- What a claim gave, on the log of a house.
use Rattle.std.proofs.Common.{ℕ}
use Rattle.std.specs.Prelude.{Result, Ok, Err}
use Rattle.history_keeper.specs.Signs.{KeeperSigns}
use Rattle.daemon_core.specs.declared.claimed.Claimed.{Claimed}
use Rattle.daemon_core.specs.declared.claimed.ClaimStop.{ClaimStop}
use Rattle.daemon_core.specs.declared.fetched.Fetched.{Fetched}
use Rattle.daemon_core.specs.declared.hold.Ticket.{Ticket}
use Rattle.daemon_core.specs.HouseLog.{IsHouseLog}
use Rattle.daemon_core.specs.Claims.{ClaimGave, IsTaken}
use Rattle.daemon_core.specs.Housed.{Housed}
use Rattle.shared_daemon.specs.Entries.{chronicle}
use Rattle.daemon_core.specs.Planned.{HavePlans}
use Rattle.shared_daemon.specs.Names.{KeepsName, Name}
use Rattle.shared_daemon.specs.Taking.{ClaimGaveIn}
use Rattle.daemon_core.proofs.Planned.{taken-planned}
use Rattle.shared_daemon.proofs.Seeing.{to-name}

pub gave-named : {K : Type 0} (signs : KeeperSigns K) (name : Name) (client : ℕ) (ticket : Ticket) (fetched : Fetched) (result : Result Claimed ClaimStop) (old new : Housed K) → KeepsName signs name new → IsHouseLog new.house_log → HavePlans name.plans old.places → ClaimGave client ticket fetched result old new
    → ClaimGaveIn name client ticket fetched result (chronicle new)
gave-named signs name client ticket fetched (Ok (Claimed.Taken taken)) old new n k p g = (
  g.0,
  record {
    number = g.2.0;
    is = to-name signs name new n k (λ base s es. IsTaken base s es client taken g.2.0) g.2.1;
    planned = taken-planned name.plans old.places g.2.0 taken p g.2.3;
  },
)
gave-named signs name client ticket fetched (Ok (Claimed.Kept entry state)) old new n k p g = tt
gave-named signs name client ticket fetched (Ok (Claimed.Refused refusal)) old new n k p g = tt
gave-named signs name client ticket fetched (Err stopped) old new n k p g = (g.2, g.3)
