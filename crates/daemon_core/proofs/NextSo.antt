-- An event that makes a legal log may come next.
use Rattle.std.proofs.Common.{List, ◌∷◌}
use Rattle.fw_facts.specs.declared.seen.Seen.{Seen}
use Rattle.update_log.specs.Legal.{IsNext}
use Rattle.update_log.specs.Known.{Basis}
use Rattle.update_log.specs.Shows.{campaign_on}
use Rattle.update_log.specs.declared.event.Event.{Event}
use Rattle.update_log.proofs.Unlimited.{next-legal}
use Rattle.daemon_core.specs.HouseLog.{IsLegalSo}

pub next_so : (basis : Basis) (first : List Seen) (past : List Event) (event : Event) → IsLegalSo basis first (event ∷ past)
    → IsNext basis past event
next_so basis first past event l = next-legal (campaign_on basis first l.0) past event l.1
