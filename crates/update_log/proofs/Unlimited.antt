-- A legal past is one that is legal but for limits.
use Rattle.std.proofs.Common.{List, [], ◌∷◌}
use Rattle.update_log.specs.declared.event.Event.{Event}
use Rattle.update_log.specs.Legal.{IsNext}
use Rattle.update_log.specs.Legal.{BootRuns, BootTakes, IsLegal, IsLegalUnlimited}
use Rattle.update_log.specs.Shows.{Campaign}

pub boot-runs : (past : List Event) (event : Event) → BootTakes past event → BootRuns past event
boot-runs past event t = record { booted = t.booted; on = t.on }

pub unlimited : (c : Campaign) (past : List Event) → IsLegal c past → IsLegalUnlimited c past
unlimited c [] l = tt
unlimited c (event ∷ past) l = (unlimited c past l.0, boot-runs past event l.1, l.2)

-- So a legal event may come next.
pub next-legal : (c : Campaign) (past : List Event) (event : Event) → IsLegal c (event ∷ past) → IsNext c.basis past event
next-legal c past event l = (c.first, c.plans, unlimited c (event ∷ past) l)
