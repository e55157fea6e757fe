-- A log and its past.
use Rattle.std.proofs.Common.{◌≡◌, List, [], ◌∷◌, ◌++◌}
use Rattle.std.proofs.lemmas.List.{reverse-append}
use Rattle.update_log.specs.Pasts.{past_of}
use Rattle.update_log.specs.declared.event.Event.{Event}

-- the event that comes last in the log comes first in its past
pub past-push : (log : List Event) (event : Event) → past_of (log ++ event ∷ []) ≡ event ∷ past_of log
past-push log event = reverse-append log (event ∷ [])
