use Rattle.std.proofs.Common.{List, ap, sym, ◌∙◌}
use Rattle.update_log.specs.declared.event.Event.{Event}
use Rattle.update_log.specs.Holding.{live}
use Rattle.shared_daemon.proofs.Logs.{past-entries}
use Rattle.shared_daemon_tests.proofs.own_day.day.Goals as goal

pub into_parts-log-requires : goal.into_parts-log-requires
into_parts-log-requires g c = sym (ap (λ (p : List Event). live p) (past-entries c.close-house.result.house_log c.known.ensures.house_log)) ∙ c.close-house.ensures.nothing.1
