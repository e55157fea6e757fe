use Rattle.std.proofs.Common.{◌≡◌, take}
use Rattle.update_log.specs.Holding.{is_live, live}
use Rattle.update_log.specs.Pasts.{past_of}
use Rattle.log_stories.proofs.scans.is_live.Given as goal

abbrev pub invariant-loop-event : goal.invariant-loop-event
invariant-loop-event l = l.live ≡ is_live (live (past_of (take l.event-index l.log))) l.entry
