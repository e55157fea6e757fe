use Rattle.std.proofs.Common.{refl}
use Rattle.daemon_core.proofs.Beginnings.{house_log-blank}
use Rattle.daemon_core.proofs.house_log.HouseLog.new.Goals as goal

pub invariant_of-result : goal.invariant_of-result
invariant_of-result c = record {
  house_log =
      house_log-blank _
      (record { facts_are = refl; first_are = refl; opening = c.new-2.ensures.items; loaded = refl; reopened = refl; log = c.in_ok-core.ensures.empty; makers = c.new-3.ensures.items })
      c.requires.few c.requires.firsts c.in_ok-core.ensures.stands;
  opening = tt;
}
