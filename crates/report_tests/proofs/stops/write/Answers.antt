use Rattle.std.proofs.Common.{List, ap, sym, subst, arith, length, inl}
use Rattle.history_keeper.specs.declared.row.Row.{Row}
use Rattle.history_keeper.specs.Histories.{IsHistory}
use Rattle.update_log.specs.Legal.{Legal}
use Rattle.update_log.specs.Known.{basis_of}
use Rattle.update_log.specs.Shows.{campaign_on}
use Rattle.report_tests.proofs.stops.write.Goals as goal
use Rattle.fw_facts.specs.declared.seen.Seen.{Seen}
use Rattle.update_log.specs.declared.facts.BootPlan.{BootPlan}

pub write_report-requires : goal.write_report-requires
write_report-requires c =
    let parts = c.into_parts-parts in
    let same = sym c.deref.ensures.value in
    record {
      few = (let e = ap length c.items.ensures in omega (arith, e));
      legal = subst (λ (rs : List Row). (first : List Seen) × (plans : List BootPlan) × Legal (campaign_on (basis_of parts.result.facts rs) first plans) parts.result.log) same parts.ensures.legal;
      history = inl (subst (λ (rs : List Row). IsHistory rs) same parts.ensures.history);
    }
