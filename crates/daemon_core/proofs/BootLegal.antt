-- The next boot is legal, whatever plan it has.
use Rattle.std.proofs.Common.{◌≡◌, ◌+◌, List, [], ◌∷◌, ◌++◌, refl, ap, sym, ◌∙◌, length}
use Rattle.std.proofs.lemmas.List.{length_push}
use Rattle.std.specs.Prelude.{Some, slice_get}
use Rattle.fw_facts.specs.declared.seen.Seen.{Seen}
use Rattle.update_log.proofs.CrashOnce.{legal-on}
use Rattle.update_log.proofs.StepsKept.{get-last}
use Rattle.update_log.specs.Crashes.{next_boot}
use Rattle.update_log.specs.declared.event.BoardSeen.{BoardSeen}
use Rattle.update_log.specs.declared.event.Event.{Event}
use Rattle.update_log.specs.declared.event.Found.{Found}
use Rattle.update_log.specs.declared.facts.BootPlan.{BootPlan}
use Rattle.update_log.specs.Known.{Basis, doubt}
use Rattle.update_log.specs.Legal.{FoundAllowed, IsLegal}
use Rattle.update_log.specs.Pasts.{boots}
use Rattle.update_log.specs.Shows.{campaign_on, Campaign}
use Rattle.daemon_core.specs.HouseLog.{IsLegalSo}
use Rattle.daemon_core.specs.Booting.{AllListed}

abbrev with_plans : Campaign → List BootPlan → Campaign
with_plans c plans = record c { plans = plans }

-- as many plans as there were boots, over which the past is legal
record Trimmed (c : Campaign) (past : List Event) : Type 0 where
  plans : List BootPlan
  count : length plans ≡ boots past
  legal : IsLegal (with_plans c plans) past

trimmed : (c : Campaign) (past : List Event) → IsLegal c past → Trimmed c past
trimmed c [] legal = record { plans = []; count = refl; legal = tt }
trimmed c (Event.Boot number time limit found boards ∷ past) legal =
    let t = trimmed c past legal.0 in
    let plan : BootPlan = legal.2.0 in
    let w = legal.2.1 in
    record {
      plans = t.plans ++ plan ∷ [];
      count = length_push t.plans plan ∙ ap (λ n. n + 1) t.count;
      legal = (
        legal-on (with_plans c t.plans) plan past t.legal,
        legal.1,
        (
          plan,
          record {
            number_is = w.number_is;
            planned = ap (slice_get (t.plans ++ plan ∷ [])) (sym t.count) ∙ get-last t.plans plan;
            time_is = w.time_is;
            limit_is = w.limit_is;
            count = w.count;
            listed = w.listed;
            found_is = w.found_is;
          },
        ),
      );
    }
trimmed c (_ ∷ past) legal = let t = trimmed c past legal.0 in record { plans = t.plans; count = t.count; legal = (t.legal, legal.1, legal.2) }

boot-next : (c : Campaign) (past : List Event) (plan : BootPlan) (found : Found) (boards : List BoardSeen) → IsLegal c past
    → AllListed c.basis c.first past plan boards → FoundAllowed found (doubt c.basis past) → IsLegalSo c.basis c.first (next_boot past plan found boards ∷ past)
boot-next c past plan found boards legal l f =
    let t = trimmed c past legal in
    let at : slice_get (t.plans ++ plan ∷ []) (boots past) ≡ Some plan = ap (slice_get (t.plans ++ plan ∷ [])) (sym t.count) ∙ get-last t.plans plan in (
      t.plans ++ plan ∷ [],
      (
        legal-on (with_plans c t.plans) plan past t.legal,
        record { booted = λ h. cc; on = λ h. cc; below = λ h. cc },
        (plan, record { number_is = refl; planned = at; time_is = refl; limit_is = refl; count = l.count; listed = l.each; found_is = f }),
      ),
    )

pub boot-legal : (basis : Basis) (first : List Seen) (past : List Event) (plan : BootPlan) (found : Found) (boards : List BoardSeen) → IsLegalSo basis first past
    → AllListed basis first past plan boards → FoundAllowed found (doubt basis past) → IsLegalSo basis first (next_boot past plan found boards ∷ past)
boot-legal basis first past plan found boards (plans, legal) l d = boot-next (campaign_on basis first plans) past plan found boards legal l d
