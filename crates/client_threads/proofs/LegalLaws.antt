-- A log whose boots are those of the plans is legal in the campaign with these plans.
use Rattle.std.proofs.Common.{List, [], ◌∷◌}
use Rattle.fw_facts.specs.declared.seen.Seen.{Seen}
use Rattle.update_log.specs.declared.event.Event.{Event}
use Rattle.update_log.specs.declared.facts.BootPlan.{BootPlan}
use Rattle.update_log.specs.Legal.{Allowed, IsLegal}
use Rattle.update_log.specs.Shows.{campaign_on, Campaign}
use Rattle.update_log.specs.Known.{Basis}
use Rattle.daemon_core.specs.HouseLog.{IsLegalSo}
use Rattle.client_threads.specs.Planned.{BootsPlanned}

-- What a past says of its newest event.
planned-rest : (plans : List BootPlan) (event : Event) (past : List Event) → BootsPlanned plans (event ∷ past) → BootsPlanned plans past
planned-rest plans (Event.Boot number time limit found boards) past p = p.1
planned-rest plans _ past p = p

-- Only a boot is allowed by a plan.
allowed-planned : (c : Campaign) (plans : List BootPlan) (past : List Event) (event : Event) → BootsPlanned plans (event ∷ past) → Allowed c past event → Allowed (campaign_on c.basis c.first plans) past event
allowed-planned c plans past (Event.Boot number time limit found boards) p a =
    let was = a.1 in
    let plan = p.0.0 in
    let is = p.0.2 in (
      plan,
      record {
        number_is = was.number_is;
        planned = p.0.1;
        time_is = is.time_is;
        limit_is = is.limit_is;
        count = was.count;
        listed = λ board b g.
            let l = was.listed board b g in
            record { number = l.number; presence = is.presence board b g; untold = l.untold; shown = l.shown };
        found_is = was.found_is;
      },
    )
allowed-planned c plans past _ p a = a

legal-planned : (c : Campaign) (plans : List BootPlan) (past : List Event) → BootsPlanned plans past → IsLegal c past → IsLegal (campaign_on c.basis c.first plans) past
legal-planned c plans [] p l = tt
legal-planned c plans (event ∷ past) p l =
    (legal-planned c plans past (planned-rest plans event past p) l.0, l.1, allowed-planned c plans past event p l.2)

-- So is a log that is legal in some campaign with these facts.
pub legal-in : (basis : Basis) (first : List Seen) (plans : List BootPlan) (past : List Event) → BootsPlanned plans past → IsLegalSo basis first past → IsLegal (campaign_on basis first plans) past
legal-in basis first plans past p (was, l) = legal-planned (campaign_on basis first was) plans past p l
