-- A state that takes a legal event stands again.
use Rattle.std.proofs.Common.{◌≡◌, List, ◌∷◌, map, refl, ap, sym, ◌∙◌, ◌<◌, ◌≤◌, ◌+◌, arith, length}
use Rattle.std.specs.Prelude.{unwrap_or}
use Rattle.history_keeper.specs.Histories.{IsHistory}
use Rattle.history_keeper.specs.declared.row.Row.{Row}
use Rattle.core_state.proofs.CoreClaims.{claims-stay}
use Rattle.core_state.proofs.CoreKnown.{doubt-made, rows-made}
use Rattle.core_state.proofs.CoreLegal.{asks-few}
use Rattle.core_state.proofs.CoreTaken.{TiedTo, places, tied-after}
use Rattle.core_state.proofs.CoreTells.{tells-same}
use Rattle.core_state.proofs.CoreTraces.{entries-tied}
use Rattle.core_state.proofs.CoreViews.{views-after}
use Rattle.update_log.proofs.Pasts.{past-push}
use Rattle.update_log.specs.Boards.{devices}
use Rattle.core_state.specs.Core.{Core, Stands}
use Rattle.core_state.specs.CoreAfter.{IsAfter, Takes, change_of, rows_on, views_told}
use Rattle.update_log.specs.Legal.{IsNext}
use Rattle.core_state.specs.CoreSteps.{changed_if, doubt_at, made_at, tells_on, traces_on}
use Rattle.core_state.specs.CoreViews.{claimed, told_on}
use Rattle.update_log.specs.Holding.{holds, live, live_after}
use Rattle.update_log.specs.Known.{Basis, doubt, known, rows, views}
use Rattle.update_log.specs.Legal.{IsLegalUnlimited}
use Rattle.update_log.specs.Pasts.{past_of, time_of}
use Rattle.update_log.specs.Shows.{Campaign, campaign_on}
use Rattle.update_log.specs.Steps.{trace}
use Rattle.update_log.specs.declared.event.Event.{Event}

-- The rows after an event, over what is kept.
pub rows-after : (basis : Basis) (core : Core) (event : Event) → Stands basis core
    → changed_if (made_at event (change_of basis.facts core event) core.doubt) core.rows ≡ rows basis (event ∷ past_of core.log)
rows-after basis core event s =
    rw (s.rows, s.views, s.doubt) (sym (rows-made basis.facts (time_of (past_of core.log)) (live (past_of core.log)) (known basis (past_of core.log)) event))

pub doubt-after : (basis : Basis) (core : Core) (event : Event) → Stands basis core
    → doubt_at event (change_of basis.facts core event) core.doubt ≡ doubt basis (event ∷ past_of core.log)
doubt-after basis core event s =
    rw (s.rows, s.views, s.doubt) (sym (doubt-made basis.facts (time_of (past_of core.log)) (live (past_of core.log)) (known basis (past_of core.log)) event))

pub shown-after : (basis : Basis) (core : Core) (event : Event) → Stands basis core
    → map (claimed (rows basis (event ∷ past_of core.log)) (live_after event (live (past_of core.log)))) (told_on (tells_on core.boards core.views core.rows event) core.boards core.views)
    ≡ views basis (event ∷ past_of core.log)
shown-after basis core event s =
    rw (s.rows, s.views, s.boards)
    (views-after (tells_on (map (λ b. b.number) (devices basis.facts)) (views basis (past_of core.log)) (rows basis (past_of core.log)) event)
    (known basis (past_of core.log)) (known basis (event ∷ past_of core.log)) (live (past_of core.log)) (live (event ∷ past_of core.log)) (devices basis.facts)
    (λ b. ap (λ o. unwrap_or o ((known basis (past_of core.log)).shown b)) (sym (tells-same basis.facts (live (past_of core.log)) (known basis (past_of core.log)) event b))))

traced-after : (c : Campaign) (core : Core) (event : Event) → Stands c.basis core → IsLegalUnlimited c (event ∷ past_of core.log)
    → TiedTo c.basis (event ∷ past_of core.log) (traces_on c.basis.facts core.views (holds (past_of core.log)) event core.traces)
traced-after c core event s l =
    rw s.views (tied-after c (past_of core.log) event core.traces s.history l s.traces)

-- The claims of before are those over the rows after the event, too.
claims-after : (c : Campaign) (core : Core) (event : Event) → Stands c.basis core → IsLegalUnlimited c (event ∷ past_of core.log)
    → map (claimed (rows_on c.basis.facts core event) (live (past_of core.log))) (views_told core event) ≡ views_told core event
claims-after c core event s l =
    rw (rows-after c.basis core event s)
    (rw (s.boards, s.views)
    (claims-stay c (past_of core.log) event (tells_on (map (λ b. b.number) (devices c.basis.facts)) (views c.basis (past_of core.log)) core.rows event)
    (known c.basis (past_of core.log)) (devices c.basis.facts) s.history l refl))

-- A legal event can be taken.
pub takes-legal : (c : Campaign) (core : Core) (event : Event) → Stands c.basis core → IsLegalUnlimited c (event ∷ past_of core.log)
    → 0 < core.room → length (rows c.basis (event ∷ past_of core.log)) ≤ length core.rows + core.row_room → Takes c.basis.facts core event
takes-legal c core event s l room row =
    record {
      room = room;
      row_room = rw (rows-after c.basis core event s) row;
      few = λ h. let few = asks-few c (past_of core.log) event l.2 h in let e = ap length s.rows in omega (arith, few, e);
      places = places c (past_of core.log) event core.traces s.history l s.traces;
      claims = claims-after c core event s l;
      entries = entries-tied (λ e. trace c.basis e (event ∷ past_of core.log)) _ (live (event ∷ past_of core.log)) (traced-after c core event s l);
    }

-- What stands over one past stands over another one that is it.
stood : (basis : Basis) (core : Core) (past : List Event) → past_of core.log ≡ past → IsHistory basis.opening
    → core.rows ≡ rows basis past → core.views ≡ views basis past → core.boards ≡ map (λ b. b.number) (devices basis.facts)
    → TiedTo basis past core.traces → core.doubt ≡ doubt basis past → Stands basis core
stood basis core past e v r w b t d =
    record {
      history = v;
      rows = rw e r;
      views = rw e w;
      boards = b;
      traces = rw e t;
      doubt = rw e d;
    }

pub stands-after : (c : Campaign) (old new : Core) (event : Event) → Stands c.basis old → IsLegalUnlimited c (event ∷ past_of old.log)
    → IsAfter c.basis.facts event old new → Stands c.basis new
stands-after c old new event s l a =
    let r : new.rows ≡ rows c.basis (event ∷ past_of old.log) = a.rows ∙ rows-after c.basis old event s in
    stood c.basis new (event ∷ past_of old.log) (ap past_of a.log ∙ past-push old.log event) s.history
    r
    (a.views
    ∙ ap (λ (rs : List Row). map (claimed rs (live_after event (live (past_of old.log)))) (told_on (tells_on old.boards old.views old.rows event) old.boards old.views)) r
    ∙ shown-after c.basis old event s)
    (a.boards ∙ s.boards)
    (rw a.traces (traced-after c old event s l))
    (a.doubt ∙ doubt-after c.basis old event s)

-- The same of an event that is next.
pub takes-next : (basis : Basis) (core : Core) (event : Event) → Stands basis core → IsNext basis (past_of core.log) event
    → 0 < core.room → length (rows basis (event ∷ past_of core.log)) ≤ length core.rows + core.row_room → Takes basis.facts core event
takes-next basis core event s n room row = takes-legal (campaign_on basis n.0 n.1) core event s n.2 room row

pub stands-next : (basis : Basis) (old new : Core) (event : Event) → Stands basis old → IsNext basis (past_of old.log) event
    → IsAfter basis.facts event old new → Stands basis new
stands-next basis old new event s n a = stands-after (campaign_on basis n.0 n.1) old new event s n.2 a
