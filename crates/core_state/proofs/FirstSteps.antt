-- The first events of a machine without boards, and what stands when room is made.
use Rattle.std.proofs.Common.{◌≡◌, ℕ, List, [], ◌∷◌, ◌++◌, refl, ap, ◌∙◌, ◌≤◌, arith, length}
use Rattle.std.specs.Prelude.{Some}
use Rattle.core_state.specs.Core.{Core, Stands}
use Rattle.update_log.specs.Legal.{IsNext}
use Rattle.update_log.specs.Known.{Basis, basis_of, rows}
use Rattle.update_log.specs.Pasts.{past_of}
use Rattle.update_log.specs.declared.event.BoardSeen.{BoardSeen}
use Rattle.update_log.specs.declared.event.Event.{Event}
use Rattle.update_log.specs.declared.event.Found.{Found}
use Rattle.update_log.specs.declared.facts.BootPlan.{BootPlan}
use Rattle.update_log.specs.declared.facts.Facts.{Facts}

-- More room changes nothing of what stands.
pub stands-reserved : (basis : Basis) (old new : Core) → new ≡ record old { room = new.room; row_room = new.row_room }
    → Stands basis old → Stands basis new
stands-reserved basis old new e s =
    let log : new.log ≡ old.log = ap (λ (k : Core). k.log) e in
    record {
      history = s.history;
      rows = rw log (ap (λ (k : Core). k.rows) e ∙ s.rows);
      views = rw log (ap (λ (k : Core). k.views) e ∙ s.views);
      boards = ap (λ (k : Core). k.boards) e ∙ s.boards;
      traces = rw (log, ap (λ (k : Core). k.traces) e) s.traces;
      doubt = rw log (ap (λ (k : Core). k.doubt) e ∙ s.doubt);
    }

-- The boot that is cut at once, and its plan.
abbrev pub first_boot : List BoardSeen → Event
first_boot boards = Event.Boot 1 1000 (Some 0) Found.Plain boards

abbrev first_plan : BootPlan
first_plan = record { time = 1000; limit = Some 0; absent = [] }

pub boot-next : (facts : Facts) (log : List Event) (boards : List BoardSeen) → facts.sheets ≡ [] → log ≡ [] → boards ≡ [] → IsNext (basis_of facts []) (past_of log) (first_boot boards)
boot-next facts log boards s l b =
    rw (l, b) (
      [],
      first_plan ∷ [],
      (
        tt,
        record { booted = λ h. cc; on = λ h. refl },
        (
          first_plan,
          record {
            number_is = refl;
            planned = refl;
            time_is = refl;
            limit_is = refl;
            count = rw s refl;
            listed = λ board b h. cc;
            found_is = tt;
          },
        ),
      ),
    )

pub boot-rows : (facts : Facts) (log : List Event) (boards : List BoardSeen) (n : ℕ) → log ≡ [] → length (rows (basis_of facts []) (first_boot boards ∷ past_of log)) ≤ n
boot-rows facts log boards n l = rw l (omega arith)

pub cut-next : (facts : Facts) (log after : List Event) (boards : List BoardSeen) → facts.sheets ≡ [] → log ≡ [] → boards ≡ [] → after ≡ log ++ first_boot boards ∷ []
    → IsNext (basis_of facts []) (past_of after) Event.Cut
cut-next facts log after boards s l b a =
    let n = boot-next facts [] boards s refl b in
    rw (a, l) (
      n.0,
      n.1,
      (
        n.2,
        record { booted = λ h. omega arith; on = λ h. cc },
        record { on = refl; full = refl },
      ),
    )

pub cut-rows : (facts : Facts) (log after : List Event) (boards : List BoardSeen) (n : ℕ) → log ≡ [] → after ≡ log ++ first_boot boards ∷ []
    → length (rows (basis_of facts []) (Event.Cut ∷ past_of after)) ≤ n
cut-rows facts log after boards n l a = rw (a, l) (omega arith)
