-- The start of a boot.
use Rattle.std.proofs.Common.{◌≡◌, ◌⊎◌, ◌≤◌, Bool, true, false, List, refl, ap, sym, ◌∙◌, subst, inl, inr}
use Rattle.std.specs.Prelude.{MatchBool, Option, Result, Ok, Err}
use Rattle.history_keeper.specs.declared.row.Row.{Row}
use Rattle.history_keeper.specs.Histories.{IsHistory}
use Rattle.history_keeper.specs.Signs.{KeeperSigns}
use Rattle.update_log.proofs.Pasts.{past-push}
use Rattle.update_log.specs.declared.event.BoardSeen.{BoardSeen}
use Rattle.update_log.specs.declared.event.Found.{Found}
use Rattle.update_log.specs.declared.facts.BootPlan.{BootPlan}
use Rattle.update_log.specs.Pasts.{AllFaults, past_of}
use Rattle.update_log.specs.Crashes.{next_boot}
use Rattle.daemon_core.specs.declared.booting.BootStop.{BootStop}
use Rattle.daemon_core.specs.HouseLog.{IsHouseLog}
use Rattle.daemon_core.specs.Booting.{AllStarted}
use Rattle.daemon_core.specs.Boots.{BootTurned, CouldntRead, NoBoot, WentWell}
use Rattle.daemon_core.specs.Housed.{Housed, Place, past, rows_taken}
use Rattle.daemon_core.specs.Keeping.{last_faulted}
use Rattle.daemon_core.specs.Reading.{AreTold}
use Rattle.daemon_core.specs.Turns.{KeeperFared}
use Rattle.daemon_core.proofs.Planned.{keeps-same, keeps-started, get-other}
use Rattle.client_threads.specs.declared.ending.Ending.{Ending}
use Rattle.client_threads.specs.Planned.{IsPlanned}
use Rattle.client_threads.specs.Runs.{HasBegun, NoneBegan, OpeningStays, StartedSo, ended_by}
use Rattle.client_threads.proofs.OpeningLaws.{stays-refused, stays-same, stays-well}
use Rattle.client_threads.proofs.Present.{started-present}

-- The boot that was noted lists each board as planned.
planned-so : (plan : BootPlan) (old new : List Place) (listed : List BoardSeen) → AllStarted plan old new listed → IsPlanned plan plan.time plan.limit listed
planned-so plan old new listed s =
    record {
      time_is = refl;
      limit_is = refl;
      presence = λ board b g. let p = get-other old listed board b s.count g in started-present plan board p.0 new listed b (s.each board p.0 p.1) g;
    }

-- The rows before the log, as a boot leaves them.
rows-same : (loaded new_loaded : Bool) (opening new_opening : List Row) → new_loaded ≡ loaded → (loaded ≡ true → new_opening ≡ opening) → rows_taken new_loaded new_opening ≡ rows_taken loaded opening
rows-same true new_loaded opening new_opening e h = ap (λ (b : Bool). rows_taken b new_opening) e ∙ h refl
rows-same false new_loaded opening new_opening e h = ap (λ (b : Bool). rows_taken b new_opening) e

rows-first : (A : Type 0) (loaded new_loaded : Bool) (opening new_opening : List Row) (Fault : Type 0) → new_loaded ≡ true → (loaded ≡ false → Fault) → MatchBool loaded (new_opening ≡ opening) A → (rows_taken new_loaded new_opening ≡ rows_taken loaded opening) ⊎ Fault
rows-first A true new_loaded opening new_opening Fault e f m = inl (ap (λ (b : Bool). rows_taken b new_opening) e ∙ m)
rows-first A false new_loaded opening new_opening Fault e f m = inr (f refl)

begun-well : {K : Type 0} (signs : KeeperSigns K) (settled : K → K → Type 0) (plan : BootPlan) (found : Found) (listed : List BoardSeen) (old new : Housed K) → IsHouseLog old.house_log → KeeperFared signs old new → signs.faults old.keeper ≤ signs.faults new.keeper → WentWell signs settled plan found listed old new → HasBegun signs plan old new
begun-well signs settled plan found listed old new k counted counts w =
    record {
      facts = w.noted.grounds.facts;
      first = w.noted.grounds.first;
      found = found;
      listed = listed;
      past_is = ap past_of w.noted.log ∙ past-push old.house_log.core.log (next_boot (past old) plan found listed);
      planned = planned-so plan old.places new.places listed w.noted.started;
      read = λ _. w.reopened;
      before = rows-first (IsHistory new.house_log.opening × AreTold (signs.tells old.keeper) (signs.tells new.keeper) new.house_log.opening) old.house_log.loaded new.house_log.loaded old.house_log.opening new.house_log.opening (AllFaults (past old)) w.loaded k.unloaded w.opening;
      counted = counted;
      counts = counts;
      board_plans = keeps-started plan old.places new.places listed w.noted.started;
      opening = stays-well old.house_log.loaded new.house_log.loaded (signs.tells old.keeper) (signs.tells new.keeper) old.house_log.opening new.house_log.opening w.loaded w.opening;
    }

begun-fault : {K : Type 0} (signs : KeeperSigns K) (plan : BootPlan) (listed : List BoardSeen) (old new : Housed K) → KeeperFared signs old new → signs.faults old.keeper ≤ signs.faults new.keeper → CouldntRead signs.tells plan listed old new → HasBegun signs plan old new
begun-fault signs plan listed old new counted counts w =
    record {
      facts = w.noted.grounds.facts;
      first = w.noted.grounds.first;
      found = Found.Fault;
      listed = listed;
      past_is = ap past_of w.noted.log ∙ past-push old.house_log.core.log (next_boot (past old) plan Found.Fault listed);
      planned = planned-so plan old.places new.places listed w.noted.started;
      read = λ f.
          let e : last_faulted (past new) ≡ true = ap last_faulted (ap past_of w.noted.log ∙ past-push old.house_log.core.log (next_boot (past old) plan Found.Fault listed)) in
          let bad : true ≡ false = sym e ∙ f in cc;
      before = inl (rows-same old.house_log.loaded new.house_log.loaded old.house_log.opening new.house_log.opening w.loaded (λ t. w.opening));
      counted = counted;
      counts = counts;
      board_plans = keeps-started plan old.places new.places listed w.noted.started;
      opening = stays-same old.house_log.loaded new.house_log.loaded (signs.tells old.keeper) (signs.tells new.keeper) old.house_log.opening new.house_log.opening w.loaded w.stays w.opening;
    }

none-began : {K : Type 0} (signs : KeeperSigns K) (old new : Housed K) → KeeperFared signs old new → signs.faults old.keeper ≤ signs.faults new.keeper → NoBoot signs.tells old new → (old.house_log.loaded ≡ true → new.house_log.opening ≡ old.house_log.opening) → OpeningStays signs.tells old new → NoneBegan signs old new
none-began signs old new counted counts n o opening =
    record {
      facts = n.grounds.facts;
      first = n.grounds.first;
      past_is = ap past_of n.log;
      before = rows-same old.house_log.loaded new.house_log.loaded old.house_log.opening new.house_log.opening n.loaded o;
      counted = counted;
      counts = counts;
      board_plans = keeps-same old.places new.places n.places;
      opening = opening;
    }

pub started-so : {K : Type 0} (signs : KeeperSigns K) (settled : K → K → Type 0) (plan : BootPlan) (outcome : Result (Unit {0}) BootStop) (ending : Option Ending) (old new : Housed K) → ending ≡ ended_by outcome → IsHouseLog old.house_log → KeeperFared signs old new → signs.faults old.keeper ≤ signs.faults new.keeper → BootTurned signs settled plan outcome old new → StartedSo signs ending plan old new
started-so signs settled plan outcome ending old new e k counted counts t =
    subst (λ (x : Option Ending). StartedSo signs x plan old new) (sym e) (so outcome t)
  where
    so : (outcome : Result (Unit {0}) BootStop) → BootTurned signs settled plan outcome old new → StartedSo signs (ended_by outcome) plan old new
    so (Ok unit) t = begun-well signs settled plan t.0 t.1 old new k counted counts t.2
    so (Err BootStop.KeeperFault) t = begun-fault signs plan t.0 old new counted counts t.1
    so (Err (BootStop.BadHistory entry)) t = (
      none-began signs old new counted counts t.none (λ l. (t.later l).0)
          (stays-refused old.house_log.loaded new.house_log.loaded (signs.tells old.keeper) (signs.tells new.keeper) old.house_log.opening new.house_log.opening t.none.loaded t.none.stays (λ l. (t.later l).0) (λ u. (t.first u).1)),
      (k, t),
    )
    so (Err BootStop.NoMemory) t = (
      none-began signs old new counted counts t.0 (λ l. t.1)
          (stays-same old.house_log.loaded new.house_log.loaded (signs.tells old.keeper) (signs.tells new.keeper) old.house_log.opening new.house_log.opening t.0.loaded t.0.stays t.1),
      tt,
    )
