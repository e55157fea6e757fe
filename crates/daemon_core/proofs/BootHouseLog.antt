-- The house log over other rows, and behind a boot.
use Rattle.std.proofs.Common.{◌≡◌, ℕ, Bool, true, false, ◌+◌, ◌≤◌, List, ◌∷◌, refl, ap, sym, ◌∙◌, arith, subst}
use Rattle.std.specs.Prelude.{Option, min}
use Rattle.history_keeper.specs.declared.change.Change.{Change}
use Rattle.history_keeper.specs.declared.row.Row.{Row}
use Rattle.core_state.specs.Core.{Core, Stands}
use Rattle.update_log.specs.Pasts.{AllFaults, boots, is_found_fault}
use Rattle.update_log.specs.Crashes.{next_boot}
use Rattle.update_log.specs.declared.event.BoardSeen.{BoardSeen}
use Rattle.update_log.specs.declared.event.Event.{Event}
use Rattle.update_log.specs.declared.event.Found.{Found}
use Rattle.update_log.specs.declared.facts.BootPlan.{BootPlan}
use Rattle.update_log.specs.Known.{basis_of, rows, rows_found}
use Rattle.update_log.specs.Legal.{FoundAllowed}
use Rattle.daemon_core.proofs.BootLegal.{boot-legal}
use Rattle.daemon_core.proofs.BootOpenings.{legal-over}
use Rattle.daemon_core.proofs.KeptSo.{still-none}
use Rattle.daemon_core.specs.HouseLog.{Appended, IsHouseLog, IsLegalSo}
use Rattle.daemon_core.specs.Booting.{AllListed, opened}
use Rattle.daemon_core.specs.Housed.{basis_in, HouseLogView, past_in, rows_before, rows_taken}
use Rattle.daemon_core.specs.Keeping.{still_reopened}
use Rattle.daemon_core.specs.Owed.{owed}

pub house_log-opened : (old : HouseLogView) (all : List Row) (n : ℕ) → IsHouseLog old → old.loaded ≡ false → Stands (basis_of old.facts all) (opened all n old).core → IsHouseLog (opened all n old)
house_log-opened old all n k l s =
    record {
      legal = legal-over old.facts old.first (rows_before old) all (past_in old) (k.unloaded l) k.legal;
      stands = s;
      makers = k.makers;
      few = k.few;
      firsts = k.firsts;
      unloaded = λ h. cc;
      unopened = λ h. cc;
      room = k.room;
      few_boots = k.few_boots;
      timely = k.timely;
    }

-- the house log, whether the keeper counts as opened again or not
pub house_log-reopened : (a : HouseLogView) (b : Bool) → (a.loaded ≡ false → b ≡ false) → IsHouseLog a → IsHouseLog (record a { reopened = b })
house_log-reopened a b u k =
    record {
      legal = k.legal;
      stands = k.stands;
      makers = k.makers;
      few = k.few;
      firsts = k.firsts;
      unloaded = k.unloaded;
      unopened = u;
      room = k.room;
      few_boots = k.few_boots;
      timely = k.timely;
    }

-- the house log, once it is noted what their boot found
pub house_log-found : (found : Found) (a new : HouseLogView) → new ≡ record a { reopened = still_reopened found a.reopened } → IsHouseLog a → IsHouseLog new
house_log-found found a new e k = subst IsHouseLog (sym e) (house_log-reopened a (still_reopened found a.reopened) (λ u. still-none found a.reopened (k.unopened u)) k)

-- a boot behind the log, and what is noted of the keeper then
pub boot-noted : (event : Event) (found : Found) (old noted new : HouseLogView) → Appended 0 event old noted → new ≡ record noted { reopened = still_reopened found noted.reopened }
    → Appended 0 event old (record new { reopened = old.reopened }) × (new.reopened ≡ still_reopened found old.reopened)
boot-noted event found old noted new a e = (
  record {
    same = record {
      facts = ap (λ (x : HouseLogView). x.facts) e ∙ a.same.facts;
      first = ap (λ (x : HouseLogView). x.first) e ∙ a.same.first;
      opening = ap (λ (x : HouseLogView). x.opening) e ∙ a.same.opening;
      loaded = ap (λ (x : HouseLogView). x.loaded) e ∙ a.same.loaded;
      reopened = refl;
    };
    log = ap (λ (x : HouseLogView). x.core.log) e ∙ a.log;
    makers = ap (λ (x : HouseLogView). x.makers) e ∙ a.makers;
  },
  ap (λ (x : HouseLogView). x.reopened) e ∙ ap (still_reopened found) a.same.reopened,
)

-- a boot may come
pub boot-legal_in : (old : HouseLogView) (plan : BootPlan) (found : Found) (boards : List BoardSeen) → IsHouseLog old → AllListed (basis_in old) old.first (past_in old) plan boards → FoundAllowed found old.core.doubt
    → IsLegalSo (basis_in old) old.first (next_boot (past_in old) plan found boards ∷ past_in old)
boot-legal_in old plan found boards k l f =
    boot-legal (basis_in old) old.first (past_in old) plan found boards k.legal l
    (subst (FoundAllowed found) k.stands.doubt f)

-- its rows
pub boot-rows : (old : HouseLogView) (plan : BootPlan) (found : Found) (boards : List BoardSeen) → IsHouseLog old
    → rows (basis_in old) (next_boot (past_in old) plan found boards ∷ past_in old) ≡ rows_found found old.core.doubt old.core.rows
boot-rows old plan found boards k =
    ap (λ (d : Option Change). rows_found found d (rows (basis_in old) (past_in old))) (sym k.stands.doubt)
    ∙ ap (λ (r : List Row). rows_found found old.core.doubt r) (sym k.stands.rows)

-- it couldn't read the history, while no boot could
pub boot-faults : (old : HouseLogView) (plan : BootPlan) (found : Found) (boards : List BoardSeen) → IsHouseLog old → (old.loaded ≡ false → is_found_fault found ≡ true) → old.loaded ≡ false → AllFaults (next_boot (past_in old) plan found boards ∷ past_in old)
boot-faults old plan found boards k h l = (h l, k.unloaded l)

-- the house log as it is made over rows that are taken
pub taken-as : (old : HouseLogView) (opening all : List Row) (core : Core) (cap : ℕ) → opening ≡ all → core ≡ record old.core { rows = all; row_room = core.row_room } → min old.core.room cap ≡ old.room
    → record { facts = old.facts; first = old.first; opening = opening; loaded = true; reopened = old.reopened; core = core; makers = old.makers; room = min core.room cap } ≡ opened all core.row_room old
taken-as old opening all core cap same e r =
    ap (λ (x : Core). record { facts = old.facts; first = old.first; opening = opening; loaded = true; reopened = old.reopened; core = x; makers = old.makers; room = min x.room cap }) e
    ∙ ap (λ (o : List Row). record { facts = old.facts; first = old.first; opening = o; loaded = true; reopened = old.reopened; core = record old.core { rows = all; row_room = core.row_room }; makers = old.makers; room = min old.core.room cap }) same
    ∙ ap (λ (n : ℕ). record { facts = old.facts; first = old.first; opening = all; loaded = true; reopened = old.reopened; core = record old.core { rows = all; row_room = core.row_room }; makers = old.makers; room = n }) r

pub house_log-taken : (old : HouseLogView) (opening all : List Row) (core : Core) (cap : ℕ) → IsHouseLog old → old.loaded ≡ false → opening ≡ all
    → core ≡ record old.core { rows = all; row_room = core.row_room } → min old.core.room cap ≡ old.room → Stands (basis_of old.facts all) core
    → IsHouseLog (record { facts = old.facts; first = old.first; opening = opening; loaded = true; reopened = old.reopened; core = core; makers = old.makers; room = min core.room cap })
house_log-taken old opening all core cap k l same e r s =
    subst IsHouseLog (sym (taken-as old opening all core cap same e r)) (house_log-opened old all core.row_room k l (subst (Stands (basis_of old.facts all)) e s))

-- the house log with rows that are refused
pub refused-as : (old : HouseLogView) (all : List Row) → old.loaded ≡ false → record old { opening = all; loaded = false } ≡ record old { opening = all }
refused-as old all l = ap (λ (b : Bool). record old { opening = all; loaded = b }) (sym l)

pub house_log-refused : (old : HouseLogView) (all : List Row) → old.loaded ≡ false → IsHouseLog old → IsHouseLog (record old { opening = all; loaded = false })
house_log-refused old all l k =
    record {
      legal = subst (λ (b : Bool). IsLegalSo (basis_of old.facts (rows_taken b old.opening)) old.first (past_in old)) l k.legal;
      stands = subst (λ (b : Bool). Stands (basis_of old.facts (rows_taken b old.opening)) old.core) l k.stands;
      makers = k.makers;
      few = k.few;
      firsts = k.firsts;
      unloaded = λ _. k.unloaded l;
      unopened = λ _. k.unopened l;
      room = k.room;
      few_boots = k.few_boots;
      timely = k.timely;
    }

-- what the event of a boot is
pub boot-event : (past : List Event) (plan : BootPlan) (found : Found) (n : ℕ) (boards listed : List BoardSeen) → n ≡ boots past → boards ≡ listed → Event.Boot (n + 1) plan.time plan.limit found boards ≡ next_boot past plan found listed
boot-event past plan found n boards listed e f = ap (λ (m : ℕ). Event.Boot (m + 1) plan.time plan.limit found boards) e ∙ ap (λ (b : List BoardSeen). Event.Boot (boots past + 1) plan.time plan.limit found b) f

pub owed-boot : (past : List Event) (plan : BootPlan) (found : Found) (listed : List BoardSeen) → owed (next_boot past plan found listed ∷ past) ≤ 1
owed-boot past plan found listed = omega arith
