-- The house log, after an event.
use Rattle.std.proofs.Common.{◌≡◌, ℕ, ◌<◌, ◌≤◌, ◌+◌, ◌-◌, ◌^◌, Bool, false, List, [], ◌∷◌, ◌++◌, length, refl, ap, sym, ◌∙◌, subst, arith}
use Rattle.fw_facts.specs.declared.seen.Seen.{Seen}
use Rattle.history_keeper.specs.declared.row.Row.{Row}
use Rattle.update_log.proofs.Pasts.{past-push}
use Rattle.core_state.specs.Core.{Stands}
use Rattle.update_log.specs.Pasts.{AllFaults, boots, is_boot, past_of, time_of}
use Rattle.update_log.specs.Legal.{BootTakes}
use Rattle.update_log.specs.Known.{Basis, basis_of}
use Rattle.update_log.specs.declared.event.Event.{Event}
use Rattle.update_log.specs.declared.facts.Facts.{Facts}
use Rattle.daemon_core.specs.HouseLog.{Appended, IsAllowedSo, IsHouseLog, IsLegalSo, IsMadeBy, MadeBy}
use Rattle.daemon_core.specs.Housed.{basis_in, HouseLogView, past_in, rows_before, rows_taken}
use Rattle.daemon_core.specs.Owed.{owed}

-- Makers grow with the log.
pub made-push : (log : List Event) (makers : List ℕ) (event : Event) (maker : ℕ) → MadeBy log makers → IsMadeBy event maker → MadeBy (log ++ event ∷ []) (makers ++ maker ∷ [])
made-push [] [] event maker h m = (m, tt)
made-push [] (x ∷ xs) event maker h m = absurd h
made-push (e ∷ log) [] event maker h m = absurd h
made-push (e ∷ log) (x ∷ xs) event maker h m = (h.0, made-push log xs event maker h.1 m)

-- What was put behind the log comes before its past.
pub appended-past : (client : ℕ) (event : Event) (old new : HouseLogView) → Appended client event old new → past_in new ≡ event ∷ past_in old
appended-past client event old new a = ap past_of a.log ∙ past-push old.core.log event

pub appended-before : (client : ℕ) (event : Event) (old new : HouseLogView) → Appended client event old new → rows_before new ≡ rows_before old
appended-before client event old new a = ap (λ (b : Bool). rows_taken b new.opening) a.same.loaded ∙ ap (λ (o : List Row). rows_taken old.loaded o) a.same.opening

-- The house log after an event that may come.
pub record Next (client : ℕ) (event : Event) (old new : HouseLogView) : Type 0 where
  pub legal : IsLegalSo (basis_in old) old.first (event ∷ past_in old)
  pub stands : Stands (basis_in old) new.core
  pub made : IsMadeBy event client
  pub unloaded : old.loaded ≡ false → AllFaults (event ∷ past_in old)
  pub owed_room : owed (event ∷ past_in old) + 1 ≤ old.room
  pub room : old.room ≤ new.room + 1
  pub few_boots : boots (event ∷ past_in old) < 2 ^ 32
  pub timely : time_of (event ∷ past_in old) ≤ 2 ^ 63 - 1

pub house_log-after : (client : ℕ) (event : Event) (old new : HouseLogView) → IsHouseLog old → Appended client event old new → Next client event old new → IsHouseLog new
house_log-after client event old new k a n =
    let p : past_in new ≡ event ∷ past_in old = appended-past client event old new a in
    let b : rows_before new ≡ rows_before old = appended-before client event old new a in
    let q : owed (past_in new) ≡ owed (event ∷ past_in old) = ap owed p in
    let room = n.room in
    let owes = n.owed_room in
    record {
      legal =
          subst (λ (f : Facts). IsLegalSo (basis_of f (rows_before new)) new.first (past_in new)) (sym a.same.facts)
          (subst (λ (s : List Seen). IsLegalSo (basis_of old.facts (rows_before new)) s (past_in new)) (sym a.same.first)
          (subst (λ (o : List Row). IsLegalSo (basis_of old.facts o) old.first (past_in new)) (sym b)
          (subst (λ (es : List Event). IsLegalSo (basis_in old) old.first es) (sym p) n.legal)));
      stands =
          subst (λ (f : Facts). Stands (basis_of f (rows_before new)) new.core) (sym a.same.facts)
          (subst (λ (o : List Row). Stands (basis_of old.facts o) new.core) (sym b) n.stands);
      makers =
          subst (λ (l : List Event). MadeBy l new.makers) (sym a.log)
          (subst (λ (m : List ℕ). MadeBy (old.core.log ++ event ∷ []) m) (sym a.makers) (made-push old.core.log old.makers event client k.makers n.made));
      few = subst (λ (f : Facts). length f.sheets ≤ 256) (sym a.same.facts) k.few;
      firsts =
          subst (λ (f : Facts). length new.first ≡ length f.sheets) (sym a.same.facts)
          (subst (λ (s : List Seen). length s ≡ length old.facts.sheets) (sym a.same.first) k.firsts);
      unloaded = λ h. subst AllFaults (sym p) (n.unloaded (sym a.same.loaded ∙ h));
      unopened = λ h. a.same.reopened ∙ k.unopened (sym a.same.loaded ∙ h);
      room = omega (arith, q, room, owes);
      few_boots = subst (λ (es : List Event). boots es < 2 ^ 32) (sym p) n.few_boots;
      timely = subst (λ (es : List Event). time_of es ≤ 2 ^ 63 - 1) (sym p) n.timely;
    }

-- An event that isn't a boot, and may come whatever the plans are.
pub legal-next : (basis : Basis) (first : List Seen) (past : List Event) (event : Event) → IsLegalSo basis first past → BootTakes past event → IsAllowedSo basis first past event
    → IsLegalSo basis first (event ∷ past)
legal-next basis first past event l t a = (l.0, (l.1, t, a l.0))

pub boots-same : (past : List Event) (event : Event) → is_boot event ≡ false → boots (event ∷ past) ≡ boots past
boots-same past event h = rw h refl
