-- A judgement that was put behind the log, and a call that was stopped.
use Rattle.std.proofs.Common.{◌≡◌, ℕ, Bool, true, false, List, [], ◌∷◌, refl, ap, sym, ◌∙◌, subst, inl, inr}
use Rattle.std.specs.Prelude.{Some}
use Rattle.update_log.specs.declared.event.Event.{Event}
use Rattle.update_log.specs.Holding.{holds, live}
use Rattle.update_log.specs.Pasts.{client_of, is_boot, off, past_of}
use Rattle.daemon_core.proofs.HouseLogKept.{appended-past}
use Rattle.daemon_core.specs.declared.stop.Stop.{Stop}
use Rattle.daemon_core.specs.HouseLog.{Appended, SameFacts, Unchanged}
use Rattle.daemon_core.specs.Housed.{HouseLogView, past_in}
use Rattle.daemon_core.specs.Turns.{WentOff}
use Rattle.client_plays.specs.Moments.{Did, at}
use Rattle.client_plays.proofs.MomentLaws.{did-nobody, did-nothing, did-one}

-- An event of a client that starts no boot.
pub record IsOwn (client : ℕ) (event : Event) : Type 0 where
  pub no_boot : is_boot event ≡ false
  pub own : client_of event ≡ Some client

pub did-appended : (client : ℕ) (event : Event) (old new : HouseLogView) → IsOwn client event → Appended client event old new → Did client (at (past_in old) event ∷ []) (past_in old) (past_in new)
did-appended client event old new o a =
    subst (λ (p : List Event). Did client (at (past_in old) event ∷ []) (past_in old) p) (sym (appended-past client event old new a))
    (did-one client (past_in old) event o.no_boot o.own)

-- ---- a call that was stopped

abbrev pub cut_past : Bool → List Event → List Event
cut_past true past = Event.Cut ∷ past
cut_past false past = past

-- It left the past as it was, or the power was cut; and where it was answered off, the boot is off.
pub record Halted (stop : Stop) (old new : HouseLogView) : Type 0 where
  pub same : SameFacts old new
  pub cut : Bool
  pub past_is : past_in new ≡ cut_past cut (past_in old)
  pub is_off : stop ≡ Stop.Off → off (past_in new) ≡ true

past-kept : (old new : HouseLogView) → Unchanged old new → past_in new ≡ past_in old
past-kept old new u = ap past_of u.log

pub halted-off : (client : ℕ) (old new : HouseLogView) → WentOff client old new → Halted Stop.Off old new
halted-off client old new w =
    elim w [
      | inl was ↦ record { same = was.1.same; cut = false; past_is = past-kept old new was.1; is_off = λ e. ap off (past-kept old new was.1) ∙ was.0 }
      | inr cut ↦
          record {
            same = cut.1.same;
            cut = true;
            past_is = appended-past client Event.Cut old new cut.1;
            is_off = λ e. ap off (appended-past client Event.Cut old new cut.1);
          }
    ]

pub halted-memory : (old new : HouseLogView) → Unchanged old new → Halted Stop.NoMemory old new
halted-memory old new u = record { same = u.same; cut = false; past_is = past-kept old new u; is_off = λ e. cc }

-- What a stopped call leaves.
cut-holds : (cut : Bool) (past : List Event) → holds (cut_past cut past) ≡ holds past
cut-holds true past = refl
cut-holds false past = refl

cut-live : (cut : Bool) (past : List Event) → live (cut_past cut past) ≡ live past
cut-live true past = refl
cut-live false past = refl

cut-did : (client : ℕ) (cut : Bool) (past : List Event) → Did client [] past (cut_past cut past)
cut-did client true past = did-nobody client past Event.Cut refl refl
cut-did client false past = did-nothing client past

pub halted-holds : (stop : Stop) (old new : HouseLogView) → Halted stop old new → holds (past_in new) ≡ holds (past_in old)
halted-holds stop old new h = ap holds h.past_is ∙ cut-holds h.cut (past_in old)

pub halted-live : (stop : Stop) (old new : HouseLogView) → Halted stop old new → live (past_in new) ≡ live (past_in old)
halted-live stop old new h = ap live h.past_is ∙ cut-live h.cut (past_in old)

pub halted-did : (client : ℕ) (stop : Stop) (old new : HouseLogView) → Halted stop old new → Did client [] (past_in old) (past_in new)
halted-did client stop old new h = subst (λ (p : List Event). Did client [] (past_in old) p) (sym h.past_is) (cut-did client h.cut (past_in old))
