-- What is kept without facts is kept on.
use Rattle.std.proofs.Common.{◌≡◌, ℕ, Bool, List, [], ◌∷◌, ◌++◌, map, ap, sym, ◌∙◌, ◌≤◌, ◌+◌, arith, length}
use Rattle.std.specs.Prelude.{Option, ◌==◌}
use Rattle.std.specs.List.{list_any}
use Rattle.std.proofs.lemmas.List.{length_push}
use Rattle.update_log.proofs.Lists.{by_test}
use Rattle.update_log.proofs.Pasts.{past-push}
use Rattle.core_state.specs.Core.{IsCore}
use Rattle.update_log.specs.Holding.{holds_after, live_after, open_after}
use Rattle.update_log.specs.Pasts.{boots_after, counted_after, finished_after, is_boot, is_counted, limit_after, off_after, past_of, time_after}
use Rattle.update_log.specs.declared.event.Event.{Event}
use Rattle.update_log.specs.declared.live.Held.{Held}
use Rattle.update_log.specs.declared.live.LiveEntry.{LiveEntry}
use Rattle.update_log.specs.declared.live.OpenStep.{OpenStep}
use Rattle.core_state.specs.declared.state.CoreState.TheInside.{Inside}

boots-few : (event : Event) (n m : ℕ) → n ≤ m → boots_after event n ≤ m + 1
boots-few event n m h = by_test (is_boot event) _ (λ t. rw t (omega arith)) (λ t. rw t (omega arith))

counted-few : (event : Event) (n m : ℕ) → n ≤ m → counted_after event n ≤ m + 1
counted-few event n m h =
    by_test (is_boot event) _
    (λ t. rw t (omega arith))
    (λ t. by_test (is_counted event) _ (λ u. rw (t, u) (omega arith)) (λ u. rw (t, u) (omega arith)))

-- The parts after an event.
pub record NextParts (event : Event) (s : Inside) (n : Inside) : Type 0 where
  pub log : n.log.items ≡ s.log.items ++ event ∷ []
  pub live : n.live.items ≡ live_after event s.live.items
  pub holds : n.holds.items ≡ holds_after event s.holds.items
  pub opened : n.open.items ≡ open_after event s.open.items
  pub finished : (entry : ℕ) → list_any (λ e. e == entry) n.finished.items ≡ finished_after entry event (list_any (λ e. e == entry) s.finished.items)
  pub off : n.clock.off ≡ off_after event s.clock.off
  pub boots : n.clock.boots ≡ boots_after event s.clock.boots
  pub time : n.clock.time ≡ time_after event s.clock.time
  pub limit : n.clock.limit ≡ limit_after event s.clock.limit
  pub counted : n.clock.counted ≡ counted_after event s.clock.counted
  pub devices : length n.devices ≡ length s.devices
  pub boards : n.boards.items ≡ s.boards.items
  pub entries : map (λ t. t.entry) n.traces.items ≡ map (λ l. l.entry) n.live.items

pub kept-on : (event : Event) (s n : Inside) → IsCore s → NextParts event s n → IsCore n
kept-on event s n k a =
    let e : past_of n.log.items ≡ event ∷ past_of s.log.items = ap past_of a.log ∙ past-push s.log.items event in
    let len : length n.log.items ≡ length s.log.items + 1 = ap length a.log ∙ length_push s.log.items event in
    record {
      live = rw e (a.live ∙ ap (λ (x : List LiveEntry). live_after event x) k.live);
      holds = rw e (a.holds ∙ ap (λ (x : List Held). holds_after event x) k.holds);
      opened = rw e (a.opened ∙ ap (λ (x : List OpenStep). open_after event x) k.opened);
      finished = λ entry. rw e (ap (λ (b : Bool). finished_after entry event b) (k.finished entry) ∙ sym (a.finished entry));
      off = rw e (a.off ∙ ap (λ (b : Bool). off_after event b) k.off);
      boots = rw e (a.boots ∙ ap (λ (x : ℕ). boots_after event x) k.boots);
      time = rw e (a.time ∙ ap (λ (x : ℕ). time_after event x) k.time);
      limit = rw e (a.limit ∙ ap (λ (x : Option ℕ). limit_after event x) k.limit);
      counted = rw e (a.counted ∙ ap (λ (x : ℕ). counted_after event x) k.counted);
      few_boots = (let few = boots-few event s.clock.boots (length s.log.items) k.few_boots in let is = a.boots in omega (arith, few, is, len));
      few_counted = (let few = counted-few event s.clock.counted (length s.log.items) k.few_counted in let is = a.counted in omega (arith, few, is, len));
      devices = (let d = a.devices in let h = k.devices in omega (arith, d, h));
      boards = ap length a.boards ∙ k.boards ∙ sym a.devices;
      entries = a.entries;
    }
