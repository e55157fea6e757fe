-- What a client has out after a turn of its own, for callers.
use Rattle.std.proofs.Common.{◌≡◌, ℕ, false, List, ◌∷◌, ap, sym, ◌∙◌, subst, inl, inr}
use Rattle.std.specs.Prelude.{Option, Some, None, ◌==◌}
use Rattle.std.specs.List.{list_any}
use Rattle.update_log.proofs.Lists.{eqb-self, find-filter_none, find-push_new}
use Rattle.update_log.specs.declared.answer.AskAnswer.{AskAnswer}
use Rattle.update_log.specs.declared.event.Event.{Event}
use Rattle.update_log.specs.declared.live.Held.{Held}
use Rattle.update_log.specs.declared.live.LiveEntry.{LiveEntry}
use Rattle.update_log.specs.declared.request.Request.{Request}
use Rattle.update_log.specs.Holding.{hold, hold_of, holds, live, without_client}
use Rattle.update_log.specs.Legal.{IsFree}
use Rattle.daemon_core.specs.declared.hold.Hold.{Hold}
use Rattle.daemon_core.specs.Holds.{IsHoldFor, held_by}
use Rattle.turn_lock.specs.Shown.{LockId, PassView}
use Rattle.shared_daemon.specs.declared.entry.Entry.{Entry}
use Rattle.shared_daemon.specs.Calls.{Adds, AddsNone, AddsOn, FoundOff, Took}
use Rattle.shared_daemon.specs.Entries.{past_seen}
use Rattle.shared_daemon.specs.Names.{IsPass, Name}
use Rattle.shared_daemon.proofs.Others.{free-stays, hold-stays}
use Rattle.shared_daemon.proofs.Seeing.{stays}
use Rattle.claim_runs.proofs.Freed.{held-free}
use Rattle.claim_runs.proofs.Kept.{past-added}

held-as : (n blocks : ℕ) (request : Request) (pending : Option ℕ) (h : Hold) → h.ticket.client ≡ n → h.ticket.request ≡ request → h.ticket.pending ≡ pending
    → record { client = n; request = request; pending = pending; blocks = blocks; release = h.ticket.release } ≡ held_by h.ticket blocks
held-as n blocks request pending h e f k =
    let first : Held = record { client = n; request = request; pending = pending; blocks = blocks; release = h.ticket.release } in
    let second : Held = record first { client = h.ticket.client } in
    let third : Held = record second { request = h.ticket.request } in
    let a : first ≡ second = ap (λ (x : ℕ). record first { client = x }) (sym e) in
    let b : second ≡ third = ap (λ (r : Request). record second { request = r }) (sym f) in
    let d : third ≡ held_by h.ticket blocks = ap (λ (o : Option ℕ). record third { pending = o }) (sym k) in
    a ∙ b ∙ d

-- An ask that was answered with a hold leaves that hold, whichever row that was put off it is for.
pub hold-asked : (name : Name) (n : ℕ) (request : Request) (pending : Option ℕ) (h : Hold) (met log : List Entry) → IsHoldFor name.basis.facts n request pending h
    → Adds n (Event.Ask n request pending (AskAnswer.Hold h.blocks.count h.ticket.release)) met log → hold (past_seen log) n ≡ Some (held_by h.ticket h.blocks.count)
hold-asked name n request pending h met log is a =
    let event : Event = Event.Ask n request pending (AskAnswer.Hold h.blocks.count h.ticket.release) in
    let x : Held = record { client = n; request = request; pending = pending; blocks = h.blocks.count; release = h.ticket.release } in
    let last : hold (event ∷ past_seen met) n ≡ Some x = find-push_new (λ (y : Held). y.client == n) (without_client n (holds (past_seen met))) x (find-filter_none (λ (y : Held). y.client == n) (holds (past_seen met))) (eqb-self n) in
    ap (λ (w : List Event). hold w n) (past-added n event met log a)
    ∙ last
    ∙ ap Some (held-as n h.blocks.count request pending h is.client_is is.request_is is.pending_is)

module _ {did : List Entry → List Entry → Type 0} (name : Name) (lock : LockId) (old new : PassView Entry) (p : IsPass lock name old) (same : new.number ≡ old.number) (t : Took name did old new) where
  free-now : IsFree (past_seen new.seen) old.number → IsFree (past_seen new.seen) new.number
  free-now f = subst (λ (n : ℕ). IsFree (past_seen new.seen) n) (sym same) f

  -- What it met.
  pub free-met : IsFree (past_seen old.seen) old.number → IsFree (past_seen t.met) old.number
  free-met f = free-stays name.basis name.first old.number (past_seen old.seen) (past_seen t.met) (stays name old.number old.seen t.met p.log t.meets) f

  pub hold-met : (held : Held) → hold (past_seen old.seen) old.number ≡ Some held → hold (past_seen t.met) old.number ≡ Some held
  hold-met held h = hold-stays name.basis name.first old.number (past_seen old.seen) (past_seen t.met) (stays name old.number old.seen t.met p.log t.meets) ∙ h

  -- A turn that put an event behind the log which changes neither holds nor live entries, and one that put
  -- none there.
  pub quiet-free : (event : Event) → ((past : List Event) → holds (event ∷ past) ≡ holds past) → ((past : List Event) → live (event ∷ past) ≡ live past) → IsFree (past_seen old.seen) old.number → AddsOn old.number event t.met new.seen → IsFree (past_seen new.seen) new.number
  quiet-free event hs ls f a =
      let m : IsFree (past_seen t.met) old.number = free-met f in
      let past = past-added old.number event t.met new.seen a.1 in
      free-now
      (subst (λ (w : List Event). IsFree w old.number) (sym past)
      (record {
        hold = ap (λ (h : List Held). hold_of h old.number) (hs (past_seen t.met)) ∙ m.hold;
        live = ap (λ (e : List LiveEntry). list_any (λ l. l.client == old.number) e) (ls (past_seen t.met)) ∙ m.live;
      }))

  pub none-free : IsFree (past_seen old.seen) old.number → AddsNone t.met new.seen → IsFree (past_seen new.seen) new.number
  none-free f a = free-now (subst (λ (l : List Entry). IsFree (past_seen l) old.number) (sym a.1) (free-met f))

  pub off-free : IsFree (past_seen old.seen) old.number → FoundOff old.number t.met new.seen → IsFree (past_seen new.seen) new.number
  off-free f (inl u) = free-now (subst (λ (l : List Entry). IsFree (past_seen l) old.number) (sym u.1) (free-met f))
  off-free f (inr c) =
      let m : IsFree (past_seen t.met) old.number = free-met f in
      free-now (subst (λ (w : List Event). IsFree w old.number) (sym (past-added old.number Event.Cut t.met new.seen c.1)) (record { hold = m.hold; live = m.live }))

  -- An ask that was answered with a hold.
  pub ask-holds : (request : Request) (h : Hold) → IsHoldFor name.basis.facts old.number request None h → AddsOn old.number (Event.Ask old.number request None (AskAnswer.Hold h.blocks.count h.ticket.release)) t.met new.seen
      → hold (past_seen new.seen) new.number ≡ Some (held_by h.ticket h.blocks.count)
  ask-holds request h is a = ap (λ (i : ℕ). hold (past_seen new.seen) i) same ∙ hold-asked name old.number request None h t.met new.seen is a.1

  -- A hold that was given up, and a claim that took no entry.
  pub hold-gone : (held : Held) (event : Event) → ((past : List Event) → holds (event ∷ past) ≡ without_client old.number (holds past)) → ((past : List Event) → live (event ∷ past) ≡ live past) → hold (past_seen old.seen) old.number ≡ Some held → Adds old.number event t.met new.seen
      → IsFree (past_seen new.seen) new.number
  hold-gone held event hs ls h a =
      let n : ℕ = old.number in
      let met : hold (past_seen t.met) n ≡ Some held = hold-met held h in
      let none : list_any (λ (l : LiveEntry). l.client == n) (live (past_seen t.met)) ≡ false = held-free name.basis name.first (past_seen t.met) n held t.meets.log.history t.meets.log.legal met in
      free-now
      (subst (λ (w : List Event). IsFree w n) (sym (past-added n event t.met new.seen a))
      (record {
        hold = ap (λ (k : List Held). hold_of k n) (hs (past_seen t.met)) ∙ find-filter_none (λ (y : Held). y.client == n) (holds (past_seen t.met));
        live = ap (λ (e : List LiveEntry). list_any (λ l. l.client == n) e) (ls (past_seen t.met)) ∙ none;
      }))
