-- What a client did, over one turn and over one stretch after another.
use Rattle.std.proofs.Common.{◌≡◌, ℕ, false, List, [], ◌∷◌, ◌++◌, append-nil, append_assoc, refl, ap, sym, ◌∙◌}
use Rattle.std.specs.Prelude.{Some}
use Rattle.update_log.specs.declared.event.Event.{Event}
use Rattle.update_log.specs.Holding.{holds, live}
use Rattle.update_log.specs.Pasts.{client_of, is_boot}
use Rattle.client_plays.specs.Moments.{Moment, at}
use Rattle.turn_lock.specs.Shown.{LockId, PassView}
use Rattle.shared_daemon.specs.declared.entry.Entry.{Entry}
use Rattle.shared_daemon.specs.Calls.{Adds, AddsNone, AddsOn, FoundOff, Took}
use Rattle.shared_daemon.specs.Closings.{IsFreePass}
use Rattle.shared_daemon.specs.Entries.{past_seen}
use Rattle.shared_daemon.specs.Names.{IsPass, Name}
use Rattle.claim_runs.proofs.Clients.{none-free, off-free, quiet-free}
use Rattle.script_runs.specs.Passes.{Did, own}
use Rattle.script_runs.proofs.OwnMoments.{own-event, own-none, own-off}

-- Nothing, and one stretch after another.
pub did-nothing : (pass : PassView Entry) → IsFreePass pass → Did [] pass pass
did-nothing pass f = record { same = refl; own_are = sym (append-nil (own pass)); free = f }

pub did-both : (first rest : List Moment) (old mid new : PassView Entry) → own mid ≡ own old ++ first → mid.number ≡ old.number → Did rest mid new → Did (first ++ rest) old new
did-both first rest old mid new a s b =
    record {
      same = b.same ∙ s;
      own_are = b.own_are ∙ ap (λ (l : List Moment). l ++ rest) a ∙ append_assoc (own old) first rest;
      free = b.free;
    }

-- An event of the client that takes nothing and gives nothing back.
pub record IsQuiet (client : ℕ) (event : Event) : Type 0 where
  pub no_boot : is_boot event ≡ false
  pub own_is : client_of event ≡ Some client
  pub same_holds : (past : List Event) → holds (event ∷ past) ≡ holds past
  pub same_live : (past : List Event) → live (event ∷ past) ≡ live past

-- A turn.
module _ {did : List Entry → List Entry → Type 0} (name : Name) (lock : LockId) (old new : PassView Entry) (p : IsPass lock name old) (same : new.number ≡ old.number) (t : Took name did old new) where
  nothing-so : own new ≡ own old → own new ≡ own old ++ []
  nothing-so e = e ∙ sym (append-nil (own old))

  -- It put an event behind the log, after which the client has nothing out.
  pub did-event : (event : Event) → is_boot event ≡ false → client_of event ≡ Some old.number → Adds old.number event t.met new.seen → IsFreePass new → Did (at (past_seen t.met) event ∷ []) old new
  did-event event b o a f = record { same = same; own_are = own-event {did = did} name lock old new p same t event b o a; free = f }

  -- Such a one as takes nothing and gives nothing back.
  pub did-quiet : (event : Event) → IsQuiet old.number event → IsFreePass old → AddsOn old.number event t.met new.seen → Did (at (past_seen t.met) event ∷ []) old new
  did-quiet event q f a = did-event event q.no_boot q.own_is a.1 (quiet-free {did = did} name lock old new p same t event q.same_holds q.same_live f a)

  -- It put none there.
  pub did-none : IsFreePass old → AddsNone t.met new.seen → Did [] old new
  did-none f a = record { same = same; own_are = nothing-so (own-none {did = did} name lock old new p same t a.1); free = none-free {did = did} name lock old new p same t f a }

  -- It was answered off.
  pub did-off : IsFreePass old → FoundOff old.number t.met new.seen → Did [] old new
  did-off f a = record { same = same; own_are = nothing-so (own-off {did = did} name lock old new p same t a); free = off-free {did = did} name lock old new p same t f a }
