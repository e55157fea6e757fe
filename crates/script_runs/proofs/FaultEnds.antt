-- The faults of its shelf that a client's own events tell, as its pass sees them.
use Rattle.std.proofs.Common.{◌≡◌, ℕ, ◌≤◌, ◌+◌, false, List, [], ◌∷◌, append-nil, refl, sym, ◌∙◌, arith}
use Rattle.std.specs.Prelude.{Some, Err}
use Rattle.plugin_trait.specs.Steps.{PluginSteps}
use Rattle.update_log.specs.declared.answer.ClaimAnswer.{ClaimAnswer}
use Rattle.update_log.specs.declared.event.Event.{Event}
use Rattle.update_log.specs.declared.refusal.FetchNote.{FetchNote}
use Rattle.update_log.specs.declared.request.Request.{Request}
use Rattle.update_log.specs.Pasts.{client_of, is_boot}
use Rattle.update_log.specs.Known.{Basis}
use Rattle.daemon_core.specs.declared.stop.Stop.{Stop}
use Rattle.client_plays.specs.declared.played.Played.{Played}
use Rattle.client_plays.specs.Faults.{FaultsTold, faults_in, faults_noted, tells_shelf_fault}
use Rattle.client_plays.specs.Moments.{Moment, at}
use Rattle.client_plays.specs.Plays.{UpdatePlays}
use Rattle.client_plays.proofs.FaultLaws.{TellsNone, faults-event, faults-same, quiet-ends, quiet-one, quiet-update, told-same}
use Rattle.turn_lock.specs.Shown.{LockId, PassView}
use Rattle.shared_daemon.specs.declared.entry.Entry.{Entry}
use Rattle.shared_daemon.specs.Calls.{Adds, Took, TurnedIn}
use Rattle.shared_daemon.specs.Entries.{past_seen}
use Rattle.shared_daemon.specs.Names.{IsPass, Name}
use Rattle.script_runs.specs.Passes.{Ended, own}
use Rattle.script_runs.proofs.EndedPlays.{stopped-own}
use Rattle.script_runs.proofs.OwnMoments.{own-event}

-- ---- a play that tells none

pub ended-quiet : (played : Played) (Play : List Moment → Type 0) (old new : PassView Entry) → TellsNone Play → Ended played Play old new → faults_in (own new) ≡ faults_in (own old)
ended-quiet played Play old new q e = faults-same e.moments (own old) (own new) e.did.own_are (quiet-ends played old.number Play (past_seen new.seen) q e.moments e.ends)

pub ended-told : (played : Played) (Play : List Moment → Type 0) (old new : PassView Entry) (x : ℕ) → TellsNone Play → Ended played Play old new → FaultsTold (own old) (own new) x x
ended-told played Play old new x q e = told-same (own old) (own new) x (ended-quiet played Play old new q e)

-- ---- a turn

module _ {did : List Entry → List Entry → Type 0} (name : Name) (lock : LockId) (old mid : PassView Entry) (p : IsPass lock name old) (same : mid.number ≡ old.number) (t : Took name did old mid) where
  -- It put an event behind the log that tells no fault.
  pub turn-quiet : (event : Event) → is_boot event ≡ false → client_of event ≡ Some old.number → tells_shelf_fault event ≡ false → Adds old.number event t.met mid.seen → faults_in (own mid) ≡ faults_in (own old)
  turn-quiet event b o q a =
      faults-same (at (past_seen t.met) event ∷ []) (own old) (own mid) (own-event {did = did} name lock old mid p same t event b o a) (quiet-one (at (past_seen t.met) event) q)

  -- It put a claim there.
  pub turn-claim : (request : Request) (note : FetchNote) (answer : ClaimAnswer) → Adds old.number (Event.Claim old.number request note answer) t.met mid.seen → faults_in (own mid) ≡ faults_in (own old) + faults_noted (Some note)
  turn-claim request note answer a =
      faults-event (at (past_seen t.met) (Event.Claim old.number request note answer)) (Some note) (own old) (own mid)
      (own-event {did = did} name lock old mid p same t (Event.Claim old.number request note answer) refl refl a) refl

  -- It was stopped.
  pub turn-stopped : {A : Type 0} (event : A → Event) (stop : Stop) → TurnedIn old.number event (Err stop) t.met mid.seen → faults_in (own mid) ≡ faults_in (own old)
  turn-stopped event stop s = faults-same [] (own old) (own mid) (stopped-own {did = did} name lock old mid p same t event stop s ∙ sym (append-nil (own old))) refl

-- ---- what follows on a claim

pub claim-told : (noted : ℕ) (old mid new : PassView Entry) → faults_in (own mid) ≡ faults_in (own old) + noted → faults_in (own new) ≡ faults_in (own mid) → faults_in (own new) ≤ faults_in (own old) + noted
claim-told noted old mid new a b = omega arith

pub claim-same : (noted : ℕ) (old new : PassView Entry) → faults_in (own new) ≡ faults_in (own old) + noted → faults_in (own new) ≤ faults_in (own old) + noted
claim-same noted old new a = omega arith

pub claim-taken : (basis : Basis) (plugins : ℕ → PluginSteps) (taken : List Event) (noted entry : ℕ) (played : Played) (old mid new : PassView Entry) → faults_in (own mid) ≡ faults_in (own old) + noted → Ended played (UpdatePlays basis plugins mid.number entry taken) mid new → faults_in (own new) ≤ faults_in (own old) + noted
claim-taken basis plugins taken noted entry played old mid new a e =
    claim-told noted old mid new a (ended-quiet played (UpdatePlays basis plugins mid.number entry taken) mid new (quiet-update basis plugins mid.number entry taken) e)

pub claim-none : (noted : ℕ) (old mid new : PassView Entry) → faults_in (own mid) ≡ faults_in (own old) → faults_in (own new) ≡ faults_in (own mid) → faults_in (own new) ≤ faults_in (own old) + noted
claim-none noted old mid new a b = omega arith
