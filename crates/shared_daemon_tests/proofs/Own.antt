-- What a judgement leaves out.
use Rattle.std.proofs.Common.{◌≡◌, ℕ, refl}
use Rattle.std.specs.Prelude.{Ok}
use Rattle.update_log.specs.declared.event.Event.{Event}
use Rattle.daemon_core.specs.declared.judged.Judged.{Judged}
use Rattle.turn_lock.specs.Shown.{LockId, PassView}
use Rattle.shared_daemon.specs.declared.entry.Entry.{Entry}
use Rattle.shared_daemon.specs.Calls.{JudgedIn, Took}
use Rattle.shared_daemon.specs.Closings.{IsFreePass}
use Rattle.shared_daemon.specs.Names.{IsPass, Name}
use Rattle.claim_runs.proofs.Clients.{none-free, quiet-free}

-- A judgement leaves what the client has out.
pub judged-free : (name : Name) (lock : LockId) (old new : PassView Entry) → IsPass lock name old → new.number ≡ old.number → (entry : ℕ) (judged : Judged) → Took name (JudgedIn name old.number entry (Ok judged)) old new → IsFreePass old → IsFreePass new
judged-free name lock old new p same entry (Judged.Done state stored) t f =
    let d = t.does in
    quiet-free name lock old new p same t (Event.Judge old.number entry d.0 state stored) (λ past. refl) (λ past. refl) f d.2
judged-free name lock old new p same entry _ t f = none-free name lock old new p same t f t.does.1
