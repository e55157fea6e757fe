-- The turns of a resumption: what its ask leaves, what may come in, and that the entry which begins runs.
use Rattle.std.proofs.Common.{◌≡◌, ℕ, length, List, ◌∷◌, refl, ap, sym, ◌∙◌, subst}
use Rattle.std.specs.Prelude.{Option, Some, None, Ok}
use Rattle.update_log.specs.declared.answer.AskAnswer.{AskAnswer}
use Rattle.update_log.specs.declared.answer.ResumeAnswer.{ResumeAnswer}
use Rattle.update_log.specs.declared.event.Event.{Event}
use Rattle.update_log.specs.declared.event.Stored.{Stored}
use Rattle.update_log.specs.declared.request.Request.{Request}
use Rattle.update_log.specs.Holding.{hold}
use Rattle.update_log.specs.Known.{row_of, rows}
use Rattle.update_log.specs.Legal.{IsFree}
use Rattle.daemon_core.specs.declared.claimed.Claimed.{Claimed}
use Rattle.daemon_core.specs.declared.claimed.Taken.{Taken}
use Rattle.daemon_core.specs.declared.fetched.Fetched.{Fetched}
use Rattle.daemon_core.specs.declared.hold.Hold.{Hold}
use Rattle.daemon_core.specs.declared.hold.Ticket.{Ticket}
use Rattle.daemon_core.specs.HouseLog.{IsLegalSo}
use Rattle.daemon_core.specs.Claims.{IsTaken}
use Rattle.daemon_core.specs.Fetches.{block_count, whole_note}
use Rattle.daemon_core.specs.Holds.{IsHoldFor, held_by}
use Rattle.daemon_core.specs.Resumes.{note_in}
use Rattle.install_engine.specs.Answers.{IfWhole}
use Rattle.install_engine.specs.Runs.{ClaimRuns, parts_taken}
use Rattle.install_engine.proofs.RunTaken.{TakesWith, resume-takes, taken-runs}
use Rattle.turn_lock.specs.Shown.{LockId, PassView}
use Rattle.shared_daemon.specs.declared.entry.Entry.{Entry}
use Rattle.shared_daemon.specs.Calls.{Adds, Took}
use Rattle.shared_daemon.specs.Entries.{past_seen}
use Rattle.shared_daemon.specs.Names.{IsLogOf, IsPass, Name}
use Rattle.shared_daemon.specs.Resumed.{MayResumeRow, ResumeGaveIn, ResumedIn}
use Rattle.shared_daemon.proofs.OthersRows.{row-same}
use Rattle.shared_daemon.proofs.Stayed.{pending-met}
use Rattle.claim_runs.specs.Known.{RunsSeen}
use Rattle.claim_runs.proofs.Kept.{past-added}
use Rattle.script_runs.proofs.Fetches.{fetched-whole}
use Rattle.daemon_tasks.specs.Resumed.{IsOut}
use Rattle.daemon_tasks.specs.Waits.{WaitsIn, rows_seen}

-- An ask leaves a row that was put off.
pub asked-waits : {did : List Entry → List Entry → Type 0} (name : Name) (lock : LockId) (old new : PassView Entry) → IsPass lock name old → (t : Took name did old new) → old.number ≡ 0
    → (request : Request) (pending : Option ℕ) (answer : AskAnswer) → Adds 0 (Event.Ask 0 request pending answer) t.met new.seen → (entry : ℕ) → WaitsIn (rows_seen name old.seen) entry → WaitsIn (rows_seen name new.seen) entry
asked-waits name lock old new p t own request pending answer a entry w =
    let met : row_of (rows name.basis (past_seen t.met)) entry ≡ Some w.row = pending-met name old.number old.seen t.met entry w.row p.log t.meets own w.row_is w.pending in
    record {
      row = w.row;
      row_is = ap (λ (x : List Event). row_of (rows name.basis x) entry) (past-added 0 (Event.Ask 0 request pending answer) t.met new.seen a)
          ∙ row-same name.basis (past_seen t.met) (Event.Ask 0 request pending answer) entry w.row refl refl met;
      pending = w.pending;
    }

-- With what was fetched into a hold's blocks, its row may be resumed.
pub may-resume : (name : Name) (entry : ℕ) (seen : List Entry) (request : Request) (given : Hold) (ticket : Ticket) (fetched : Fetched) → WaitsIn (rows_seen name seen) entry → IsHoldFor name.basis.facts 0 request (Some entry) given → hold (past_seen seen) 0 ≡ Some (held_by given.ticket given.blocks.count)
    → ticket ≡ given.ticket → block_count fetched ≡ given.blocks.count → IfWhole fetched (λ payload. payload.digest ≡ given.digest) → IfWhole fetched (λ payload. length payload.bytes ≡ given.size) → MayResumeRow name entry (Some (ticket, fetched)) seen
may-resume name entry seen request given ticket fetched w is held t b d s =
    record {
      row = w.row;
      row_is = w.row_is;
      pending = w.pending;
      has = record {
        held_is = held ∙ ap (λ (x : Ticket). Some (held_by x given.blocks.count)) (sym t) ∙ ap (λ (n : ℕ). Some (held_by ticket n)) (sym b);
        pending_is = ap (λ (x : Ticket). x.pending) t ∙ is.pending_is;
        whole = fetched-whole name.basis.facts 0 request (Some entry) given ticket fetched is t d s;
      };
    }

-- What comes in is out, and nothing else.
pub may-out : (name : Name) (entry : ℕ) (held : Option (Ticket × Fetched)) (pass : PassView Entry) → pass.number ≡ 0 → MayResumeRow name entry held pass.seen → IsOut held pass
may-out name entry (Some held) pass z m = subst (λ (n : ℕ). hold (past_seen pass.seen) n ≡ Some (held_by held.0 (block_count held.1))) (sym z) m.has.held_is
may-out name entry None pass z m = subst (λ (n : ℕ). IsFree (past_seen pass.seen) n) (sym z) m.has.free

-- What a resumption took, runs.
pub resume-runs : {did : List Entry → List Entry → Type 0} (name : Name) (entry : ℕ) (held : Option (Ticket × Fetched)) (taken : Taken) (old new : PassView Entry) → IsLogOf name new.seen → new.number ≡ old.number → old.number ≡ 0 → (t : Took name did old new)
    → ResumedIn entry (note_in held) (Ok (Claimed.Taken taken)) t.met new.seen → ResumeGaveIn name entry held (Ok (Claimed.Taken taken)) new.seen → RunsSeen name new.number (parts_taken taken) None new.seen
resume-runs name entry held taken old new l same own t a g =
    let event : Event = Event.Resume 0 entry (Some (whole_note taken.payload)) ResumeAnswer.Begun Stored.Yes in
    let added : Adds 0 event t.met new.seen = subst (λ (o : Option (Ticket × Fetched)). Adds 0 (Event.Resume 0 entry (note_in o) ResumeAnswer.Begun Stored.Yes) t.met new.seen) g.1.1 a.1 in
    let p : past_seen new.seen ≡ event ∷ past_seen t.met = past-added 0 event t.met new.seen added in
    let legal : IsLegalSo name.basis name.first (event ∷ past_seen t.met) = subst (λ (x : List Event). IsLegalSo name.basis name.first x) p l.legal in
    let e = g.2 in
    let is : IsTaken name.basis name.first (event ∷ past_seen t.met) 0 taken e.number = subst (λ (x : List Event). IsTaken name.basis name.first x 0 taken e.number) p e.is in
    let takes : TakesWith taken.entry taken.payload event = subst (λ (i : ℕ). TakesWith i taken.payload event) (sym g.0) (resume-takes 0 entry Stored.Yes taken.payload) in
    let runs : RunsSeen name 0 (parts_taken taken) None new.seen =
    record {
      number = e.number;
      l = is.l;
      runs = subst (λ (x : List Event). ClaimRuns name.basis name.first x 0 (parts_taken taken) e.number is.l None) (sym p)
          (taken-runs name.basis name.first (past_seen t.met) event 0 taken e.number l.history legal a.0 (legal.1.1.booted refl) takes is);
      planned = e.planned;
    } in
    subst (λ (n : ℕ). RunsSeen name n (parts_taken taken) None new.seen) (sym (same ∙ own)) runs
