use Rattle.plugin_trait.specs.Steps.{steps_at}
use Rattle.std.proofs.Common.{◌∙◌, ℕ, arith, refl, subst}
use Rattle.std.specs.Prelude.{Some}
use Rattle.update_log.specs.declared.answer.AskAnswer.{AskAnswer}
use Rattle.update_log.specs.declared.event.Event.{Event}
use Rattle.update_log.specs.Legal.{IsFree, request_of_row}
use Rattle.daemon_core.specs.declared.hold.Asked.{Asked}
use Rattle.daemon_core.specs.Holds.{answer_of}
use Rattle.client_plays.specs.Faults.{faults_in}
use Rattle.client_plays.specs.Tools.{means_of}
use Rattle.client_plays.proofs.FaultLaws.{count-less, told-behind, told-same}
use Rattle.shared_daemon.specs.Entries.{past_seen}
use Rattle.claim_runs.proofs.Clients.{hold-asked}
use Rattle.script_runs.specs.Passes.{own}
use Rattle.daemon_tasks.proofs.Asking.{asked-waits}
use Rattle.daemon_tasks.proofs.ResumeEnds.{ask-left, ask-stopped, asked-behind, asked-told, pending-not_kept, refused-may, unfetched}
use Rattle.daemon_tasks.proofs.resuming.resume_entry.Goals as goal

pub ask_pending-requires-clause-free : goal.ask_pending-requires-clause-free
ask_pending-requires-clause-free g c = subst (λ (n : ℕ). IsFree (past_seen c.args.pass.now.seen) n) c.requires.own c.requires.free

pub ask_pending-requires-clause-pending : goal.ask_pending-requires-clause-pending
ask_pending-requires-clause-pending g c = let w = c.requires.waits in (w.row, w.row_is, w.pending)

pub resume_held-requires-clause-own : goal.resume_held-requires-clause-own
resume_held-requires-clause-own g c = c.ask_pending.ensures.same ∙ c.requires.own

pub resume_held-requires-clause-waits : goal.resume_held-requires-clause-waits
resume_held-requires-clause-waits g c =
    let w = c.requires.waits in
    let a = c.in-Ok-Held in
    let t = rw a.field-0-is at (a.ensures.turn w.row w.row_is) in
    asked-waits g.N.Naming.name c.args.runner.now.daemon.now.id c.args.pass.now c.ask_pending.new.pass c.requires.pass t c.requires.own (request_of_row w.row) (Some c.args.entry) (answer_of (Asked.Held a.given)) t.does.1 c.args.entry w

pub resume_held-requires-clause-held : goal.resume_held-requires-clause-held
resume_held-requires-clause-held g c =
    let w = c.requires.waits in
    let a = c.in-Ok-Held in
    let t = rw a.field-0-is at (a.ensures.turn w.row w.row_is) in
    let h = rw a.field-0-is at (a.ensures.holds w.row w.row_is) in
    hold-asked g.N.Naming.name 0 (request_of_row w.row) (Some c.args.entry) a.given t.met c.ask_pending.new.pass.seen h t.does.1

pub resume_held-requires-clause-hold : goal.resume_held-requires-clause-hold
resume_held-requires-clause-hold g c =
    let w = c.requires.waits in
    let a = c.in-Ok-Held in
    let h = rw a.field-0-is at (a.ensures.holds w.row w.row_is) in
    (request_of_row w.row, h)

pub resume_with-requires-clause-own : goal.resume_with-requires-clause-own
resume_with-requires-clause-own g c = c.ask_pending.ensures.same ∙ c.requires.own

pub resume_with-requires-clause-may : goal.resume_with-requires-clause-may
resume_with-requires-clause-may g c =
    let w = c.requires.waits in
    let a = c.in-Ok-Refused in
    let t = rw a.field-0-is at (a.ensures.turn w.row w.row_is) in
    refused-may g.N.Naming.name c.args.runner.now.daemon.now.id c.args.pass.now c.ask_pending.new.pass c.requires.pass c.ask_pending.ensures.same c.requires.own t c.args.entry (request_of_row w.row) a.field-0-0 c.requires.free
    (asked-waits g.N.Naming.name c.args.runner.now.daemon.now.id c.args.pass.now c.ask_pending.new.pass c.requires.pass t c.requires.own (request_of_row w.row) (Some c.args.entry) (AskAnswer.Refused a.field-0-0) t.does.1 c.args.entry w)
    t.does

pub unreachable-requires : goal.unreachable-requires
unreachable-requires g c =
    let w = c.requires.waits in
    let a = c.in-Ok-Kept in
    let t = rw a.field-0-is at (a.ensures.turn w.row w.row_is) in
    pending-not_kept g.N.Naming.name c.args.runner.now.daemon.now.id c.ask_pending.new.pass c.args.entry a.field-0-0 a.field-0-1 (request_of_row w.row) t.met c.ask_pending.ensures.pass t.does.1

pub returns-in-Ok-Held-clause-ended : goal.returns-in-Ok-Held-clause-ended
returns-in-Ok-Held-clause-ended g c =
    let w = c.requires.waits in
    let a = c.in-Ok-Held in
    let t = rw a.field-0-is at (a.ensures.turn w.row w.row_is) in
    asked-behind g.N.Naming.name c.args.runner.now.daemon.now.id c.args.pass.now c.ask_pending.new.pass c.requires.pass c.ask_pending.ensures.same c.requires.own t
    (means_of (g.P.Shelf.files c.args.shelf.now) (steps_at (λ b. (goal.Plugin-dyn g (b.vtable, b.value)).steps b.value) c.args.plugins.now)) c.args.entry (request_of_row w.row) (answer_of (Asked.Held a.given)) c.resume_held.result c.resume_held.new.pass
    t.does.1 c.resume_held.ensures.ended

pub returns-in-Ok-Refused-clause-ended : goal.returns-in-Ok-Refused-clause-ended
returns-in-Ok-Refused-clause-ended g c =
    let w = c.requires.waits in
    let a = c.in-Ok-Refused in
    let t = rw a.field-0-is at (a.ensures.turn w.row w.row_is) in
    let files = g.P.Shelf.files c.args.shelf.now in
    asked-behind g.N.Naming.name c.args.runner.now.daemon.now.id c.args.pass.now c.ask_pending.new.pass c.requires.pass c.ask_pending.ensures.same c.requires.own t
    (means_of files (steps_at (λ b. (goal.Plugin-dyn g (b.vtable, b.value)).steps b.value) c.args.plugins.now)) c.args.entry (request_of_row w.row) (AskAnswer.Refused a.field-0-0) c.resume_with.result c.resume_with.new.pass
    t.does.1 (c.resume_with.ensures.ended files (AskAnswer.Refused a.field-0-0) refl)

pub returns-in-Err-clause-ended : goal.returns-in-Err-clause-ended
returns-in-Err-clause-ended g c =
    let w = c.requires.waits in
    let t = c.in-Err.ensures.turn w.row w.row_is in
    ask-stopped g.N.Naming.name c.args.runner.now.daemon.now.id c.args.pass.now c.ask_pending.new.pass c.requires.pass c.ask_pending.ensures.same c.requires.own t
    (means_of (g.P.Shelf.files c.args.shelf.now) (steps_at (λ b. (goal.Plugin-dyn g (b.vtable, b.value)).steps b.value) c.args.plugins.now)) c.args.entry
    (λ (asked : Asked). Event.Ask 0 (request_of_row w.row) (Some c.args.entry) (answer_of asked)) c.stopped_by.result c.in-Err.stop c.stopped_by.ensures c.requires.free t.does

pub returns-in-Ok-Held-clause-told : goal.returns-in-Ok-Held-clause-told
returns-in-Ok-Held-clause-told g c =
    let w = c.requires.waits in
    let a = c.in-Ok-Held in
    let t = rw a.field-0-is at (a.ensures.turn w.row w.row_is) in
    told-behind (own c.args.pass.now) (own c.ask_pending.new.pass) (own c.resume_held.new.pass) (g.P.Shelf.faults c.args.shelf.now) (g.P.Shelf.faults c.resume_held.new.shelf)
    (asked-told g.N.Naming.name c.args.runner.now.daemon.now.id c.args.pass.now c.ask_pending.new.pass c.requires.pass c.ask_pending.ensures.same c.requires.own t c.args.entry (request_of_row w.row) (answer_of (Asked.Held a.given)) t.does.1)
    c.resume_held.ensures.told c.resume_held.ensures.counts

pub returns-in-Ok-Refused-clause-told : goal.returns-in-Ok-Refused-clause-told
returns-in-Ok-Refused-clause-told g c =
    let w = c.requires.waits in
    let a = c.in-Ok-Refused in
    let t = rw a.field-0-is at (a.ensures.turn w.row w.row_is) in
    let x = g.P.Shelf.faults c.args.shelf.now in
    count-less (faults_in (own c.args.pass.now)) (faults_in (own c.resume_with.new.pass)) x x
    (unfetched (faults_in (own c.args.pass.now)) (faults_in (own c.ask_pending.new.pass)) (faults_in (own c.resume_with.new.pass))
    (asked-told g.N.Naming.name c.args.runner.now.daemon.now.id c.args.pass.now c.ask_pending.new.pass c.requires.pass c.ask_pending.ensures.same c.requires.own t c.args.entry (request_of_row w.row) (AskAnswer.Refused a.field-0-0) t.does.1)
    c.resume_with.ensures.told)
    (omega arith)

pub returns-in-Err-clause-told : goal.returns-in-Err-clause-told
returns-in-Err-clause-told g c =
    let w = c.requires.waits in
    let t = c.in-Err.ensures.turn w.row w.row_is in
    told-same (own c.args.pass.now) (own c.ask_pending.new.pass) (g.P.Shelf.faults c.args.shelf.now)
    (ask-left g.N.Naming.name c.args.runner.now.daemon.now.id c.args.pass.now c.ask_pending.new.pass c.requires.pass c.ask_pending.ensures.same c.requires.own t
    (λ (asked : Asked). Event.Ask 0 (request_of_row w.row) (Some c.args.entry) (answer_of asked)) c.in-Err.stop t.does)
