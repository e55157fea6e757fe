use Rattle.std.proofs.Common.{subst}
use Rattle.std.specs.Prelude.{Some}
use Rattle.update_log.specs.declared.event.Event.{Event}
use Rattle.update_log.specs.declared.request.Request.{Request}
use Rattle.update_log.specs.Legal.{request_of_row}
use Rattle.daemon_core.specs.declared.hold.Asked.{Asked}
use Rattle.daemon_core.specs.Holds.{HoldsFor, answer_of}
use Rattle.shared_daemon.specs.Calls.{Adds}
use Rattle.claim_runs.proofs.Clients.{hold-asked}
use Rattle.daemon_tasks.proofs.Asking.{asked-waits}
use Rattle.shared_daemon_tests.proofs.own_turns.ask_pending_held.Goals as goal

pub returns-clause-waits : goal.returns-clause-waits
returns-clause-waits g c =
    let w = c.requires.waits in
    let t = c.in-Ok-Held.ensures.turn w.row w.row_is in
    asked-waits g.N.Naming.name c.args.daemon.now.id c.args.pass.now c.ask_pending.new.pass c.requires.pass t c.requires.own (request_of_row w.row) (Some c.args.entry) (answer_of c.in-Ok-Held.field-0) t.does.1 c.args.entry w

pub returns-clause-held : goal.returns-clause-held
returns-clause-held g c =
    let w = c.requires.waits in
    let t = c.in-Ok-Held.ensures.turn w.row w.row_is in
    let r : Request = request_of_row w.row in
    hold-asked g.N.Naming.name 0 r (Some c.args.entry) c.in-Ok-Held.hold t.met c.ask_pending.new.pass.seen
    (subst (λ (a : Asked). HoldsFor g.N.Naming.name.basis.facts 0 r (Some c.args.entry) a) c.in-Ok-Held.field-0-is (c.in-Ok-Held.ensures.holds w.row w.row_is))
    (subst (λ (a : Asked). Adds 0 (Event.Ask 0 r (Some c.args.entry) (answer_of a)) t.met c.ask_pending.new.pass.seen) c.in-Ok-Held.field-0-is t.does.1)

pub returns-clause-hold : goal.returns-clause-hold
returns-clause-hold g c =
    let w = c.requires.waits in
    let r : Request = request_of_row w.row in (
      r,
      subst (λ (a : Asked). HoldsFor g.N.Naming.name.basis.facts 0 r (Some c.args.entry) a) c.in-Ok-Held.field-0-is (c.in-Ok-Held.ensures.holds w.row w.row_is),
    )
