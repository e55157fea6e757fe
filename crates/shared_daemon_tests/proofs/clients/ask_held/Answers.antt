use Rattle.std.proofs.Common.{subst}
use Rattle.std.specs.Prelude.{None}
use Rattle.update_log.specs.declared.event.Event.{Event}
use Rattle.daemon_core.specs.declared.hold.Asked.{Asked}
use Rattle.daemon_core.specs.Holds.{HoldsFor, answer_of}
use Rattle.shared_daemon.specs.Calls.{AddsOn}
use Rattle.claim_runs.proofs.Clients.{ask-holds}
use Rattle.shared_daemon_tests.proofs.clients.ask_held.Goals as goal

pub returns-clause-held : goal.returns-clause-held
returns-clause-held g c =
    let t = c.in-Ok-Held.ensures.turn in
    ask-holds g.N.Naming.name c.args.daemon.now.id c.args.pass.now c.ask.new.pass c.requires.pass c.ask.ensures.same t c.args.request.now c.in-Ok-Held.hold
    (subst (λ (a : Asked). HoldsFor g.N.Naming.name.basis.facts c.args.pass.now.number c.args.request.now None a) c.in-Ok-Held.field-0-is c.in-Ok-Held.ensures.holds)
    (subst (λ (a : Asked). AddsOn c.args.pass.now.number (Event.Ask c.args.pass.now.number c.args.request.now None (answer_of a)) t.met c.ask.new.pass.seen) c.in-Ok-Held.field-0-is t.does)
