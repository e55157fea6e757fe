use Rattle.plugin_trait.specs.Steps.{steps_at}
use Rattle.client_plays.specs.Tools.{means_of}
use Rattle.std.proofs.Common.{refl, sym, subst}
use Rattle.std.specs.Prelude.{None}
use Rattle.update_log.specs.declared.answer.AskAnswer.{AskAnswer}
use Rattle.update_log.specs.declared.event.Event.{Event}
use Rattle.client_scripts.specs.declared.item.Item.{Item}
use Rattle.client_plays.specs.declared.played.Played.{Played}
use Rattle.client_plays.specs.Plays.{Plays}
use Rattle.daemon_core.specs.declared.hold.Asked.{Asked}
use Rattle.daemon_core.specs.Holds.{HoldsFor, answer_of}
use Rattle.shared_daemon.specs.Calls.{AddsOn}
use Rattle.claim_runs.proofs.Clients.{ask-holds}
use Rattle.script_runs.specs.Passes.{Ended, own}
use Rattle.script_runs.proofs.InstallEnds.{hold-self, install-asked, install-behind, install-stopped}
use Rattle.client_plays.proofs.FaultLaws.{told-behind, told-same}
use Rattle.script_runs.proofs.FaultEnds.{turn-quiet, turn-stopped}
use Rattle.script_runs.proofs.installing.play_install.Goals as goal

pub install_held-requires-clause-held : goal.install_held-requires-clause-held
install_held-requires-clause-held g c =
    let n = c.args.pass.now.number in
    let a = c.in-Ok-Held in
    let t = a.ensures.turn in
    ask-holds g.N.Naming.name c.args.runner.now.daemon.now.id c.args.pass.now c.ask.new.pass c.requires.pass c.ask.ensures.same t c.args.request.now a.given
    (subst (λ (x : Asked). HoldsFor g.N.Naming.name.basis.facts n c.args.request.now None x) a.field-0-is a.ensures.holds)
    (subst (λ (x : Asked). AddsOn n (Event.Ask n c.args.request.now None (answer_of x)) t.met c.ask.new.pass.seen) a.field-0-is t.does)

pub install_held-requires-clause-hold : goal.install_held-requires-clause-hold
install_held-requires-clause-hold g c =
    let n = c.args.pass.now.number in
    let a = c.in-Ok-Held in
    hold-self g.N.Naming.name.basis.facts n c.ask.new.pass.number c.args.request.now a.given c.ask.ensures.same
    (subst (λ (x : Asked). HoldsFor g.N.Naming.name.basis.facts n c.args.request.now None x) a.field-0-is a.ensures.holds)

pub returns-in-Ok-Held-clause-ended : goal.returns-in-Ok-Held-clause-ended
returns-in-Ok-Held-clause-ended g c =
    let n = c.args.pass.now.number in
    let a = c.in-Ok-Held in
    let t = a.ensures.turn in
    let h = subst (λ (x : Asked). HoldsFor g.N.Naming.name.basis.facts n c.args.request.now None x) a.field-0-is a.ensures.holds in
    install-behind g.N.Naming.name c.args.runner.now.daemon.now.id (means_of (g.P.Shelf.files c.args.shelf.now) (steps_at (λ b. (goal.Plugin-dyn g (b.vtable, b.value)).steps b.value) c.args.plugins.now)) c.args.request.now c.args.pass.now c.ask.new.pass c.requires.pass c.ask.ensures.same t g.N.Naming.name.basis.opening c.requires.online a.given c.install_held.result
    c.install_held.new.pass h.request_is
    (subst (λ (x : Asked). AddsOn n (Event.Ask n c.args.request.now None (answer_of x)) t.met c.ask.new.pass.seen) a.field-0-is t.does)
    c.install_held.ensures.ended

pub returns-in-Ok-Kept-clause-ended : goal.returns-in-Ok-Kept-clause-ended
returns-in-Ok-Kept-clause-ended g c =
    let n = c.args.pass.now.number in
    let a = c.in-Ok-Kept in
    let t = a.ensures.turn in
    install-asked g.N.Naming.name c.args.runner.now.daemon.now.id (means_of (g.P.Shelf.files c.args.shelf.now) (steps_at (λ b. (goal.Plugin-dyn g (b.vtable, b.value)).steps b.value) c.args.plugins.now)) c.args.request.now c.args.pass.now c.ask.new.pass c.requires.pass c.ask.ensures.same t g.N.Naming.name.basis.opening c.requires.online (AskAnswer.Kept a.field-0-0 a.field-0-1) refl
    (λ past. refl) c.requires.free
    (subst (λ (x : Asked). AddsOn n (Event.Ask n c.args.request.now None (answer_of x)) t.met c.ask.new.pass.seen) a.field-0-is t.does)

pub returns-in-Ok-Refused-clause-ended : goal.returns-in-Ok-Refused-clause-ended
returns-in-Ok-Refused-clause-ended g c =
    let n = c.args.pass.now.number in
    let a = c.in-Ok-Refused in
    let t = a.ensures.turn in
    install-asked g.N.Naming.name c.args.runner.now.daemon.now.id (means_of (g.P.Shelf.files c.args.shelf.now) (steps_at (λ b. (goal.Plugin-dyn g (b.vtable, b.value)).steps b.value) c.args.plugins.now)) c.args.request.now c.args.pass.now c.ask.new.pass c.requires.pass c.ask.ensures.same t g.N.Naming.name.basis.opening c.requires.online (AskAnswer.Refused a.field-0-0) refl
    (λ past. refl) c.requires.free
    (subst (λ (x : Asked). AddsOn n (Event.Ask n c.args.request.now None (answer_of x)) t.met c.ask.new.pass.seen) a.field-0-is t.does)

pub returns-in-Err-clause-ended : goal.returns-in-Err-clause-ended
returns-in-Err-clause-ended g c =
    let n = c.args.pass.now.number in
    let t = c.in-Err.ensures.turn in
    subst (λ (x : Played). Ended x (Plays g.N.Naming.name.basis (means_of (g.P.Shelf.files c.args.shelf.now) (steps_at (λ b. (goal.Plugin-dyn g (b.vtable, b.value)).steps b.value) c.args.plugins.now)) n (Item.Install c.args.request.now)) c.args.pass.now c.ask.new.pass) (sym c.stopped_by.ensures)
    (install-stopped g.N.Naming.name c.args.runner.now.daemon.now.id (means_of (g.P.Shelf.files c.args.shelf.now) (steps_at (λ b. (goal.Plugin-dyn g (b.vtable, b.value)).steps b.value) c.args.plugins.now)) c.args.request.now c.args.pass.now c.ask.new.pass c.requires.pass c.ask.ensures.same t g.N.Naming.name.basis.opening c.requires.online
    (λ (asked : Asked). Event.Ask n c.args.request.now None (answer_of asked)) c.in-Err.stop c.requires.free t.does)

pub returns-in-Ok-Held-clause-told : goal.returns-in-Ok-Held-clause-told
returns-in-Ok-Held-clause-told g c =
    let n = c.args.pass.now.number in
    let a = c.in-Ok-Held in
    let t = a.ensures.turn in
    told-behind (own c.args.pass.now) (own c.ask.new.pass) (own c.install_held.new.pass) (g.P.Shelf.faults c.args.shelf.now) (g.P.Shelf.faults c.install_held.new.shelf)
    (turn-quiet g.N.Naming.name c.args.runner.now.daemon.now.id c.args.pass.now c.ask.new.pass c.requires.pass c.ask.ensures.same t (Event.Ask n c.args.request.now None (answer_of (Asked.Held a.given))) refl refl refl
    (subst (λ (x : Asked). AddsOn n (Event.Ask n c.args.request.now None (answer_of x)) t.met c.ask.new.pass.seen) a.field-0-is t.does).1)
    c.install_held.ensures.told c.install_held.ensures.counts

pub returns-in-Ok-Kept-clause-told : goal.returns-in-Ok-Kept-clause-told
returns-in-Ok-Kept-clause-told g c =
    let n = c.args.pass.now.number in
    let a = c.in-Ok-Kept in
    let t = a.ensures.turn in
    told-same (own c.args.pass.now) (own c.ask.new.pass) (g.P.Shelf.faults c.args.shelf.now)
    (turn-quiet g.N.Naming.name c.args.runner.now.daemon.now.id c.args.pass.now c.ask.new.pass c.requires.pass c.ask.ensures.same t (Event.Ask n c.args.request.now None (AskAnswer.Kept a.field-0-0 a.field-0-1)) refl refl refl
    (subst (λ (x : Asked). AddsOn n (Event.Ask n c.args.request.now None (answer_of x)) t.met c.ask.new.pass.seen) a.field-0-is t.does).1)

pub returns-in-Ok-Refused-clause-told : goal.returns-in-Ok-Refused-clause-told
returns-in-Ok-Refused-clause-told g c =
    let n = c.args.pass.now.number in
    let a = c.in-Ok-Refused in
    let t = a.ensures.turn in
    told-same (own c.args.pass.now) (own c.ask.new.pass) (g.P.Shelf.faults c.args.shelf.now)
    (turn-quiet g.N.Naming.name c.args.runner.now.daemon.now.id c.args.pass.now c.ask.new.pass c.requires.pass c.ask.ensures.same t (Event.Ask n c.args.request.now None (AskAnswer.Refused a.field-0-0)) refl refl refl
    (subst (λ (x : Asked). AddsOn n (Event.Ask n c.args.request.now None (answer_of x)) t.met c.ask.new.pass.seen) a.field-0-is t.does).1)

pub returns-in-Err-clause-told : goal.returns-in-Err-clause-told
returns-in-Err-clause-told g c =
    let n = c.args.pass.now.number in
    let t = c.in-Err.ensures.turn in
    told-same (own c.args.pass.now) (own c.ask.new.pass) (g.P.Shelf.faults c.args.shelf.now)
    (turn-stopped g.N.Naming.name c.args.runner.now.daemon.now.id c.args.pass.now c.ask.new.pass c.requires.pass c.ask.ensures.same t (λ (asked : Asked). Event.Ask n c.args.request.now None (answer_of asked)) c.in-Err.stop t.does)
