use Rattle.plugin_trait.specs.Steps.{steps_at}
use Rattle.client_plays.specs.Tools.{files_alone, means_of}
use Rattle.client_scripts.specs.declared.item.Item.{Item}
use Rattle.script_runs.proofs.TurnLaws.{ended-for}
use Rattle.std.proofs.Common.{ap, refl}
use Rattle.std.specs.Prelude.{not}
use Rattle.client_plays.specs.Plays.{Plays}
use Rattle.client_plays.proofs.FaultLaws.{quiet-item}
use Rattle.script_runs.proofs.FaultEnds.{ended-told}
use Rattle.script_runs.proofs.scripting.play_item.Goals as goal

pub returns-in-Ask-clause-ended : goal.returns-in-Ask-clause-ended
returns-in-Ask-clause-ended g c =
    ended-for g.N.Naming.name.basis (means_of (g.P.Shelf.files c.args.shelf.now) (steps_at (λ b. (goal.Plugin-dyn g (b.vtable, b.value)).steps b.value) c.args.plugins.now)) c.args.pass.now.number (Item.Ask c.in-Ask.query) c.args.item.now c.play_question.result c.args.pass.now c.play_question.new.pass
    c.in-Ask.is c.play_question.ensures.ended

pub returns-then-request-clause-ended : goal.returns-then-request-clause-ended
returns-then-request-clause-ended g c =
    ended-for g.N.Naming.name.basis (means_of (g.P.Shelf.files c.args.shelf.now) (steps_at (λ b. (goal.Plugin-dyn g (b.vtable, b.value)).steps b.value) c.args.plugins.now)) c.args.pass.now.number (Item.Install c.in-Install.request) c.args.item.now c.play_schedule.result c.args.pass.now c.play_schedule.new.pass
    c.in-Install.is c.play_schedule.ensures.ended

pub returns-in-Settle-clause-ended : goal.returns-in-Settle-clause-ended
returns-in-Settle-clause-ended g c =
    ended-for g.N.Naming.name.basis (means_of (g.P.Shelf.files c.args.shelf.now) (steps_at (λ b. (goal.Plugin-dyn g (b.vtable, b.value)).steps b.value) c.args.plugins.now)) c.args.pass.now.number (Item.Settle c.in-Settle.device) c.args.item.now c.play_settle.result c.args.pass.now c.play_settle.new.pass
    c.in-Settle.is c.play_settle.ensures.ended

pub returns-in-Unplug-clause-ended : goal.returns-in-Unplug-clause-ended
returns-in-Unplug-clause-ended g c =
    ended-for g.N.Naming.name.basis (means_of (g.P.Shelf.files c.args.shelf.now) (steps_at (λ b. (goal.Plugin-dyn g (b.vtable, b.value)).steps b.value) c.args.plugins.now)) c.args.pass.now.number (Item.Unplug c.in-Unplug.device) c.args.item.now c.play_unplug.result c.args.pass.now c.play_unplug.new.pass
    c.in-Unplug.is c.play_unplug.ensures.ended

pub returns-in-Plug-clause-ended : goal.returns-in-Plug-clause-ended
returns-in-Plug-clause-ended g c =
    ended-for g.N.Naming.name.basis (means_of (g.P.Shelf.files c.args.shelf.now) (steps_at (λ b. (goal.Plugin-dyn g (b.vtable, b.value)).steps b.value) c.args.plugins.now)) c.args.pass.now.number (Item.Plug c.in-Plug.device) c.args.item.now c.play_plug.result c.args.pass.now c.play_plug.new.pass
    c.in-Plug.is c.play_plug.ensures.ended

pub returns-in-Ask-clause-told : goal.returns-in-Ask-clause-told
returns-in-Ask-clause-told g c =
    let files = g.P.Shelf.files c.args.shelf.now in
    let item = Item.Ask c.in-Ask.query in
    ended-told c.play_question.result (Plays g.N.Naming.name.basis (files_alone files) c.args.pass.now.number item) c.args.pass.now c.play_question.new.pass (g.P.Shelf.faults c.args.shelf.now)
    (quiet-item g.N.Naming.name.basis (files_alone files) c.args.pass.now.number item refl) (c.play_question.ensures.ended files)

pub returns-then-request-clause-told : goal.returns-then-request-clause-told
returns-then-request-clause-told g c =
    let files = g.P.Shelf.files c.args.shelf.now in
    let item = Item.Install c.in-Install.request in
    ended-told c.play_schedule.result (Plays g.N.Naming.name.basis (files_alone files) c.args.pass.now.number item) c.args.pass.now c.play_schedule.new.pass (g.P.Shelf.faults c.args.shelf.now)
    (quiet-item g.N.Naming.name.basis (files_alone files) c.args.pass.now.number item (ap not c.if-request.true)) (c.play_schedule.ensures.ended files)

pub returns-in-Settle-clause-told : goal.returns-in-Settle-clause-told
returns-in-Settle-clause-told g c =
    let files = g.P.Shelf.files c.args.shelf.now in
    let item = Item.Settle c.in-Settle.device in
    ended-told c.play_settle.result (Plays g.N.Naming.name.basis (files_alone files) c.args.pass.now.number item) c.args.pass.now c.play_settle.new.pass (g.P.Shelf.faults c.args.shelf.now)
    (quiet-item g.N.Naming.name.basis (files_alone files) c.args.pass.now.number item refl) (c.play_settle.ensures.ended files)

pub returns-in-Unplug-clause-told : goal.returns-in-Unplug-clause-told
returns-in-Unplug-clause-told g c =
    let files = g.P.Shelf.files c.args.shelf.now in
    let item = Item.Unplug c.in-Unplug.device in
    ended-told c.play_unplug.result (Plays g.N.Naming.name.basis (files_alone files) c.args.pass.now.number item) c.args.pass.now c.play_unplug.new.pass (g.P.Shelf.faults c.args.shelf.now)
    (quiet-item g.N.Naming.name.basis (files_alone files) c.args.pass.now.number item refl) (c.play_unplug.ensures.ended files)

pub returns-in-Plug-clause-told : goal.returns-in-Plug-clause-told
returns-in-Plug-clause-told g c =
    let files = g.P.Shelf.files c.args.shelf.now in
    let item = Item.Plug c.in-Plug.device in
    ended-told c.play_plug.result (Plays g.N.Naming.name.basis (files_alone files) c.args.pass.now.number item) c.args.pass.now c.play_plug.new.pass (g.P.Shelf.faults c.args.shelf.now)
    (quiet-item g.N.Naming.name.basis (files_alone files) c.args.pass.now.number item refl) (c.play_plug.ensures.ended files)
