use Rattle.std.proofs.Common.{refl}
use Rattle.update_log.specs.declared.event.Event.{Event}
use Rattle.daemon_core.specs.Holds.{back_of, held_by}
use Rattle.claim_runs.proofs.Clients.{hold-gone}
use Rattle.shared_daemon_tests.proofs.Plays.{back-quiet}
use Rattle.shared_daemon_tests.proofs.clients.give_up.Goals as goal

pub returns-clause-free : goal.returns-clause-free
returns-clause-free g c =
    let ticket = c.args.given.ticket in
    hold-gone g.N.Naming.name c.args.daemon.now.id c.args.pass.now c.give_up.new.pass c.requires.pass c.give_up.ensures.same c.give_up.ensures.turn (held_by ticket c.args.given.blocks.count)
    (Event.GiveBack c.args.pass.now.number (back_of ticket.pending ticket.request)) (λ past. refl) (λ past. back-quiet c.args.pass.now.number ticket.pending ticket.request past) c.requires.held c.give_up.ensures.turn.does
