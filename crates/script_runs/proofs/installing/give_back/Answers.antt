use Rattle.client_plays.specs.Tools.{files_alone}
use Rattle.std.proofs.Common.{sym, subst, refl}
use Rattle.client_plays.specs.declared.played.Played.{Played}
use Rattle.client_plays.specs.Plays.{ClaimPlays}
use Rattle.daemon_core.specs.Fetches.{block_count, note_of}
use Rattle.daemon_core.specs.Holds.{held_by, back_of}
use Rattle.script_runs.specs.Passes.{Ended}
use Rattle.script_runs.proofs.InstallEnds.{claim-left}
use Rattle.update_log.specs.declared.event.Event.{Event}
use Rattle.script_runs.proofs.FaultEnds.{turn-quiet}
use Rattle.script_runs.proofs.installing.give_back.Goals as goal

pub returns-clause-ended : goal.returns-clause-ended
returns-clause-ended g c =
    let s = c.args.stopped in
    λ files f. subst (λ (x : Played). Ended x (ClaimPlays g.N.Naming.name.basis (files_alone files) c.args.pass.now.number s.ticket.request s.ticket.release) c.args.pass.now c.give_up.new.pass) (sym c.stopped_by.ensures)
    (claim-left g.N.Naming.name c.args.runner.now.daemon.now.id (files_alone files) s.ticket.request c.args.pass.now c.give_up.new.pass c.requires.pass c.give_up.ensures.same c.give_up.ensures.turn s.ticket.release (note_of s.fetched) s.stop s.ticket.pending
    (held_by s.ticket (block_count s.fetched)) f c.requires.halted c.requires.held c.give_up.ensures.turn.does)

pub returns-clause-told : goal.returns-clause-told
returns-clause-told g c =
    let s = c.args.stopped in
    turn-quiet g.N.Naming.name c.args.runner.now.daemon.now.id c.args.pass.now c.give_up.new.pass c.requires.pass c.give_up.ensures.same c.give_up.ensures.turn
    (Event.GiveBack c.args.pass.now.number (back_of s.ticket.pending s.ticket.request)) refl refl refl c.give_up.ensures.turn.does
