use Rattle.std.proofs.Common.{List, ap, sym, ◌∙◌, subst}
use Rattle.history_keeper.specs.Signs.{signs_of}
use Rattle.daemon_core.specs.Housed.{Housed}
use Rattle.turn_lock.specs.Lists.{AddsAtMostOne}
use Rattle.turn_lock.specs.Shown.{LockView, PassView}
use Rattle.shared_daemon.specs.declared.entry.Entry.{Entry}
use Rattle.shared_daemon.specs.Calls.{Begins}
use Rattle.shared_daemon.specs.Entries.{chronicle, maker_of}
use Rattle.shared_daemon.proofs.Logs.{begins-trans}
use Rattle.shared_daemon.proofs.Seeing.{log-named}
use Rattle.shared_daemon.proofs.Turning.{added-begins, still-pass}
use Rattle.shared_daemon.proofs.daemon.Daemon.leave.Goals as goal

pub returns-clause-pass : goal.returns-clause-pass
returns-clause-pass g c =
    let before : PassView Entry = c.requires.begun.0 in
    let begins : Begins g.N.Naming.name before c.args.turn = c.requires.begun.1 in
    let log : List Entry = chronicle c.state.result.now in
    let adds : AddsAtMostOne maker_of c.args.turn.number c.args.turn.seen log =
    subst (λ (h : Housed g.row.K.Denot). AddsAtMostOne maker_of c.args.turn.number c.args.turn.seen (chronicle h)) (sym c.state.ensures.value) c.requires.adds in
    still-pass g.N.Naming.name before c.args.turn c.args.self.now.id c.leave.new.pass log begins
    (log-named (signs_of g.K.Keeper.tells g.K.Keeper.doubt g.K.Keeper.faults) g.N.Naming.name c.state.result.now c.known.ensures.name c.known.ensures.house_log
    (begins-trans log c.args.turn.seen g.N.Naming.name.start (added-begins c.args.turn.number c.args.turn.seen log adds) begins.meets.log.begins))
    adds (c.leave.ensures.ready.0 ∙ ap (λ (l : LockView Entry). l.id) c.self.view_is, c.leave.ensures.ready.1)
    (c.leave.ensures.same.0 ∙ sym c.requires.turn.1) c.leave.ensures.same.1 c.leave.ensures.seen c.leave.ensures.mine

pub leave-requires-clause-adds : goal.leave-requires-clause-adds
leave-requires-clause-adds g c =
    subst (λ (h : Housed g.row.K.Denot). AddsAtMostOne maker_of c.args.turn.number c.args.turn.seen (chronicle h)) (sym c.state.ensures.value) c.requires.adds
