use Rattle.std.proofs.Common.{ℕ, List, ap, sym, ◌∙◌, subst}
use Rattle.daemon_core.specs.Housed.{Housed}
use Rattle.daemon_core.specs.Resumes.{note_in}
use Rattle.shared_daemon.specs.declared.entry.Entry.{Entry}
use Rattle.shared_daemon.specs.Entries.{chronicle}
use Rattle.shared_daemon.specs.Resumed.{MayResumeRow, ResumeGaveIn, ResumedIn}
use Rattle.shared_daemon.proofs.Resumptions.{resumed-adds}
use Rattle.shared_daemon.proofs.Turning.{adds, begins-still, took, was-seen}
use Rattle.shared_daemon.proofs.daemon.Daemon.resume.Goals as goal

pub resume-answer-requires : goal.resume-answer-requires
resume-answer-requires g c =
    was-seen g.N.Naming.name c.args.pass.now c.enter-turn.result (λ i seen. MayResumeRow g.N.Naming.name c.args.entry c.args.held seen) c.args.self.now.id 0 (chronicle c.state.result.now) c.requires.pass c.enter-turn.ensures.begins (sym c.requires.own)
    (c.enter-turn.ensures.list ∙ ap (λ (h : Housed g.row.K.Denot). chronicle h) (sym c.state.ensures.value)) c.requires.may

pub leave-requires-clause-begun : goal.leave-requires-clause-begun
leave-requires-clause-begun g c = (c.args.pass.now, begins-still g.N.Naming.name c.args.pass.now c.enter-turn.result c.resume-answer.new.self c.enter-turn.ensures.begins)

pub leave-requires-clause-adds : goal.leave-requires-clause-adds
leave-requires-clause-adds g c =
    adds g.N.Naming.name c.args.pass.now c.enter-turn.result 0 (chronicle c.state.result.now) (chronicle c.resume-answer.new.self) c.enter-turn.ensures.begins (sym c.requires.own)
    (c.enter-turn.ensures.list ∙ ap (λ (h : Housed g.row.K.Denot). chronicle h) (sym c.state.ensures.value))
    (resumed-adds c.args.entry (note_in c.args.held) c.resume-answer.result (chronicle c.state.result.now) (chronicle c.resume-answer.new.self) c.resume-answer.ensures.turn)

pub returns-clause-turn : goal.returns-clause-turn
returns-clause-turn g c =
    took g.N.Naming.name c.args.pass.now c.enter-turn.result (λ (i : ℕ) (met log : List Entry). ResumedIn c.args.entry (note_in c.args.held) c.resume-answer.result met log) c.leave.new.pass 0 (chronicle c.state.result.now) (chronicle c.resume-answer.new.self)
    c.enter-turn.ensures.begins (sym c.requires.own) (c.enter-turn.ensures.list ∙ ap (λ (h : Housed g.row.K.Denot). chronicle h) (sym c.state.ensures.value)) c.resume-answer.ensures.turn c.leave.ensures.seen c.leave.ensures.mine

pub returns-clause-gave : goal.returns-clause-gave
returns-clause-gave g c = subst (λ (l : List Entry). ResumeGaveIn g.N.Naming.name c.args.entry c.args.held c.resume-answer.result l) (sym c.leave.ensures.seen) c.resume-answer.ensures.gave
