use Rattle.std.proofs.Common.{sym, subst}
use Rattle.history_keeper.specs.Signs.{signs_of}
use Rattle.daemon_core.specs.Housed.{Housed}
use Rattle.daemon_core.specs.Resumes.{note_in}
use Rattle.shared_daemon.specs.Calls.{WasSeen}
use Rattle.shared_daemon.specs.Entries.{chronicle}
use Rattle.shared_daemon.specs.Resumed.{MayResumeRow}
use Rattle.shared_daemon.proofs.Keeping.{keeps-counted}
use Rattle.daemon_core.proofs.Planned.{resume-plans}
use Rattle.shared_daemon.proofs.Resumptions.{comes-in-met, put_off-met, resumed-gave, resumed-grew, resumed-named}
use Rattle.shared_daemon.proofs.Seeing.{booted-named}
use Rattle.shared_daemon.proofs.named.Named.resume.Goals as goal

pub resume-resumed-requires-clause-booted : goal.resume-resumed-requires-clause-booted
resume-resumed-requires-clause-booted g c = booted-named (signs_of g.K.Keeper.tells g.K.Keeper.doubt g.K.Keeper.faults) g.N.Naming.name c.self.inside.house c.self.invariant

pub resume-resumed-requires-clause-put_off : goal.resume-resumed-requires-clause-put_off
resume-resumed-requires-clause-put_off g c =
    put_off-met (signs_of g.K.Keeper.tells g.K.Keeper.doubt g.K.Keeper.faults) g.N.Naming.name c.self.inside.house c.args.entry c.args.held c.self.invariant c.known.ensures.house_log
    (subst (λ (h : Housed g.row.K.Denot). WasSeen g.N.Naming.name 0 (MayResumeRow g.N.Naming.name c.args.entry c.args.held) (chronicle h)) (sym c.self.view_is) c.requires)

pub resume-resumed-requires-clause-held : goal.resume-resumed-requires-clause-held
resume-resumed-requires-clause-held g c =
    comes-in-met (signs_of g.K.Keeper.tells g.K.Keeper.doubt g.K.Keeper.faults) g.N.Naming.name c.self.inside.house c.args.entry c.args.held c.self.invariant c.known.ensures.house_log
    (subst (λ (h : Housed g.row.K.Denot). WasSeen g.N.Naming.name 0 (MayResumeRow g.N.Naming.name c.args.entry c.args.held) (chronicle h)) (sym c.self.view_is) c.requires)

pub invariant_of-self : goal.invariant_of-self
invariant_of-self g c =
    keeps-counted (signs_of g.K.Keeper.tells g.K.Keeper.doubt g.K.Keeper.faults) g.N.Naming.name 0 c.self.inside.house c.resume-resumed.new.self c.self.invariant
    (resumed-grew c.args.entry (note_in c.args.held) c.resume-resumed.result c.self.inside.house.house_log c.resume-resumed.new.self.house_log c.resume-resumed.ensures.turn)
    c.resume-resumed.ensures.fared c.resume-resumed.ensures.counts (resume-plans g.N.Naming.name.plans c.args.entry c.args.held c.resume-resumed.result c.self.inside.house c.resume-resumed.new.self c.resume-resumed.ensures.gave c.self.invariant.planned)

pub returns-clause-turn : goal.returns-clause-turn
returns-clause-turn g c = resumed-named c.args.entry (note_in c.args.held) c.resume-resumed.result c.args.self.now c.self.inside.house c.resume-resumed.new.self c.self.view_is c.known.ensures.house_log c.resume-resumed.ensures.turn

pub returns-clause-gave : goal.returns-clause-gave
returns-clause-gave g c =
    resumed-gave (signs_of g.K.Keeper.tells g.K.Keeper.doubt g.K.Keeper.faults) g.N.Naming.name c.args.entry c.args.held c.resume-resumed.result c.self.inside.house c.resume-resumed.new.self
    (keeps-counted (signs_of g.K.Keeper.tells g.K.Keeper.doubt g.K.Keeper.faults) g.N.Naming.name 0 c.self.inside.house c.resume-resumed.new.self c.self.invariant
    (resumed-grew c.args.entry (note_in c.args.held) c.resume-resumed.result c.self.inside.house.house_log c.resume-resumed.new.self.house_log c.resume-resumed.ensures.turn)
    c.resume-resumed.ensures.fared c.resume-resumed.ensures.counts (resume-plans g.N.Naming.name.plans c.args.entry c.args.held c.resume-resumed.result c.self.inside.house c.resume-resumed.new.self c.resume-resumed.ensures.gave c.self.invariant.planned))
    c.known-2.ensures.house_log c.self.invariant.planned c.resume-resumed.ensures.gave
