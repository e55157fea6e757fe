use Rattle.std.proofs.Common.{sym, subst, IsSome}
use Rattle.history_keeper.specs.Signs.{signs_of}
use Rattle.shared_daemon.proofs.named.Named.judge.Goals as goal
use Rattle.shared_daemon.proofs.Keeping.{keeps-counted, same-plans}
use Rattle.shared_daemon.proofs.Seeing.{booted-named}
use Rattle.shared_daemon.proofs.Stayed.{row-met}
use Rattle.daemon_core.specs.Housed.{Housed}
use Rattle.shared_daemon.specs.Calls.{WasSeen, JudgedIn}
use Rattle.shared_daemon.specs.Entries.{chronicle, past_seen}
use Rattle.shared_daemon.proofs.Answered.{judged-grew, judged-in}
use Rattle.update_log.specs.Known.{row_of, rows}

pub judge-requires-clause-booted : goal.judge-requires-clause-booted
judge-requires-clause-booted g c = booted-named (signs_of g.K.Keeper.tells g.K.Keeper.doubt g.K.Keeper.faults) g.N.Naming.name c.self.inside.house c.self.invariant

pub judge-requires-clause-row : goal.judge-requires-clause-row
judge-requires-clause-row g c = row-met (signs_of g.K.Keeper.tells g.K.Keeper.doubt g.K.Keeper.faults) g.N.Naming.name c.args.client c.self.inside.house c.args.entry c.self.invariant c.known.ensures.house_log (subst (λ (h : Housed g.row.K.Denot). WasSeen g.N.Naming.name c.args.client (λ seen. IsSome (row_of (rows g.N.Naming.name.basis (past_seen seen)) c.args.entry)) (chronicle h)) (sym c.self.view_is) c.requires)

pub invariant_of-self : goal.invariant_of-self
invariant_of-self g c = keeps-counted (signs_of g.K.Keeper.tells g.K.Keeper.doubt g.K.Keeper.faults) g.N.Naming.name c.args.client c.self.inside.house c.judge.new.self c.self.invariant (judged-grew c.args.client c.args.entry c.judge.result c.self.inside.house.house_log c.judge.new.self.house_log c.judge.ensures.turn) c.judge.ensures.fared c.judge.ensures.counts (same-plans (signs_of g.K.Keeper.tells g.K.Keeper.doubt g.K.Keeper.faults) g.N.Naming.name c.args.client c.self.inside.house c.judge.new.self c.self.invariant c.judge.ensures.places)

pub returns : goal.returns
returns g c = subst (λ (h : Housed g.row.K.Denot). JudgedIn g.N.Naming.name c.args.client c.args.entry c.judge.result (chronicle h) (chronicle c.judge.new.self)) c.self.view_is (judged-in (signs_of g.K.Keeper.tells g.K.Keeper.doubt g.K.Keeper.faults) g.N.Naming.name c.args.client c.args.entry c.judge.result c.self.inside.house c.judge.new.self c.self.invariant c.known.ensures.house_log c.judge.ensures.turn)
