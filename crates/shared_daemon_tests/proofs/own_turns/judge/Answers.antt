use Rattle.shared_daemon_tests.proofs.Kept.{has-row}
use Rattle.shared_daemon_tests.proofs.Own.{judged-free}
use Rattle.shared_daemon_tests.proofs.own_turns.judge.Goals as goal

pub judge-requires-clause-row : goal.judge-requires-clause-row
judge-requires-clause-row g c = has-row g.N.Naming.name c.args.entry c.args.pass.now.seen c.requires.pass.log c.requires.row

pub returns-clause-free : goal.returns-clause-free
returns-clause-free g c =
    judged-free g.N.Naming.name c.args.daemon.now.id c.args.pass.now c.judge.new.pass c.requires.pass c.judge.ensures.same c.args.entry c.in-Ok.judged c.in-Ok.ensures.turn c.requires.free
