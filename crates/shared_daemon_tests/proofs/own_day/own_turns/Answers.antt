use Rattle.std.proofs.Common.{List, subst, sym}
use Rattle.shared_daemon.specs.declared.entry.Entry.{Entry}
use Rattle.shared_daemon_tests.specs.Waits.{IsPutOff}
use Rattle.shared_daemon_tests.proofs.Kept.{has-put-off}
use Rattle.shared_daemon_tests.proofs.own_day.own_turns.Goals as goal

pub ask_pending_held-hold-requires-clause-waits : goal.ask_pending_held-hold-requires-clause-waits
ask_pending_held-hold-requires-clause-waits g c =
    subst (λ (l : List Entry). IsPutOff g.N.Naming.name c.args.tasks.now.put_off l) (sym c.requires.fresh.0) c.requires.put_off

pub judge-again-requires-clause-row : goal.judge-again-requires-clause-row
judge-again-requires-clause-row g c = has-put-off g.N.Naming.name c.args.tasks.now.put_off g.N.Naming.name.start c.requires.put_off
