use Rattle.std.proofs.Common.{All, List, ap, ◌∙◌, subst}
use Rattle.history_keeper.specs.Signs.{signs_of}
use Rattle.daemon_core.specs.Housed.{Housed}
use Rattle.turn_lock.specs.Shown.{IsFresh}
use Rattle.shared_daemon.specs.declared.entry.Entry.{Entry}
use Rattle.shared_daemon.specs.Entries.{chronicle}
use Rattle.shared_daemon.specs.Names.{HasNothing}
use Rattle.shared_daemon.proofs.Closed.{passes-begun, start-named}
use Rattle.shared_daemon.proofs.daemon.Daemon.begin.Goals as goal

pub invariant_of-result : goal.invariant_of-result
invariant_of-result g c =
    record {
      start = c.in-Ok.ensures.start ∙ ap (λ (h : Housed g.row.K.Denot). chronicle h) c.of.ensures ∙ c.requires.start;
      log = start-named (signs_of g.K.Keeper.tells g.K.Keeper.doubt g.K.Keeper.faults) g.N.Naming.name c.args.house c.requires.name c.known.ensures.house_log c.requires.start;
      nothing = subst (λ (l : List Entry). HasNothing l) c.requires.start c.requires.nothing;
    }

pub returns-in-Ok-clause-passes : goal.returns-in-Ok-clause-passes
returns-in-Ok-clause-passes g c =
    passes-begun c.in-Ok.lock.id g.N.Naming.name c.in-Ok.passes.items
    (start-named (signs_of g.K.Keeper.tells g.K.Keeper.doubt g.K.Keeper.faults) g.N.Naming.name c.args.house c.requires.name c.known.ensures.house_log c.requires.start) c.in-Ok.ensures.ready
    (subst (λ (l : List Entry). All (IsFresh l) c.in-Ok.passes.items) (ap (λ (h : Housed g.row.K.Denot). chronicle h) c.of.ensures ∙ c.requires.start) c.in-Ok.ensures.fresh)
