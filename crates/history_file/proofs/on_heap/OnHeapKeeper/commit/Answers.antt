use Rattle.std.proofs.Common.{subst}
use Rattle.history_keeper.specs.Keepers.{Committed}
use Rattle.history_file.proofs.on_heap.OnHeapKeeper.commit.Goals as goal

pub commit-requires-clause-suits : goal.commit-requires-clause-suits
commit-requires-clause-suits g c = λ all told.
    c.requires.suits all (subst (λ (k : g.row.K.Denot). g.K.Keeper.tells k all) c.deref_mut.ensures.value told)

pub returns-clause-committed : goal.returns-clause-committed
returns-clause-committed g c =
    subst (λ (k : g.row.K.Denot). Committed c.args.change.now c.commit.result (g.K.Keeper.tells k) (g.K.Keeper.tells c.commit.new.self) (g.K.Keeper.doubt c.commit.new.self))
    c.deref_mut.ensures.value c.commit.ensures.committed
