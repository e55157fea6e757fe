use Rattle.std.proofs.Common.{subst, sym}
use Rattle.history_keeper.specs.Keepers.{StillTold}
use Rattle.history_file.proofs.on_heap.OnHeapKeeper.load.Goals as goal

pub returns-clause-unchanged : goal.returns-clause-unchanged
returns-clause-unchanged g c =
    subst (λ (k : g.row.K.Denot). StillTold (g.K.Keeper.tells k) (g.K.Keeper.tells c.load.new.self)) c.deref_mut.ensures.value c.load.ensures.unchanged

pub returns-clause-settled : goal.returns-clause-settled
returns-clause-settled g c = λ first was.
    c.load.ensures.settled first.keeper.value (subst (λ (k : g.row.K.Denot). g.K.Keeper.settled first.keeper.value k) (sym c.deref_mut.ensures.value) was)
