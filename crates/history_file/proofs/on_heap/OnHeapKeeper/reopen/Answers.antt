use Rattle.std.proofs.Common.{subst}
use Rattle.std.specs.Prelude.{Result, Ok, Err, OnErr, OnOk}
use Rattle.history_keeper.specs.Keepers.{Reopened, StillSettled}
use Rattle.history_file.proofs.on_heap.OnHeapKeeper.reopen.Goals as goal

on-err : {T E P Q : Type 0} (r : Result T E) → OnErr r P → (P → Q) → OnErr r Q
on-err (Ok value) h f = tt
on-err (Err why) h f = f h

pub returns-clause-reopened : goal.returns-clause-reopened
returns-clause-reopened g c =
    subst (λ (k : g.row.K.Denot). Reopened c.reopen.result (g.K.Keeper.tells k) (g.K.Keeper.doubt k) (g.K.Keeper.tells c.reopen.new.self) (g.K.Keeper.doubt c.reopen.new.self))
    c.deref_mut.ensures.value c.reopen.ensures.reopened

pub returns-clause-settles : goal.returns-clause-settles
returns-clause-settles g c =
    subst (λ (k : g.row.K.Denot). OnOk c.reopen.result (g.K.Keeper.settled k c.reopen.new.self)) c.deref_mut.ensures.value c.reopen.ensures.settles

pub returns-clause-settled : goal.returns-clause-settled
returns-clause-settled g c =
    on-err c.reopen.result
    (subst (λ (k : g.row.K.Denot). OnErr c.reopen.result (StillSettled g.K.Keeper.settled k c.reopen.new.self)) c.deref_mut.ensures.value c.reopen.ensures.settled)
    (λ h first. h first.keeper.value)
