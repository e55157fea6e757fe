use Rattle.std.specs.Prelude.{Result, Ok, Err, OnErr}
use Rattle.store_tests.proofs.stopping.StoppingKeeperKeeper.reopen.Goals as goal

on-err : {T E P Q : Type 0} (r : Result T E) → OnErr r P → (P → Q) → OnErr r Q
on-err (Ok value) h f = tt
on-err (Err why) h f = f h

pub returns-clause-settled : goal.returns-clause-settled
returns-clause-settled c = on-err c.reopen.result c.reopen.ensures.still (λ h first. h first.keeper)
