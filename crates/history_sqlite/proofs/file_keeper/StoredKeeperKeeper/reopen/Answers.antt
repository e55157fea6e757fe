use Rattle.std.specs.Prelude.{Result, Ok, Err, OnErr}
use Rattle.history_sqlite.proofs.file_keeper.StoredKeeperKeeper.reopen.Goals as goal

on-err : {T E P Q : Type 0} (r : Result T E) → OnErr r P → (P → Q) → OnErr r Q
on-err (Ok value) h f = tt
on-err (Err why) h f = f h

pub returns-clause-still : goal.returns-clause-still
returns-clause-still g c = on-err c.reopen.result c.reopen.ensures.still (λ h first. h first.keeper)
