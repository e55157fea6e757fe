use Rattle.std.proofs.Common.{inl}
use Rattle.fwupd_service.proofs.LoadLaws.{judged_says, quiet-ok, quiet-other, rows_told}
use Rattle.fwupd_service.proofs.loading.load.Goals as goal

pub returns-in-Ok : goal.returns-in-Ok
returns-in-Ok g c =
    let e = c.in-Ok.ensures in
    record {
      says = judged_says _ _ _ _ _ _ (rw c.deref.ensures.value at c.judged-stop.ensures) (rows_told _ _ _ e.unchanged e.answer);
      told_stay = e.unchanged;
      no_doubt = e.no_doubt;
      quiet = quiet-ok _ _ _ _ e.quiet;
      counts = e.counts;
    }

pub returns-in-Err-Fault : goal.returns-in-Err-Fault
returns-in-Err-Fault g c =
    let e = c.load.ensures in
    record {
      says = rw (c.nothing.ensures.stop) (c.nothing.ensures.rows, e.cause (rw c.in-Err-Fault.field-0-is at c.in-Err-Fault.is));
      told_stay = e.unchanged;
      no_doubt = e.no_doubt;
      quiet = inl c.nothing.ensures.stop;
      counts = e.counts;
    }

pub returns-in-Err-NoMemory : goal.returns-in-Err-NoMemory
returns-in-Err-NoMemory g c =
    let e = c.load.ensures in
    record {
      says = rw c.nothing-in-Err-NoMemory.ensures.stop (inl c.nothing-in-Err-NoMemory.ensures.rows);
      told_stay = e.unchanged;
      no_doubt = e.no_doubt;
      quiet = quiet-other _ _ _ (rw c.in-Err-NoMemory.field-0-is at c.in-Err-NoMemory.is) e.quiet;
      counts = e.counts;
    }
