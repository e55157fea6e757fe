use Rattle.std.proofs.Common.{◌≡◌, ◌∙◌, inr, sym, ap, subst}
use Rattle.sqlite.specs.Held.{state}
use Rattle.sqlite.specs.State.{HasCleanDisk}
use Rattle.marks_sqlite.specs.Causes.{FailsToSettle}
use Rattle.marks_sqlite.specs.Keeping.{Keeping, doubtful}
use Rattle.marks_sqlite.proofs.MarksTold.{told_alike}
use Rattle.marks_sqlite.proofs.sql_marks.SqlMarksMarkKeeper.reopen.Goals as goal

pub returns-in-Err-clause-failed : goal.returns-in-Err-clause-failed
returns-in-Err-clause-failed g c clean =
    let old = c.args.self.now in
    let same : c.count_refusal.new.self.connection ≡ c.settle.new.self.connection = ap (λ (k : Keeping g.row.D.Denot). k.connection) c.count_refusal.ensures.same in
    inr (subst (λ h. FailsToSettle g.D.Store c.in-Err.refusal old.connection h old.doubt) (sym same) (c.in-Err.ensures.failed (subst (λ h. HasCleanDisk (state g.D.Store h)) same clean)))

-- a call that was only counted tells the same
pub returns-then-is_some-clause-reopened : goal.returns-then-is_some-clause-reopened
returns-then-is_some-clause-reopened g c =
    let e = c.count_fault.ensures.counted in (
      told_alike g.D.Store g.D.Lasting.supposed c.args.self.now c.count_fault.new.self (ap (λ (k : Keeping g.row.D.Denot). k.connection) e) (ap (λ (k : Keeping g.row.D.Denot). k.tells) e),
      ap (λ (k : Keeping g.row.D.Denot). doubtful k) e,
    )

pub returns-in-Ok-clause-reopened : goal.returns-in-Ok-clause-reopened
returns-in-Ok-clause-reopened g c =
    let e = c.count_call.ensures in
    let r = c.in-Ok.ensures.reopened in (
      λ all t. r.0 all
          (told_alike g.D.Store g.D.Lasting.supposed c.settle.new.self c.count_call.new.self (ap (λ (k : Keeping g.row.D.Denot). k.connection) e) (ap (λ (k : Keeping g.row.D.Denot). k.tells) e) all t),
      ap (λ (k : Keeping g.row.D.Denot). doubtful k) e ∙ r.1,
    )

pub returns-in-Err-clause-reopened : goal.returns-in-Err-clause-reopened
returns-in-Err-clause-reopened g c =
    let e = c.count_refusal.ensures.same in
    let r = c.in-Err.ensures.reopened in (
      λ all t. r.0 all
          (told_alike g.D.Store g.D.Lasting.supposed c.settle.new.self c.count_refusal.new.self (ap (λ (k : Keeping g.row.D.Denot). k.connection) e) (ap (λ (k : Keeping g.row.D.Denot). k.tells) e) all t),
      ap (λ (k : Keeping g.row.D.Denot). doubtful k) e ∙ r.1,
    )
