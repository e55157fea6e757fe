use Rattle.std.proofs.Common.{◌≡◌, ◌∙◌, inr, sym, ap, subst}
use Rattle.sqlite.specs.Held.{state}
use Rattle.sqlite.specs.State.{HasCleanDisk}
use Rattle.history_sqlite.specs.Causes.{FailsToSettle}
use Rattle.history_sqlite.specs.Keeping.{Keeping, doubtful}
use Rattle.history_sqlite.specs.Telling.{Settles}
use Rattle.history_sqlite.proofs.TellingLemmas.{settled_alike, told_alike}
use Rattle.history_sqlite.proofs.sql_keeper.SqlKeeperKeeper.reopen.Goals as goal

pub returns-in-Err-clause-failed : goal.returns-in-Err-clause-failed
returns-in-Err-clause-failed g c clean =
    let old = c.args.self.now in
    let same : c.count_refusal.new.self.connection ≡ c.settle.new.self.connection = ap (λ (k : Keeping g.row.D.Denot). k.connection) c.count_refusal.ensures.same in
    inr (subst (λ h. FailsToSettle g.D.Store c.in-Err.refusal old.connection h old.doubt) (sym same) (c.in-Err.ensures.failed (subst (λ h. HasCleanDisk (state g.D.Store h)) same clean)))

-- a call that was only counted tells the same
pub returns-then-is_some-clause-reopened : goal.returns-then-is_some-clause-reopened
returns-then-is_some-clause-reopened g c =
    let e = c.count_fault.ensures.counted in (
      told_alike g.D.Store c.args.self.now c.count_fault.new.self (ap (λ (k : Keeping g.row.D.Denot). k.connection) e) g.D.Lasting.supposed (ap (λ (k : Keeping g.row.D.Denot). k.tells) e),
      ap (λ (k : Keeping g.row.D.Denot). doubtful k) e,
    )

pub returns-then-is_some-clause-still : goal.returns-then-is_some-clause-still
returns-then-is_some-clause-still g c =
    let e = c.count_fault.ensures.counted in
    settled_alike g.D.Store c.args.self.now c.count_fault.new.self (ap (λ (k : Keeping g.row.D.Denot). k.connection) e) (ap (λ (k : Keeping g.row.D.Denot). k.doubt) e)

pub returns-in-Ok-clause-reopened : goal.returns-in-Ok-clause-reopened
returns-in-Ok-clause-reopened g c =
    let e = c.count_call.ensures in
    let r = c.in-Ok.ensures.reopened in (
      λ all t. r.0 all
          (told_alike g.D.Store c.settle.new.self c.count_call.new.self (ap (λ (k : Keeping g.row.D.Denot). k.connection) e) g.D.Lasting.supposed (ap (λ (k : Keeping g.row.D.Denot). k.tells) e) all t),
      ap (λ (k : Keeping g.row.D.Denot). doubtful k) e ∙ r.1,
    )

pub returns-in-Ok-clause-settled : goal.returns-in-Ok-clause-settled
returns-in-Ok-clause-settled g c =
    let e = c.count_call.ensures in
    let same : c.count_call.new.self.connection ≡ c.settle.new.self.connection = ap (λ (k : Keeping g.row.D.Denot). k.connection) e in
    record {
      no_doubt = ap (λ (k : Keeping g.row.D.Denot). k.doubt) e ∙ c.in-Ok.ensures.clear;
      settles = λ clean is_open. subst (λ h. Settles (state g.D.Store c.args.self.now.connection) (state g.D.Store h) c.args.self.now.doubt) (sym same) (c.in-Ok.ensures.settles (subst (λ h. HasCleanDisk (state g.D.Store h)) same clean));
    }

pub returns-in-Err-clause-reopened : goal.returns-in-Err-clause-reopened
returns-in-Err-clause-reopened g c =
    let e = c.count_refusal.ensures.same in
    let r = c.in-Err.ensures.reopened in (
      λ all t. r.0 all
          (told_alike g.D.Store c.settle.new.self c.count_refusal.new.self (ap (λ (k : Keeping g.row.D.Denot). k.connection) e) g.D.Lasting.supposed (ap (λ (k : Keeping g.row.D.Denot). k.tells) e) all t),
      ap (λ (k : Keeping g.row.D.Denot). doubtful k) e ∙ r.1,
    )

pub returns-in-Err-clause-still : goal.returns-in-Err-clause-still
returns-in-Err-clause-still g c first s =
    let e = c.count_refusal.ensures.same in
    settled_alike g.D.Store c.settle.new.self c.count_refusal.new.self (ap (λ (k : Keeping g.row.D.Denot). k.connection) e) (ap (λ (k : Keeping g.row.D.Denot). k.doubt) e) first (c.in-Err.ensures.still first s)
