use Rattle.std.proofs.Common.{◌≡◌, sym, ap, subst}
use Rattle.sqlite.specs.Held.{state}
use Rattle.sqlite.specs.State.{HasCleanDisk}
use Rattle.history_sqlite.specs.Keeping.{Keeping}
use Rattle.history_sqlite.specs.Tables.{Loads}
use Rattle.history_sqlite.proofs.TellingLemmas.{settled_alike, told_alike}
use Rattle.history_sqlite.proofs.sql_keeper.SqlKeeperKeeper.load.Goals as goal

pub returns-in-Ok-clause-loads : goal.returns-in-Ok-clause-loads
returns-in-Ok-clause-loads g c clean =
    let old = c.args.self.now in
    let same : c.count_call.new.self.connection ≡ c.read.new.self.connection = ap (λ (k : Keeping g.row.D.Denot). k.connection) c.count_call.ensures in
    subst (λ h. Loads (state g.D.Store old.connection) (state g.D.Store h) c.in-Ok.rows.items) (sym same) (c.in-Ok.ensures.loads (subst (λ h. HasCleanDisk (state g.D.Store h)) same clean))

pub returns-in-Ok-clause-answer : goal.returns-in-Ok-clause-answer
returns-in-Ok-clause-answer g c all t =
    let e = c.count_call.ensures in
    c.in-Ok.ensures.answer all
    (told_alike g.D.Store c.read.new.self c.count_call.new.self (ap (λ (k : Keeping g.row.D.Denot). k.connection) e) g.D.Lasting.supposed (ap (λ (k : Keeping g.row.D.Denot). k.tells) e) all t)

-- a call that was only counted tells the same
pub returns-then-is_some-clause-unchanged : goal.returns-then-is_some-clause-unchanged
returns-then-is_some-clause-unchanged g c =
    let e = c.count_fault.ensures.counted in
    told_alike g.D.Store c.args.self.now c.count_fault.new.self (ap (λ (k : Keeping g.row.D.Denot). k.connection) e) g.D.Lasting.supposed (ap (λ (k : Keeping g.row.D.Denot). k.tells) e)

pub returns-then-is_some-clause-settled : goal.returns-then-is_some-clause-settled
returns-then-is_some-clause-settled g c =
    let e = c.count_fault.ensures.counted in
    settled_alike g.D.Store c.args.self.now c.count_fault.new.self (ap (λ (k : Keeping g.row.D.Denot). k.connection) e) (ap (λ (k : Keeping g.row.D.Denot). k.doubt) e)

pub returns-in-Ok-clause-unchanged : goal.returns-in-Ok-clause-unchanged
returns-in-Ok-clause-unchanged g c all t =
    let e = c.count_call.ensures in
    c.read.ensures.unchanged all
    (told_alike g.D.Store c.read.new.self c.count_call.new.self (ap (λ (k : Keeping g.row.D.Denot). k.connection) e) g.D.Lasting.supposed (ap (λ (k : Keeping g.row.D.Denot). k.tells) e) all t)

pub returns-in-Ok-clause-settled : goal.returns-in-Ok-clause-settled
returns-in-Ok-clause-settled g c first s =
    let e = c.count_call.ensures in
    settled_alike g.D.Store c.read.new.self c.count_call.new.self (ap (λ (k : Keeping g.row.D.Denot). k.connection) e) (ap (λ (k : Keeping g.row.D.Denot). k.doubt) e) first (c.read.ensures.settled first s)

pub returns-in-Err-clause-unchanged : goal.returns-in-Err-clause-unchanged
returns-in-Err-clause-unchanged g c all t =
    let e = c.count_refusal.ensures.same in
    c.read.ensures.unchanged all
    (told_alike g.D.Store c.read.new.self c.count_refusal.new.self (ap (λ (k : Keeping g.row.D.Denot). k.connection) e) g.D.Lasting.supposed (ap (λ (k : Keeping g.row.D.Denot). k.tells) e) all t)

pub returns-in-Err-clause-settled : goal.returns-in-Err-clause-settled
returns-in-Err-clause-settled g c first s =
    let e = c.count_refusal.ensures.same in
    settled_alike g.D.Store c.read.new.self c.count_refusal.new.self (ap (λ (k : Keeping g.row.D.Denot). k.connection) e) (ap (λ (k : Keeping g.row.D.Denot). k.doubt) e) first (c.read.ensures.settled first s)
