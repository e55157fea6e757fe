use Rattle.std.proofs.Common.{ap}
use Rattle.marks_sqlite.specs.Keeping.{Keeping}
use Rattle.marks_sqlite.proofs.MarksTold.{told_alike}
use Rattle.marks_sqlite.proofs.sql_marks.SqlMarksMarkKeeper.load.Goals as goal

pub returns-in-Ok-clause-answer : goal.returns-in-Ok-clause-answer
returns-in-Ok-clause-answer g c all t =
    let e = c.count_call.ensures in
    c.in-Ok.ensures.answer all
    (told_alike g.D.Store g.D.Lasting.supposed c.read.new.self c.count_call.new.self (ap (λ (k : Keeping g.row.D.Denot). k.connection) e) (ap (λ (k : Keeping g.row.D.Denot). k.tells) e) all t)

-- a call that was only counted tells the same
pub returns-then-is_some-clause-unchanged : goal.returns-then-is_some-clause-unchanged
returns-then-is_some-clause-unchanged g c =
    let e = c.count_fault.ensures.counted in
    told_alike g.D.Store g.D.Lasting.supposed c.args.self.now c.count_fault.new.self (ap (λ (k : Keeping g.row.D.Denot). k.connection) e) (ap (λ (k : Keeping g.row.D.Denot). k.tells) e)

pub returns-in-Ok-clause-unchanged : goal.returns-in-Ok-clause-unchanged
returns-in-Ok-clause-unchanged g c all t =
    let e = c.count_call.ensures in
    c.read.ensures.unchanged all
    (told_alike g.D.Store g.D.Lasting.supposed c.read.new.self c.count_call.new.self (ap (λ (k : Keeping g.row.D.Denot). k.connection) e) (ap (λ (k : Keeping g.row.D.Denot). k.tells) e) all t)

pub returns-in-Err-clause-unchanged : goal.returns-in-Err-clause-unchanged
returns-in-Err-clause-unchanged g c all t =
    let e = c.count_refusal.ensures.same in
    c.read.ensures.unchanged all
    (told_alike g.D.Store g.D.Lasting.supposed c.read.new.self c.count_refusal.new.self (ap (λ (k : Keeping g.row.D.Denot). k.connection) e) (ap (λ (k : Keeping g.row.D.Denot). k.tells) e) all t)
