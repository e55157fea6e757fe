use Rattle.std.proofs.Common.{◌≡◌, ◌∙◌, None, Some, inl, inr, refl, sym, ap}
use Rattle.std.proofs.lemmas.Result.{IfErr-weaker, err_from_is_err_and, on_ok_weaker, on_err_weaker}
use Rattle.marks_sqlite.specs.Keeping.{Keeping, doubtful}
use Rattle.marks_sqlite.specs.Telling.{TellsMarks, database}
use Rattle.marks_sqlite.proofs.MarksTold.{reopened_written, settled, told_alike}
use Rattle.marks_sqlite.proofs.sql_marks.SqlMarks.settle.Goals as goal

pub returns-in-Some-clause-settles : goal.returns-in-Some-clause-settles
returns-in-Some-clause-settles g c clean =
    let old = c.args.self.now in
    let doubt : old.doubt ≡ Some c.in-Some.doubt = sym (ap (λ (k : Keeping g.row.D.Denot). k.doubt) c.read.ensures.same) ∙ sym (ap (λ (k : Keeping g.row.D.Denot). k.doubt) c.self-2.view_is) ∙ c.in-Some.is in
    on_ok_weaker c.write.result
    (settled (database g.D.Store old) (database g.D.Store c.read.new.self) (database g.D.Store c.write.new.self) old.doubt c.in-Some.doubt c.in_ok-_marks._marks.items doubt c.if-doubt.true
    (c.in_ok-_marks.ensures.loads (c.write.ensures.clean clean)))
    (c.write.ensures.adds clean)

pub returns-in-Some-clause-refused : goal.returns-in-Some-clause-refused
returns-in-Some-clause-refused g c clean is_open =
    let loads = c.in_ok-_marks.ensures.loads (c.write.ensures.clean clean) in on_err_weaker c.write.result (λ keeps marks holds. keeps marks (loads marks holds).1) (c.write.ensures.refused clean is_open)

pub returns-in-Some-clause-failed : goal.returns-in-Some-clause-failed
returns-in-Some-clause-failed g c clean =
    let old = c.args.self.now in
    let doubt : old.doubt ≡ Some c.in-Some.doubt = sym (ap (λ (k : Keeping g.row.D.Denot). k.doubt) c.read.ensures.same) ∙ sym (ap (λ (k : Keeping g.row.D.Denot). k.doubt) c.self-2.view_is) ∙ c.in-Some.is in
    IfErr-weaker c.write.result _ _ (λ why failed. inr (c.in-Some.doubt, doubt, c.read.new.self.connection, failed)) (c.write.ensures.failed clean)

pub returns-in-Some-clause-reopened : goal.returns-in-Some-clause-reopened
returns-in-Some-clause-reopened g c =
    let doubt : c.args.self.now.doubt ≡ Some c.in-Some.doubt = sym (ap (λ (k : Keeping g.row.D.Denot). k.doubt) c.read.ensures.same) ∙ sym (ap (λ (k : Keeping g.row.D.Denot). k.doubt) c.self-2.view_is) ∙ c.in-Some.is in
    let tells = TellsMarks g.D.Store g.D.Lasting.supposed in
    reopened_written tells c.args.self.now c.read.new.self c.write.new.self c.write.result c.in-Some.doubt doubt
    (ap (λ (k : Keeping g.row.D.Denot). k.doubt) c.read.ensures.same) c.read.ensures.unchanged c.write.ensures.made c.write.ensures.no_doubt c.write.ensures.unchanged c.write.ensures.same

pub returns-clause-reopened : goal.returns-clause-reopened
returns-clause-reopened g c =
    let s = c.self-in_default.inside in
    let e = c.self-in_default.view_is in
    let new : Keeping g.row.D.Denot = record { connection = s.connection; doubt = None; plan = s.plan.items; calls = s.calls; faults = s.faults; tells = s.tells } in (
      λ all t.
          let before = told_alike g.D.Store g.D.Lasting.supposed c.read.new.self new (ap (λ (k : Keeping g.row.D.Denot). k.connection) e) (ap (λ (k : Keeping g.row.D.Denot). k.tells) e) all t in
          (all, c.read.ensures.unchanged all before, inl refl),
      refl,
    )

pub returns-in_err-_marks-clause-reopened : goal.returns-in_err-_marks-clause-reopened
returns-in_err-_marks-clause-reopened g c =
    let p = err_from_is_err_and c.from_residual.result c.from_residual.ensures.1 in rw p.1 (c.read.ensures.unchanged, ap (λ (k : Keeping g.row.D.Denot). doubtful k) c.read.ensures.same)
