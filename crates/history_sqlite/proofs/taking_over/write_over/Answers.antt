use Rattle.std.proofs.Common.{[], Ok, Err, arith, inl, inr, refl}
use Rattle.std.proofs.lemmas.Result.{err_from_is_err_and}
use Rattle.sqlite.specs.Held.{state}
use Rattle.sqlite.specs.State.{HasCleanDisk}
use Rattle.history_sqlite.proofs.TakingOver.{made_over, renumbered, survives_both, inside_keeps, keeps_then}
use Rattle.history_sqlite.specs.Causes.{renumber_text}
use Rattle.history_sqlite.specs.Tables.{create_history_text}
use Rattle.history_sqlite.proofs.taking_over.write_over.Goals as goal

pub returns-clause-copies : goal.returns-clause-copies
returns-clause-copies g c clean older untaken many =
    let start = c.args.transaction.now.conn.now in
    let one = c.execute.new.self.conn.now in
    let two = c.insert_each.new.transaction.conn.now in
    let three = c.execute-2.new.self.conn.now in
    let clean2 : HasCleanDisk (state g.D.Store two) = omega (arith, clean, c.execute-2.ensures.survives.clean) in
    let clean1 : HasCleanDisk (state g.D.Store one) = omega (arith, clean2, c.insert_each.ensures.survives.clean) in
    let first = c.in_ok-execute.ensures.runs clean1 untaken.inside in
    let made = made_over (state g.D.Store start) (state g.D.Store one) older c.in_ok-execute.field-0 untaken first.1.mode first.0 in
    let all = c.in_ok-insert_each.ensures.copies clean2 older made many in
    let last = c.in_ok-execute-2.ensures.runs clean all.inside in
    renumbered (state g.D.Store two) (state g.D.Store three) older c.in_ok-execute-2.field-0 all last.1.mode last.0

pub returns-in_err-execute-clause-cause : goal.returns-in_err-execute-clause-cause
returns-in_err-execute-clause-cause g c clean inside =
    let p = err_from_is_err_and c.from_residual.result c.from_residual.ensures.1 in
    rw (p.1, p.2) (create_history_text, [], inl (refl, refl), c.args.transaction.now.conn.now, c.execute.new.self.conn.now, c.in_err-execute.ensures.runs clean inside)

pub returns-in_err-insert_each-clause-cause : goal.returns-in_err-insert_each-clause-cause
returns-in_err-insert_each-clause-cause g c clean inside =
    let p = err_from_is_err_and c.from_residual-in_err-insert_each.result c.from_residual-in_err-insert_each.ensures.1 in
    let clean1 : HasCleanDisk (state g.D.Store c.execute.new.self.conn.now) = omega (arith, clean, c.insert_each.ensures.survives.clean) in
    let first = c.in_ok-execute.ensures.runs clean1 inside in
    rw (p.1, p.2) (c.in_err-insert_each.ensures.cause clean first.1.mode)

pub returns-in_err-execute-2-clause-cause : goal.returns-in_err-execute-2-clause-cause
returns-in_err-execute-2-clause-cause g c clean inside =
    let p = err_from_is_err_and c.from_residual-in_err-execute-2.result c.from_residual-in_err-execute-2.ensures.1 in
    let clean2 : HasCleanDisk (state g.D.Store c.insert_each.new.transaction.conn.now) = omega (arith, clean, c.execute-2.ensures.survives.clean) in
    let clean1 : HasCleanDisk (state g.D.Store c.execute.new.self.conn.now) = omega (arith, clean2, c.insert_each.ensures.survives.clean) in
    let first = c.in_ok-execute.ensures.runs clean1 inside in
    let still = c.in_ok-insert_each.ensures.inside clean2 first.1.mode in
    rw (p.1, p.2) (renumber_text, [], inr (inr (refl, refl)), c.insert_each.new.transaction.conn.now, c.execute-2.new.self.conn.now, c.in_err-execute-2.ensures.runs clean still)

pub returns-clause-survives : goal.returns-clause-survives
returns-clause-survives g c =
    survives_both (state g.D.Store c.args.transaction.now.conn.now) (state g.D.Store c.insert_each.new.transaction.conn.now) (state g.D.Store c.execute-2.new.self.conn.now)
    (survives_both (state g.D.Store c.args.transaction.now.conn.now) (state g.D.Store c.execute.new.self.conn.now) (state g.D.Store c.insert_each.new.transaction.conn.now) c.execute.ensures.survives c.insert_each.ensures.survives)
    c.execute-2.ensures.survives

pub returns-in_err-execute-2-clause-survives : goal.returns-in_err-execute-2-clause-survives
returns-in_err-execute-2-clause-survives g c =
    survives_both (state g.D.Store c.args.transaction.now.conn.now) (state g.D.Store c.insert_each.new.transaction.conn.now) (state g.D.Store c.execute-2.new.self.conn.now)
    (survives_both (state g.D.Store c.args.transaction.now.conn.now) (state g.D.Store c.execute.new.self.conn.now) (state g.D.Store c.insert_each.new.transaction.conn.now) c.execute.ensures.survives c.insert_each.ensures.survives)
    c.execute-2.ensures.survives

pub returns-in_err-insert_each-clause-survives : goal.returns-in_err-insert_each-clause-survives
returns-in_err-insert_each-clause-survives g c =
    survives_both (state g.D.Store c.args.transaction.now.conn.now) (state g.D.Store c.execute.new.self.conn.now) (state g.D.Store c.insert_each.new.transaction.conn.now) c.execute.ensures.survives c.insert_each.ensures.survives

pub returns-clause-inside : goal.returns-clause-inside
returns-clause-inside g c clean inside =
    let clean2 : HasCleanDisk (state g.D.Store c.insert_each.new.transaction.conn.now) = omega (arith, clean, c.execute-2.ensures.survives.clean) in
    let clean1 : HasCleanDisk (state g.D.Store c.execute.new.self.conn.now) = omega (arith, clean2, c.insert_each.ensures.survives.clean) in
    let first = c.in_ok-execute.ensures.runs clean1 inside in
    let still = c.in_ok-insert_each.ensures.inside clean2 first.1.mode in
    (c.in_ok-execute-2.ensures.runs clean still).1.mode

pub returns-clause-kept : goal.returns-clause-kept
returns-clause-kept g c clean inside =
    let start = state g.D.Store c.args.transaction.now.conn.now in
    let one = state g.D.Store c.execute.new.self.conn.now in
    let two = state g.D.Store c.insert_each.new.transaction.conn.now in
    let three = state g.D.Store c.execute-2.new.self.conn.now in
    let clean2 : HasCleanDisk two = omega (arith, clean, c.execute-2.ensures.survives.clean) in
    let clean1 : HasCleanDisk one = omega (arith, clean2, c.insert_each.ensures.survives.clean) in
    let first = c.in_ok-execute.ensures.runs clean1 inside in
    let still = c.in_ok-insert_each.ensures.inside clean2 first.1.mode in
    keeps_then start two three (keeps_then start one two (inside_keeps _ _ start one (Ok c.in_ok-execute.field-0) first) (c.insert_each.ensures.kept clean2 first.1.mode))
    (inside_keeps _ _ two three (Ok c.in_ok-execute-2.field-0) (c.in_ok-execute-2.ensures.runs clean still))

pub returns-in_err-execute-clause-kept : goal.returns-in_err-execute-clause-kept
returns-in_err-execute-clause-kept g c clean inside =
    inside_keeps _ _ (state g.D.Store c.args.transaction.now.conn.now) (state g.D.Store c.execute.new.self.conn.now) (Err c.in_err-execute.field-0.0) (c.in_err-execute.ensures.runs clean inside)

pub returns-in_err-insert_each-clause-kept : goal.returns-in_err-insert_each-clause-kept
returns-in_err-insert_each-clause-kept g c clean inside =
    let start = state g.D.Store c.args.transaction.now.conn.now in
    let one = state g.D.Store c.execute.new.self.conn.now in
    let two = state g.D.Store c.insert_each.new.transaction.conn.now in
    let clean1 : HasCleanDisk one = omega (arith, clean, c.insert_each.ensures.survives.clean) in
    let first = c.in_ok-execute.ensures.runs clean1 inside in
    keeps_then start one two (inside_keeps _ _ start one (Ok c.in_ok-execute.field-0) first) (c.insert_each.ensures.kept clean first.1.mode)

pub returns-in_err-execute-2-clause-kept : goal.returns-in_err-execute-2-clause-kept
returns-in_err-execute-2-clause-kept g c clean inside =
    let start = state g.D.Store c.args.transaction.now.conn.now in
    let one = state g.D.Store c.execute.new.self.conn.now in
    let two = state g.D.Store c.insert_each.new.transaction.conn.now in
    let three = state g.D.Store c.execute-2.new.self.conn.now in
    let clean2 : HasCleanDisk two = omega (arith, clean, c.execute-2.ensures.survives.clean) in
    let clean1 : HasCleanDisk one = omega (arith, clean2, c.insert_each.ensures.survives.clean) in
    let first = c.in_ok-execute.ensures.runs clean1 inside in
    let still = c.in_ok-insert_each.ensures.inside clean2 first.1.mode in
    keeps_then start two three (keeps_then start one two (inside_keeps _ _ start one (Ok c.in_ok-execute.field-0) first) (c.insert_each.ensures.kept clean2 first.1.mode))
    (inside_keeps _ _ two three (Err c.in_err-execute-2.field-0.0) (c.in_err-execute-2.ensures.runs clean still))
