use Rattle.std.proofs.Common.{inl, inr, pos, ◌∷◌, [], refl, Ok, Err}
use Rattle.std.proofs.lemmas.Result.{err_from_is_err_and}
use Rattle.sqlite.specs.declared.types.Value.TheVariants.{Int}
use Rattle.sqlite.specs.Held.{state}
use Rattle.history_sqlite.specs.Causes.{copy_text}
use Rattle.history_sqlite.proofs.Copying.{copied}
use Rattle.history_sqlite.proofs.TakingOver.{inside_keeps}
use Rattle.history_sqlite.proofs.taking_over.insert_block.Goals as goal

pub returns-clause-copies : goal.returns-clause-copies
returns-clause-copies g c clean older h =
    let ran = c.in_ok-execute.ensures.runs clean h.inside in
    copied (state g.D.Store c.args.transaction.now.conn.now) (state g.D.Store c.execute.new.self.conn.now) c.args.from c.in_ok-execute.field-0 ran.1.mode
    (rw c.values_after-values.ensures at ran.0) older h

pub returns-in_err-execute-clause-cause : goal.returns-in_err-execute-clause-cause
returns-in_err-execute-clause-cause g c clean inside =
    let p = err_from_is_err_and c.from_residual.result c.from_residual.ensures.1 in
    let ran = rw c.values_after-values.ensures at (c.in_err-execute.ensures.runs clean inside) in
    rw (p.1, p.2) (copy_text, Int (pos c.args.from) ∷ [], inr (inl (c.args.from, refl, refl)), c.args.transaction.now.conn.now, c.execute.new.self.conn.now, ran)

pub returns-clause-kept : goal.returns-clause-kept
returns-clause-kept g c clean inside =
    inside_keeps _ _ (state g.D.Store c.args.transaction.now.conn.now) (state g.D.Store c.execute.new.self.conn.now) (Ok c.in_ok-execute.field-0) (c.in_ok-execute.ensures.runs clean inside)

pub returns-in_err-execute-clause-kept : goal.returns-in_err-execute-clause-kept
returns-in_err-execute-clause-kept g c clean inside =
    inside_keeps _ _ (state g.D.Store c.args.transaction.now.conn.now) (state g.D.Store c.execute.new.self.conn.now) (Err c.in_err-execute.field-0.0) (c.in_err-execute.ensures.runs clean inside)
