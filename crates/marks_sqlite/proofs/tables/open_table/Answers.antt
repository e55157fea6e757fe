use Rattle.std.proofs.Common.{inl, inr, subst, sym}
use Rattle.marks_sqlite.specs.Finding.{HasTable}
use Rattle.marks_sqlite.proofs.Refusals.{in_none, unmade_fails}
use Rattle.marks_sqlite.proofs.tables.open_table.Goals as goal

pub returns-in-Ours-clause-opens : goal.returns-in-Ours-clause-opens
returns-in-Ours-clause-opens g c clean =
    let found : HasTable c.args.connection.now.schema = rw (c.schema.ensures.value, c.in-Ours.is) at c.find_table.ensures in (λ marks holds. holds, λ blank. absurd (subst HasTable blank.schema found))

pub returns-in-Ours-clause-adopted : goal.returns-in-Ours-clause-adopted
returns-in-Ours-clause-adopted g c = let found : HasTable c.args.connection.now.schema = rw (c.schema.ensures.value, c.in-Ours.is) at c.find_table.ensures in inr found

pub returns-in-Err-clause-cause : goal.returns-in-Err-clause-cause
returns-in-Err-clause-cause g c clean =
    unmade_fails g.D.Store c.refusal_of_error.result c.args.connection.now c.make_table.new.connection
    (elim (c.in-Err.ensures.cause clean) [
      | inl one ↦ absurd (in_none c.args.connection.now.in_transaction c.is_autocommit.result c.if-not-is_autocommit.false c.is_autocommit.ensures.value one)
      | inr ran ↦ (c.in-Err.error, sym c.refusal_of_error.ensures, ran)
    ])
