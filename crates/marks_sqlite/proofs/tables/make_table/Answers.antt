use Rattle.std.proofs.Common.{inl, inr, refl, sym}
use Rattle.sqlite.specs.Held.{state}
use Rattle.sqlite.proofs.StateLemmas.{survives_weaker}
use Rattle.history_sqlite.proofs.Effects.{refused_stays}
use Rattle.history_sqlite.proofs.Opening.{in_one}
use Rattle.marks_sqlite.proofs.Marks.{blank_stays, crash_made, makes, not_again, stays}
use Rattle.marks_sqlite.proofs.tables.make_table.Goals as goal

pub returns-in-Ok-clause-opens : goal.returns-in-Ok-clause-opens
returns-in-Ok-clause-opens g c clean =
    let old = state g.D.Store c.args.connection.now in
    let new = state g.D.Store c.execute.new.self in
    let ran = c.in-Ok.ensures.runs clean in (λ marks holds. absurd (not_again old new c.in-Ok.field-0 holds.schema ran), λ blank. makes old new c.in-Ok.field-0 blank c.execute.ensures.survives.limit ran)

pub returns-in-Ok-clause-whole : goal.returns-in-Ok-clause-whole
returns-in-Ok-clause-whole g c =
    survives_weaker (state g.D.Store c.args.connection.now) (state g.D.Store c.execute.new.self) _ _ (λ clean db commits blank. crash_made (state g.D.Store c.args.connection.now) db commits blank) c.execute.ensures.survives

pub returns-in-Err-clause-whole : goal.returns-in-Err-clause-whole
returns-in-Err-clause-whole g c =
    survives_weaker (state g.D.Store c.args.connection.now) (state g.D.Store c.execute.new.self) _ _ (λ clean db commits blank. crash_made (state g.D.Store c.args.connection.now) db commits blank) c.execute.ensures.survives

pub returns-in-Err-clause-refused : goal.returns-in-Err-clause-refused
returns-in-Err-clause-refused g c clean is_open =
    let old = state g.D.Store c.args.connection.now in
    let new = state g.D.Store c.execute.new.self in
    let left = refused_stays _ _ old new c.in-Err.error (c.in-Err.ensures.runs clean) in
    let limit = c.execute.ensures.survives.limit in (
      λ marks holds. stays old new marks holds limit is_open left,
      λ blank. blank_stays old new blank (sym (c.is_autocommit.ensures.settled (rw c.is_autocommit.ensures.value (rw blank.autocommit refl)) blank.is_open)) limit is_open left,
    )

pub returns-in-Err-clause-cause : goal.returns-in-Err-clause-cause
returns-in-Err-clause-cause g c clean = inr (c.in-Err.ensures.runs clean)

pub returns-then-not-is_autocommit-clause-cause : goal.returns-then-not-is_autocommit-clause-cause
returns-then-not-is_autocommit-clause-cause g c clean = inl (in_one c.args.connection.now.in_transaction c.is_autocommit.result c.if-not-is_autocommit.true c.is_autocommit.ensures.value)
