use Rattle.std.proofs.Common.{◌≡◌, inl, inr, true, sym, subst, arith, rules, refl, ◌∙◌, None, []}
use Rattle.std.proofs.lemmas.Result.{err_from_is_err_and}
use Rattle.sqlite.specs.Held.{state}
use Rattle.sqlite.specs.Tree.{Trees}
use Rattle.sqlite.specs.State.{HasCleanDisk, Survives}
use Rattle.sqlite.proofs.StateLemmas.{survives_then}
use Rattle.sqlite.proofs.Callers.{survives_begin}
use Rattle.history_sqlite.specs.Tables.{HoldsRows, IsNumbered, MakesBoth, no_schema, schema_number}
use Rattle.history_sqlite.proofs.Making.{makes, made_within}
use Rattle.history_sqlite.proofs.Opening.{not_again, older_not_again, in_one}
use Rattle.history_sqlite.proofs.tables.make_tables.Goals as goal

pub returns-clause-opens : goal.returns-clause-opens
returns-clause-opens g c clean =
    let begun = c.transaction-transaction.ensures.begun in
    let start = c.transaction-transaction.result.conn.now in
    let one = c.execute.new.self.conn.now in
    let two = c.execute-2.new.self.conn.now in
    let three = c.execute-3.new.self.conn.now in
    let end = c.commit.new.self.0 in
    let same : end ≡ c.connection-2-1.given.0 = search rules in
    let late : HasCleanDisk (state g.D.Store end) = subst (λ h. HasCleanDisk (state g.D.Store h)) (sym same) clean in
    let clean3 : HasCleanDisk (state g.D.Store three) = omega (arith, late, c.commit.ensures.survives.clean) in
    let clean2 : HasCleanDisk (state g.D.Store two) = omega (arith, clean3, c.execute-3.ensures.survives.clean) in
    let clean1 : HasCleanDisk (state g.D.Store one) = omega (arith, clean2, c.execute-2.ensures.survives.clean) in
    let first = c.in_ok-execute.ensures.runs clean1 (rw begun) in
    let second = c.in_ok-execute-2.ensures.runs clean2 first.1.mode in
    let third = c.in_ok-execute-3.ensures.runs clean3 second.1.mode in
    let last = c.in_ok-commit.ensures.ok late in (
      λ rows holds. absurd (not_again holds.layout (state g.D.Store start) (state g.D.Store one) c.in_ok-execute.field-0 (rw begun holds.schema) first.0),
      (
        λ rows holds. absurd (older_not_again (state g.D.Store start) (state g.D.Store one) c.in_ok-execute.field-0 (rw begun holds.schema) first.0),
        λ blank.
            let was : start.schema ≡ no_schema = rw begun blank.schema in
            let limit : start.step_limit ≡ None = rw begun blank.unlimited in
            subst (λ h. HoldsRows (state g.D.Store h) []) same
            (makes (state g.D.Store start) (state g.D.Store one) (state g.D.Store two) (state g.D.Store three) (state g.D.Store end) c.in_ok-execute.field-0 c.in_ok-execute-2.field-0 c.in_ok-execute-3.field-0
            was first.0 second.0 third.0 last.1
            (c.commit.ensures.survives.limit ∙ c.execute-3.ensures.survives.limit ∙ c.execute-2.ensures.survives.limit ∙ c.execute.ensures.survives.limit ∙ limit)),
      ),
    )

pub returns-then-not-is_autocommit-clause-cause : goal.returns-then-not-is_autocommit-clause-cause
returns-then-not-is_autocommit-clause-cause g c clean = inl (in_one c.args.connection.now.in_transaction c.is_autocommit.result c.if-not-is_autocommit.true c.is_autocommit.ensures.value)

pub returns-in_err-execute-clause-cause : goal.returns-in_err-execute-clause-cause
returns-in_err-execute-clause-cause g c clean =
    let p = err_from_is_err_and c.from_residual.result c.from_residual.ensures.1 in
    let begun = c.transaction-transaction.ensures.begun in
    let late : HasCleanDisk (state g.D.Store c.drop-transaction.new.self.0) = search rules in
    let clean1 : HasCleanDisk (state g.D.Store c.execute.new.self.conn.now) = omega (arith, late, c.drop-transaction.ensures.survives.clean) in
    rw (p.1, p.2) (inr (inl (_, inl refl, c.transaction-transaction.result.conn.now, c.execute.new.self.conn.now, c.in_err-execute.ensures.runs clean1 (rw begun))))

pub returns-in_err-execute-2-clause-cause : goal.returns-in_err-execute-2-clause-cause
returns-in_err-execute-2-clause-cause g c clean =
    let p = err_from_is_err_and c.from_residual-in_err-execute-2.result c.from_residual-in_err-execute-2.ensures.1 in
    let begun = c.transaction-transaction.ensures.begun in
    let late : HasCleanDisk (state g.D.Store c.drop-transaction-in_err-execute-2.new.self.0) = search rules in
    let clean2 : HasCleanDisk (state g.D.Store c.execute-2.new.self.conn.now) = omega (arith, late, c.drop-transaction-in_err-execute-2.ensures.survives.clean) in
    let clean1 : HasCleanDisk (state g.D.Store c.execute.new.self.conn.now) = omega (arith, clean2, c.execute-2.ensures.survives.clean) in
    let first = c.in_ok-execute.ensures.runs clean1 (rw begun) in
    rw (p.1, p.2) (inr (inl (_, inr (inl refl), c.execute.new.self.conn.now, c.execute-2.new.self.conn.now, c.in_err-execute-2.ensures.runs clean2 first.1.mode)))

pub returns-in_err-execute-3-clause-cause : goal.returns-in_err-execute-3-clause-cause
returns-in_err-execute-3-clause-cause g c clean =
    let p = err_from_is_err_and c.from_residual-in_err-execute-3.result c.from_residual-in_err-execute-3.ensures.1 in
    let begun = c.transaction-transaction.ensures.begun in
    let late : HasCleanDisk (state g.D.Store c.drop-transaction-in_err-execute-3.new.self.0) = search rules in
    let clean3 : HasCleanDisk (state g.D.Store c.execute-3.new.self.conn.now) = omega (arith, late, c.drop-transaction-in_err-execute-3.ensures.survives.clean) in
    let clean2 : HasCleanDisk (state g.D.Store c.execute-2.new.self.conn.now) = omega (arith, clean3, c.execute-3.ensures.survives.clean) in
    let clean1 : HasCleanDisk (state g.D.Store c.execute.new.self.conn.now) = omega (arith, clean2, c.execute-2.ensures.survives.clean) in
    let first = c.in_ok-execute.ensures.runs clean1 (rw begun) in
    let second = c.in_ok-execute-2.ensures.runs clean2 first.1.mode in
    rw (p.1, p.2) (inr (inl (_, inr (inr refl), c.execute-2.new.self.conn.now, c.execute-3.new.self.conn.now, c.in_err-execute-3.ensures.runs clean3 second.1.mode)))

pub returns-in_err-commit-clause-cause : goal.returns-in_err-commit-clause-cause
returns-in_err-commit-clause-cause g c clean =
    let p = err_from_is_err_and c.from_residual-in_err-commit.result c.from_residual-in_err-commit.ensures.1 in
    let late : HasCleanDisk (state g.D.Store c.commit.new.self.0) = search rules in
    rw (p.1, p.2) (inr (inr (c.execute-3.new.self.conn.now, c.commit.new.self.0, c.in_err-commit.ensures.err late)))

pub returns-clause-whole : goal.returns-clause-whole
returns-clause-whole g c =
    let old = c.args.connection.now in
    let start = c.transaction-transaction.result.conn.now in
    let one = c.execute.new.self.conn.now in
    let two = c.execute-2.new.self.conn.now in
    let three = c.execute-3.new.self.conn.now in
    let end = c.commit.new.self.0 in
    let begun = c.transaction-transaction.ensures.begun in
    let P = λ (trees : Trees). MakesBoth (state g.D.Store old) trees in
    let two_made = survives_then (state g.D.Store start) (state g.D.Store one) (state g.D.Store two) _ _ (λ _. ⊥) (λ _ db none. none) (λ _ db none. none) c.execute.ensures.survives c.execute-2.ensures.survives in
    let inside = survives_then (state g.D.Store start) (state g.D.Store two) (state g.D.Store three) _ _ (λ _. ⊥) (λ _ db none. none) (λ _ db none. none) two_made c.execute-3.ensures.survives in
    let whole = survives_then (state g.D.Store old) (state g.D.Store three) (state g.D.Store end) _ _ P (λ _ db none. absurd none)
    (λ clean db is blank.
    let clean3 : HasCleanDisk (state g.D.Store three) = omega (arith, c.commit.ensures.survives.clean) in
    let clean2 : HasCleanDisk (state g.D.Store two) = omega (arith, clean3, c.execute-3.ensures.survives.clean) in
    let clean1 : HasCleanDisk (state g.D.Store one) = omega (arith, clean2, c.execute-2.ensures.survives.clean) in
    let first = c.in_ok-execute.ensures.runs clean1 (rw begun) in
    let second = c.in_ok-execute-2.ensures.runs clean2 first.1.mode in
    let third = c.in_ok-execute-3.ensures.runs clean3 second.1.mode in
    let was : start.schema ≡ no_schema = rw begun blank.schema in
    let made = made_within (state g.D.Store start) (state g.D.Store one) (state g.D.Store two) (state g.D.Store three) c.in_ok-execute.field-0 c.in_ok-execute-2.field-0 c.in_ok-execute-3.field-0 was first.0 second.0 third.0 in
    subst (λ (trees : Trees). IsNumbered schema_number (trees 0) × (trees 1 ≡ [])) (sym is) (made.1, made.2)) (survives_begin g.D.Store old (state g.D.Store three) _ (rw begun at inside)) c.commit.ensures.survives in
    let same : end ≡ c.connection-2-1.given.0 = search rules in
    subst (λ h. Survives (state g.D.Store old) (state g.D.Store h) P) same whole

pub returns-in_err-commit-clause-whole : goal.returns-in_err-commit-clause-whole
returns-in_err-commit-clause-whole g c =
    let old = c.args.connection.now in
    let start = c.transaction-transaction.result.conn.now in
    let one = c.execute.new.self.conn.now in
    let two = c.execute-2.new.self.conn.now in
    let three = c.execute-3.new.self.conn.now in
    let end = c.commit.new.self.0 in
    let begun = c.transaction-transaction.ensures.begun in
    let P = λ (trees : Trees). MakesBoth (state g.D.Store old) trees in
    let two_made = survives_then (state g.D.Store start) (state g.D.Store one) (state g.D.Store two) _ _ (λ _. ⊥) (λ _ db none. none) (λ _ db none. none) c.execute.ensures.survives c.execute-2.ensures.survives in
    let inside = survives_then (state g.D.Store start) (state g.D.Store two) (state g.D.Store three) _ _ (λ _. ⊥) (λ _ db none. none) (λ _ db none. none) two_made c.execute-3.ensures.survives in
    let whole = survives_then (state g.D.Store old) (state g.D.Store three) (state g.D.Store end) _ _ P (λ _ db none. absurd none)
    (λ clean db is blank.
    let clean3 : HasCleanDisk (state g.D.Store three) = omega (arith, c.commit.ensures.survives.clean) in
    let clean2 : HasCleanDisk (state g.D.Store two) = omega (arith, clean3, c.execute-3.ensures.survives.clean) in
    let clean1 : HasCleanDisk (state g.D.Store one) = omega (arith, clean2, c.execute-2.ensures.survives.clean) in
    let first = c.in_ok-execute.ensures.runs clean1 (rw begun) in
    let second = c.in_ok-execute-2.ensures.runs clean2 first.1.mode in
    let third = c.in_ok-execute-3.ensures.runs clean3 second.1.mode in
    let was : start.schema ≡ no_schema = rw begun blank.schema in
    let made = made_within (state g.D.Store start) (state g.D.Store one) (state g.D.Store two) (state g.D.Store three) c.in_ok-execute.field-0 c.in_ok-execute-2.field-0 c.in_ok-execute-3.field-0 was first.0 second.0 third.0 in
    subst (λ (trees : Trees). IsNumbered schema_number (trees 0) × (trees 1 ≡ [])) (sym is) (made.1, made.2)) (survives_begin g.D.Store old (state g.D.Store three) _ (rw begun at inside)) c.commit.ensures.survives in
    let same : end ≡ c.connection-2-1.given.0 = search rules in
    subst (λ h. Survives (state g.D.Store old) (state g.D.Store h) P) same whole
