use Rattle.std.proofs.Common.{◌≡◌, ◌∙◌, inl, inr, sym, subst, arith, rules, map, None, IsTrue}
use Rattle.sqlite.specs.Held.{state}
use Rattle.std.proofs.lemmas.Result.{err_from_is_err_and}
use Rattle.sqlite.specs.Tree.{Trees}
use Rattle.sqlite.specs.State.{HasCleanDisk, Survives}
use Rattle.sqlite.proofs.StateLemmas.{survives_then}
use Rattle.sqlite.proofs.Callers.{survives_begin}
use Rattle.history_sqlite.specs.Columns.{taken_over}
use Rattle.history_sqlite.specs.Tables.{Layout, HoldsRows, KeepsOlder, IsNumbered, schema_number, rows_tree, stored}
use Rattle.history_sqlite.specs.Taking.{MayWriteOver}
use Rattle.history_sqlite.proofs.Opening.{in_one}
use Rattle.history_sqlite.proofs.TakingOver.{committed, untaken, undone_over, refused_commit}
use Rattle.history_sqlite.proofs.taking_over.copy_over.Goals as goal

pub returns-clause-writes : goal.returns-clause-writes
returns-clause-writes g c clean older holds many =
    let begun = c.transaction-transaction.ensures.begun in
    let start = c.transaction-transaction.result.conn.now in
    let three = c.write_over.new.transaction.conn.now in
    let end = c.commit.new.self.0 in
    let same : end ≡ c.connection-2-1.given.0 = search rules in
    let late : HasCleanDisk (state g.D.Store end) = subst (λ h. HasCleanDisk (state g.D.Store h)) (sym same) clean in
    let clean3 : HasCleanDisk (state g.D.Store three) = omega (arith, late, c.commit.ensures.survives.clean) in
    let limit : start.step_limit ≡ None = rw begun holds.unlimited in
    let taken = c.in_ok-write_over.ensures.copies clean3 older (rw begun (untaken (state g.D.Store c.args.connection.now) older holds)) many in
    let last = c.in_ok-commit.ensures.ok late in
    subst (λ h. HoldsRows (state g.D.Store h) (map taken_over older)) same
    (committed (state g.D.Store end) (state g.D.Store three) older taken holds.entries last.1 (c.commit.ensures.survives.limit ∙ c.write_over.ensures.survives.limit ∙ limit))

pub returns-then-not-is_autocommit-clause-cause : goal.returns-then-not-is_autocommit-clause-cause
returns-then-not-is_autocommit-clause-cause g c clean = inl (in_one c.args.connection.now.in_transaction c.is_autocommit.result c.if-not-is_autocommit.true c.is_autocommit.ensures.value)

pub returns-clause-whole : goal.returns-clause-whole
returns-clause-whole g c =
    let old = c.args.connection.now in
    let start = c.transaction-transaction.result.conn.now in
    let three = c.write_over.new.transaction.conn.now in
    let end = c.commit.new.self.0 in
    let begun = c.transaction-transaction.ensures.begun in
    let P = MayWriteOver (state g.D.Store old) c.args.count in
    let whole = survives_then (state g.D.Store old) (state g.D.Store three) (state g.D.Store end) (λ _. ⊥) _ P (λ _ db none. absurd none)
    (λ clean db is older holds many.
    let clean3 : HasCleanDisk (state g.D.Store three) = omega (arith, clean, c.commit.ensures.survives.clean) in
    let taken = c.in_ok-write_over.ensures.copies clean3 older (rw begun (untaken (state g.D.Store old) older holds)) many in
    subst (λ (trees : Trees). IsNumbered schema_number (trees 0) × (trees (rows_tree Layout.TakenOver) ≡ map stored (map taken_over older))) (sym is) (taken.number, taken.table))
    (survives_begin g.D.Store old (state g.D.Store three) (λ _. ⊥) (rw begun at c.write_over.ensures.survives)) c.commit.ensures.survives in
    let same : end ≡ c.connection-2-1.given.0 = search rules in
    subst (λ h. Survives (state g.D.Store old) (state g.D.Store h) P) same whole

pub returns-in_err-commit-clause-whole : goal.returns-in_err-commit-clause-whole
returns-in_err-commit-clause-whole g c =
    let old = c.args.connection.now in
    let start = c.transaction-transaction.result.conn.now in
    let three = c.write_over.new.transaction.conn.now in
    let end = c.commit.new.self.0 in
    let begun = c.transaction-transaction.ensures.begun in
    let P = MayWriteOver (state g.D.Store old) c.args.count in
    let whole = survives_then (state g.D.Store old) (state g.D.Store three) (state g.D.Store end) (λ _. ⊥) _ P (λ _ db none. absurd none)
    (λ clean db is older holds many.
    let clean3 : HasCleanDisk (state g.D.Store three) = omega (arith, clean, c.commit.ensures.survives.clean) in
    let taken = c.in_ok-write_over.ensures.copies clean3 older (rw begun (untaken (state g.D.Store old) older holds)) many in
    subst (λ (trees : Trees). IsNumbered schema_number (trees 0) × (trees (rows_tree Layout.TakenOver) ≡ map stored (map taken_over older))) (sym is) (taken.number, taken.table))
    (survives_begin g.D.Store old (state g.D.Store three) (λ _. ⊥) (rw begun at c.write_over.ensures.survives)) c.commit.ensures.survives in
    let same : end ≡ c.connection-2-1.given.0 = search rules in
    subst (λ h. Survives (state g.D.Store old) (state g.D.Store h) P) same whole

pub returns-in_err-commit-clause-cause : goal.returns-in_err-commit-clause-cause
returns-in_err-commit-clause-cause g c clean =
    let p = err_from_is_err_and c.from_residual-in_err-commit.result c.from_residual-in_err-commit.ensures.1 in
    let late : HasCleanDisk (state g.D.Store c.commit.new.self.0) = search rules in
    rw (p.1, p.2) (inr (inr (c.write_over.new.transaction.conn.now, c.commit.new.self.0, c.in_err-commit.ensures.err late)))

pub returns-in_err-write_over-clause-refused : goal.returns-in_err-write_over-clause-refused
returns-in_err-write_over-clause-refused g c clean is_open =
    let old = state g.D.Store c.args.connection.now in
    let three = c.write_over.new.transaction.conn.now in
    let last = c.drop-transaction.new.self.0 in
    let begun = c.transaction-transaction.ensures.begun in
    let same : last ≡ c.connection-1.given.0 = search rules in
    let late : HasCleanDisk (state g.D.Store last) = subst (λ h. HasCleanDisk (state g.D.Store h)) (sym same) clean in
    let still : IsTrue (state g.D.Store last).is_open = subst (λ h. IsTrue (state g.D.Store h).is_open) (sym same) is_open in
    let clean3 : HasCleanDisk (state g.D.Store three) = omega (arith, late, c.drop-transaction.ensures.survives.clean) in
    let kept = rw begun at (c.write_over.ensures.kept clean3 (rw begun)) in
    let limit = c.drop-transaction.ensures.survives.limit ∙ (rw begun at c.write_over.ensures.survives.limit) in
    let left = undone_over old (state g.D.Store three) (state g.D.Store last) kept (c.drop-transaction.ensures.undone late) limit still in
    let p = err_from_is_err_and c.from_residual.result c.from_residual.ensures.1 in
    rw p.1 (subst (λ h. KeepsOlder old (state g.D.Store h)) same left)

pub returns-in_err-commit-clause-refused : goal.returns-in_err-commit-clause-refused
returns-in_err-commit-clause-refused g c clean is_open =
    let old = state g.D.Store c.args.connection.now in
    let three = c.write_over.new.transaction.conn.now in
    let last = c.commit.new.self.0 in
    let begun = c.transaction-transaction.ensures.begun in
    let same : last ≡ c.connection-2-1.given.0 = search rules in
    let late : HasCleanDisk (state g.D.Store last) = subst (λ h. HasCleanDisk (state g.D.Store h)) (sym same) clean in
    let still : IsTrue (state g.D.Store last).is_open = subst (λ h. IsTrue (state g.D.Store h).is_open) (sym same) is_open in
    let clean3 : HasCleanDisk (state g.D.Store three) = omega (arith, late, c.commit.ensures.survives.clean) in
    let kept = rw begun at (c.write_over.ensures.kept clean3 (rw begun)) in
    let inside = c.in_ok-write_over.ensures.inside clean3 (rw begun) in
    let limit = c.commit.ensures.survives.limit ∙ (rw begun at c.write_over.ensures.survives.limit) in
    let back = refused_commit (state g.D.Store three) (state g.D.Store last) c.in_err-commit.field-0.0 inside (c.in_err-commit.ensures.err late) in
    let left = undone_over old (state g.D.Store three) (state g.D.Store last) kept back limit still in
    let p = err_from_is_err_and c.from_residual-in_err-commit.result c.from_residual-in_err-commit.ensures.1 in
    rw p.1 (subst (λ h. KeepsOlder old (state g.D.Store h)) same left)
