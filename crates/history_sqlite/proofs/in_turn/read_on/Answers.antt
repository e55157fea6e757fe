use Rattle.std.proofs.Common.{◌∙◌, refl, arith}
use Rattle.std.proofs.lemmas.Result.{err_from_is_err_and}
use Rattle.sqlite.specs.Held.{state}
use Rattle.sqlite.specs.State.{HasCleanDisk}
use Rattle.sqlite.proofs.Callers.{unchanged_then}
use Rattle.history_sqlite.proofs.InTurn.{failed_on, shown_all, shown_more, shown_none, survives_itself, survives_on}
use Rattle.history_sqlite.proofs.in_turn.read_on.Goals as goal

pub turns-init : goal.turns-init
turns-init g c = record {
  same_reference = refl;
  survives = survives_itself (state g.D.Store c.args.shown.now.conn.now);
  so_far = λ clean begun. shown_none g.D.Store c.args.shown.now.conn.now _ c.new-read.ensures.items begun;
}

pub turns-preserved : goal.turns-preserved
turns-preserved g c =
    let first = c.args.shown.now.conn.now in
    let old = c.turns.shown.conn.now in
    let new = c.read_next.new.shown.conn.now in
    let ran = c.read_next.ensures in
    record {
      same_reference = ran.same_reference ∙ c.turns.invariant.same_reference;
      survives = survives_on (state g.D.Store first) (state g.D.Store old) (state g.D.Store new) c.turns.invariant.survives ran.survives;
      so_far = λ clean begun.
          let before : HasCleanDisk (state g.D.Store old) = omega (arith, clean, ran.survives.clean) in
          let was = c.turns.invariant.so_far before begun in
          let turn = rw c.in-Read.is at (c.in_ok-read_next.ensures.turned clean) in
          (unchanged_then (state g.D.Store first) (state g.D.Store old) (state g.D.Store new) was.0 (c.in_ok-read_next.ensures.same clean), shown_more g.D.Store old new _ _ turn.0 was.1 turn.1 turn.2);
    }

pub returns-in-End-clause-read : goal.returns-in-End-clause-read
returns-in-End-clause-read g c clean begun =
    let old = c.turns.shown.conn.now in
    let before : HasCleanDisk (state g.D.Store old) = omega (arith, clean, c.read_next.ensures.survives.clean) in
    let was = c.turns.invariant.so_far before begun in
    let turn = rw c.in-End.is at (c.in_ok-read_next.ensures.turned clean) in
    shown_all g.D.Store c.args.shown.now.conn.now old c.read_next.new.shown.conn.now _ _ was.0 was.1 turn.0 turn.1

pub returns-in-End-clause-same : goal.returns-in-End-clause-same
returns-in-End-clause-same g c clean begun =
    let old = c.turns.shown.conn.now in
    let before : HasCleanDisk (state g.D.Store old) = omega (arith, clean, c.read_next.ensures.survives.clean) in
    unchanged_then (state g.D.Store c.args.shown.now.conn.now) (state g.D.Store old) (state g.D.Store c.read_next.new.shown.conn.now) (c.turns.invariant.so_far before begun).0 (c.in_ok-read_next.ensures.same clean)

pub returns-in-Stuck-clause-same : goal.returns-in-Stuck-clause-same
returns-in-Stuck-clause-same g c clean begun =
    let old = c.turns.shown.conn.now in
    let before : HasCleanDisk (state g.D.Store old) = omega (arith, clean, c.read_next.ensures.survives.clean) in
    unchanged_then (state g.D.Store c.args.shown.now.conn.now) (state g.D.Store old) (state g.D.Store c.read_next.new.shown.conn.now) (c.turns.invariant.so_far before begun).0 (c.in_ok-read_next.ensures.same clean)

pub returns-in_err-read_next-clause-failed : goal.returns-in_err-read_next-clause-failed
returns-in_err-read_next-clause-failed g c clean =
    let p = err_from_is_err_and c.from_residual.result c.from_residual.ensures.1 in
    let old = c.turns.shown.conn.now in
    let before : HasCleanDisk (state g.D.Store old) = omega (arith, clean, c.read_next.ensures.survives.clean) in
    rw (p.1, p.2) (λ begun.
    let was = c.turns.invariant.so_far before begun in
    failed_on g.D.Store c.args.shown.now.conn.now old c.read_next.new.shown.conn.now _ _ was.0 c.turns.invariant.survives was.1 (c.in_err-read_next.ensures.failed clean))

pub returns-clause-same : goal.returns-clause-same
returns-clause-same g c clean begun = (c.turns.invariant.so_far clean begun).0
