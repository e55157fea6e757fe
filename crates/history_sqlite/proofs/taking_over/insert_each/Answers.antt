use Rattle.std.proofs.Common.{◌∙◌, ◌*◌, ◌≤◌, arith, refl}
use Rattle.sqlite.specs.Held.{state}
use Rattle.sqlite.specs.State.{HasCleanDisk}
use Rattle.history_sqlite.proofs.Copying.{copies_next, copies_all}
use Rattle.history_sqlite.proofs.TakingOver.{survives_same, survives_both, keeps_same, keeps_then}
use Rattle.history_sqlite.proofs.taking_over.insert_each.Goals as goal

pub loop-turn-init : goal.loop-turn-init
loop-turn-init g c =
    let start = state g.D.Store c.args.transaction.now.conn.now in
    record { same_reference = refl; copies = λ clean older h. h; inside = λ clean inside. inside; kept = λ clean inside. keeps_same start; survives = survives_same start }

pub loop-turn-preserved : goal.loop-turn-preserved
loop-turn-preserved g c =
    let start = state g.D.Store c.args.transaction.now.conn.now in
    let now = state g.D.Store c.loop-turn.transaction.conn.now in
    let next = state g.D.Store c.insert_block.new.transaction.conn.now in
    let turn = c.loop-turn.turn in
    let invariant = c.loop-turn.invariant in
    record {
      same_reference = c.insert_block.ensures.same_reference ∙ invariant.same_reference;
      copies = λ clean.
          let before : HasCleanDisk now = omega (arith, clean, c.insert_block.ensures.survives.clean) in
          copies_next start now next turn (invariant.copies before) (c.in_ok-insert_block.ensures.copies clean);
      inside = λ clean inside.
          let before : HasCleanDisk now = omega (arith, clean, c.insert_block.ensures.survives.clean) in c.in_ok-insert_block.ensures.inside clean (invariant.inside before inside);
      kept = λ clean inside.
          let before : HasCleanDisk now = omega (arith, clean, c.insert_block.ensures.survives.clean) in
          keeps_then start now next (invariant.kept before inside) (c.insert_block.ensures.kept clean (invariant.inside before inside));
      survives = survives_both start now next invariant.survives c.insert_block.ensures.survives;
    }

pub returns-clause-copies : goal.returns-clause-copies
returns-clause-copies g c clean =
    let start = state g.D.Store c.args.transaction.now.conn.now in
    let now = state g.D.Store c.loop-turn.transaction.conn.now in
    let count = c.args.count in
    let turns = c.loop-turn.turn in
    let enough : count ≤ turns * 256 = omega arith in copies_all start now count turns (c.loop-turn.invariant.copies clean) enough

pub returns-in_err-insert_block-clause-kept : goal.returns-in_err-insert_block-clause-kept
returns-in_err-insert_block-clause-kept g c clean inside =
    let start = state g.D.Store c.args.transaction.now.conn.now in
    let now = state g.D.Store c.loop-turn.transaction.conn.now in
    let next = state g.D.Store c.insert_block.new.transaction.conn.now in
    let invariant = c.loop-turn.invariant in
    let before : HasCleanDisk now = omega (arith, clean, c.insert_block.ensures.survives.clean) in
    keeps_then start now next (invariant.kept before inside) (c.insert_block.ensures.kept clean (invariant.inside before inside))
