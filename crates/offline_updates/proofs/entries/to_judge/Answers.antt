use Rattle.offline_updates.specs.Waiting.{is_to_judge}
use Rattle.offline_updates.proofs.Rises.{all_noted, noted, rising_where}
use Rattle.offline_updates.proofs.entries.to_judge.Goals as goal

pub loop-row-preserved : goal.loop-row-preserved
loop-row-preserved c = noted is_to_judge c.args.rows.now c.loop-row.row-index c.row-item.result c.is_to_judge.result _ _ c.loop-row-test.true c.row-item.is c.is_to_judge.ensures c.loop-row.invariant c.in_ok-note_if.ensures

pub returns-clause-entries : goal.returns-clause-entries
returns-clause-entries c = all_noted is_to_judge c.args.rows.now c.loop-row.row-index _ c.loop-row-test.false c.loop-row.invariant

pub returns-clause-rising : goal.returns-clause-rising
returns-clause-rising c = rising_where is_to_judge c.args.rows.now c.loop-row.row-index _ c.loop-row-test.false c.loop-row.invariant
