use Rattle.std.proofs.Common.{None}
use Rattle.quirk_files.proofs.Indexing.{latest_step}
use Rattle.quirk_files.proofs.index.latest.Goals as goal

pub loop-head-preserved : goal.loop-head-preserved
loop-head-preserved c =
    latest_step c.args.heads.now c.loop-head.head-index None c.loop-head.found c.later-found.result c.loop-head-test.true c.loop-head.invariant c.later-found.ensures
