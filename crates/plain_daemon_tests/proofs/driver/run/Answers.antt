use Rattle.plain_daemon_tests.proofs.Shelves.{one-serves}
use Rattle.plain_daemon_tests.proofs.driver.run.Goals as goal

pub run_on_threads-house-requires-clause-shelves : goal.run_on_threads-house-requires-clause-shelves
run_on_threads-house-requires-clause-shelves g c κs within =
    one-serves _ c.args.shelves.items c.deref-2.result.now c.args.campaign.now.scripts.items c.deref-2.ensures.value c.requires.shelf c.requires.one
