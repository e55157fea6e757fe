use Rattle.client_plays.specs.Tools.{files_alone}
use Rattle.script_runs.proofs.SettleLaws.{settle-ended}
use Rattle.script_runs.proofs.playing.play_settle.Goals as goal

pub returns-clause-ended : goal.returns-clause-ended
returns-clause-ended g c files =
    settle-ended g.N.Naming.name c.args.runner.now.daemon.now.id c.args.pass.now c.settle-outcome.new.pass c.requires.pass c.settle-outcome.ensures.same c.requires.free
    c.args.device.now (files_alone files) c.settle-outcome.result c.played.result c.played.ensures c.settle-outcome.ensures.turn
