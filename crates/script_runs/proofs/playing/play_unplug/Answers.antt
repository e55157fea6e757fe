use Rattle.client_plays.specs.Tools.{files_alone}
use Rattle.script_runs.proofs.TurnLaws.{unplug-ended}
use Rattle.script_runs.proofs.playing.play_unplug.Goals as goal

pub returns-clause-ended : goal.returns-clause-ended
returns-clause-ended g c files =
    unplug-ended g.N.Naming.name c.args.runner.now.daemon.now.id c.args.pass.now c.unplug-outcome.new.pass c.requires.pass c.unplug-outcome.ensures.same c.requires.free
    c.args.device.now c.unplug-outcome.result c.played.result (files_alone files) c.played.ensures c.unplug-outcome.ensures.turn
