use Rattle.client_plays.specs.Tools.{files_alone}
use Rattle.script_runs.proofs.TurnLaws.{plug-ended}
use Rattle.script_runs.proofs.playing.play_plug.Goals as goal

pub returns-clause-ended : goal.returns-clause-ended
returns-clause-ended g c files =
    plug-ended g.N.Naming.name c.args.runner.now.daemon.now.id c.args.pass.now c.plug-outcome.new.pass c.requires.pass c.plug-outcome.ensures.same c.requires.free
    c.args.device.now c.plug-outcome.result c.played.result (files_alone files) c.played.ensures c.plug-outcome.ensures.turn
