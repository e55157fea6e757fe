use Rattle.client_plays.specs.Tools.{files_alone}
use Rattle.script_runs.proofs.TurnLaws.{schedule-ended}
use Rattle.script_runs.proofs.playing.play_schedule.Goals as goal

pub returns-clause-ended : goal.returns-clause-ended
returns-clause-ended g c files =
    schedule-ended g.N.Naming.name c.args.runner.now.daemon.now.id c.args.pass.now c.schedule-outcome.new.pass c.requires.pass c.schedule-outcome.ensures.same c.requires.free
    c.args.request.now c.schedule-outcome.result c.played.result (files_alone files) c.played.ensures c.requires.offline c.schedule-outcome.ensures.turn
