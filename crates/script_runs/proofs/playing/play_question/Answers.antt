use Rattle.client_plays.specs.Tools.{files_alone}
use Rattle.script_runs.proofs.TurnLaws.{may-ask, question-ended}
use Rattle.script_runs.proofs.playing.play_question.Goals as goal

pub query-outcome-requires-clause-question : goal.query-outcome-requires-clause-question
query-outcome-requires-clause-question g c = may-ask c.args.query.now c.requires.question

pub returns-clause-ended : goal.returns-clause-ended
returns-clause-ended g c files =
    question-ended g.N.Naming.name c.args.runner.now.daemon.now.id c.args.pass.now c.query-outcome.new.pass c.requires.pass c.query-outcome.ensures.same c.requires.free
    c.args.query.now c.query-outcome.result c.played.result (files_alone files) c.played.ensures c.query-outcome.ensures.turn
