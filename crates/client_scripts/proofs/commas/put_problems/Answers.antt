use Rattle.std.proofs.Common.{◌∙◌}
use Rattle.fw_facts.specs.Problems.{has_problem}
use Rattle.client_scripts.specs.Replies.{all_problems}
use Rattle.client_scripts.specs.Words.{problem_word}
use Rattle.client_scripts.proofs.Worded.{put_fit_at}
use Rattle.client_scripts.proofs.commas.put_problems.Goals as goal

pub loop-problem-preserved : goal.loop-problem-preserved
loop-problem-preserved c = put_fit_at (has_problem c.args.machine.now c.args.view.now c.args.waiting) problem_word all_problems c.loop-problem.problem-index _ c.holds-holds.result c.as_bytes.result.now _ _ _ _ _ c.loop-problem-test.true c.holds-holds.ensures (c.as_bytes.ensures.value ∙ c.problem_word.ensures) c.loop-problem.invariant c.in_ok-begun.ensures.text c.in_ok-begun.ensures.begun
