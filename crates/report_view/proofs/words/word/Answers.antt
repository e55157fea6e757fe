use Rattle.std.proofs.Common.{arith, ◌∙◌}
use Rattle.report_view.specs.Words.{word}
use Rattle.report_view.proofs.Places.{word_step, word_here}
use Rattle.report_view.proofs.words.word.Goals as goal

pub loop-passed-preserved : goal.loop-passed-preserved
loop-passed-preserved c =
    word_step c.args.at c.loop-passed.passed c.loop-passed.rest.now c.after_blank-rest.result.now c.args.line.now (omega arith) c.after_blank-rest.ensures c.loop-passed.invariant

pub returns : goal.returns
unfolding word
returns c = c.before_blank.ensures ∙ word_here c.args.at c.loop-passed.passed c.loop-passed.rest.now c.args.line.now (omega arith) c.loop-passed.invariant
