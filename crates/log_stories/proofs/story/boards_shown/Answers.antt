use Rattle.std.proofs.Common.{arith}
use Rattle.log_stories.proofs.Booting.{boards-more}
use Rattle.log_stories.proofs.story.boards_shown.Goals as goal

pub loop-at-preserved : goal.loop-at-preserved
loop-at-preserved c =
    boards-more c.args.raws.now c.loop-at.at c.loop-at.boards.items c.push.new.self.items c.board_shown.result (omega arith) c.loop-at.invariant c.board_shown.ensures c.in_ok-push.ensures.items
