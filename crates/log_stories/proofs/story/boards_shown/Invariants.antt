use Rattle.std.proofs.Common.{◌≡◌, take}
use Rattle.log_stories.specs.Stories.{boards_from}
use Rattle.log_stories.proofs.story.boards_shown.Given as goal

abbrev pub invariant-loop-at : goal.invariant-loop-at
invariant-loop-at l = l.boards.items ≡ boards_from 0 (take l.at l.raws)
