use Rattle.std.proofs.Common.{sym, ◌∙◌}
use Rattle.plugin_order.proofs.WalkLaws.{turn_on, turn_off}
use Rattle.plugin_order.proofs.conflicts.turn.Goals as goal

pub returns-then-is_on : goal.returns-then-is_on
returns-then-is_on c = λ off was.
    turn_on c.args.sheets.now off c.args.on.now c.disable.new.on c.args.p c.requires.at (sym c.is_on.ensures ∙ c.if-is_on.true)
    (λ q h. rw c.conflicts_at.ensures at (c.disable.ensures q h)) was

pub returns-else-is_on : goal.returns-else-is_on
returns-else-is_on c = λ off was.
    turn_off c.args.sheets.now off c.args.on.now c.args.p c.requires.at (sym c.is_on.ensures ∙ c.if-is_on.false) was
