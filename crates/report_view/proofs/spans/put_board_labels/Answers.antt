use Rattle.report_view.specs.Spans.{board_label}
use Rattle.report_view.proofs.TextTurns.{put_text}
use Rattle.report_view.proofs.spans.put_board_labels.Goals as goal

pub loop-name-preserved : goal.loop-name-preserved
loop-name-preserved c =
    put_text board_label c.args.names.now c.loop-name.name-index _ c.args.out.now.items c.loop-name.out.items c.put_board_label.new.out.items c.loop-name-test.true
    c.loop-name.invariant c.in_ok-put_board_label.ensures
