use Rattle.std.proofs.Common.{◌≡◌, ◌++◌, map, take}
use Rattle.std.specs.List.{flat_map}
use Rattle.report_view.specs.Spans.{board_label}
use Rattle.report_view.proofs.spans.put_board_labels.Given as goal

abbrev pub invariant-loop-name : goal.invariant-loop-name
invariant-loop-name l = l.out.items ≡ l.fn.out.items ++ flat_map board_label (take l.name-index (map (λ name. name.now) l.names))
