use Rattle.report_text.specs.Lines.{told_line}
use Rattle.client_scripts.proofs.Pieces.{PutUpTo}
use Rattle.report_text.proofs.lines.put_told_lines.Given as goal

abbrev pub invariant-loop-board : goal.invariant-loop-board
invariant-loop-board l = PutUpTo (told_line l.sheets) l.boards l.board-index l.fn.out.items l.out.items
