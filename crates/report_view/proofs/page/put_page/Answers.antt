use Rattle.report_view.proofs.PagePut.{drawn_moved, lines_same, page_moved, rest_same}
use Rattle.report_view.proofs.page.put_page.Goals as goal

pub returns-clause-page : goal.returns-clause-page
returns-clause-page c =
    page_moved c.put_lines.result c.put_lines.new.out.items c.args.out.now.items _ c.rest.result.now c.args.text.now
    (lines_same c.in_ok-pieces.pieces.items c.deref.result.now c.args.text.now _ c.deref.ensures.value c.in_ok-pieces.ensures c.whole_lines.ensures)
    (rest_same c.in_ok-pieces.pieces.items c.deref-2.result.now c.args.text.now c.rest.result.now c.deref-2.ensures.value c.in_ok-pieces.ensures c.rest.ensures)
    c.put_lines.ensures.page

pub returns-clause-drawn : goal.returns-clause-drawn
returns-clause-drawn c =
    drawn_moved c.put_lines.result _ c.rest.result.now c.args.text.now
    (lines_same c.in_ok-pieces.pieces.items c.deref.result.now c.args.text.now _ c.deref.ensures.value c.in_ok-pieces.ensures c.whole_lines.ensures)
    (rest_same c.in_ok-pieces.pieces.items c.deref-2.result.now c.args.text.now c.rest.result.now c.deref-2.ensures.value c.in_ok-pieces.ensures c.rest.ensures)
    c.put_lines.ensures.drawn
