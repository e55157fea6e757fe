use Rattle.std.proofs.Common.{Bor, List, ℕ, map}
use Rattle.report_view.proofs.PagePut.{page_put}
use Rattle.report_view.proofs.page.put_parts.Goals as goal

pub returns : goal.returns
returns c =
    page_put (map (λ (line : Bor (List ℕ)). line.now) c.args.lines.now) c.args.rest.now c.args.out.now.items c.put_before.new.out.items c.put_marks.new.out.items
    c.put_after.new.out.items c.args.events.now c.args.rows.now c.last_told.result c.args.clients.now (map (λ (name : Bor (List ℕ)). name.now) c.args.names.now) c.args.strays.now
    c.requires.events c.requires.rows c.requires.clients c.requires.names c.requires.strays c.last_told.ensures
    c.in_ok-put_before.ensures c.in_ok-put_marks.ensures c.in_ok-put_after.ensures
