use Rattle.std.proofs.Common.{Bor, List, ℕ, map}
use Rattle.report_view.proofs.PagePut.{drawn_put}
use Rattle.report_view.proofs.page.drawn_by.Goals as goal

pub returns : goal.returns
returns c =
    drawn_put (map (λ (line : Bor (List ℕ)). line.now) c.args.lines.now) c.args.rest.now c.args.events.now c.args.strays.now c.last_told.result c.titled.result
    c.is_empty.result c.requires.events c.requires.strays c.last_told.ensures c.titled.ensures c.is_empty.ensures
