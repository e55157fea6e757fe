use Rattle.std.proofs.Common.{◌∙◌}
use Rattle.std.proofs.lemmas.Result.{err_from_is_err_and}
use Rattle.outer_traits.proofs.Fronts.{front_none}
use Rattle.report_view.specs.Pages.{page}
use Rattle.report_view.proofs.Written.{took_page, took_front}
use Rattle.report_view.proofs.view.write_text.Goals as goal

pub returns-in_err-drawn-clause-front : goal.returns-in_err-drawn-clause-front
returns-in_err-drawn-clause-front g c =
    let p = err_from_is_err_and c.from_residual.result c.from_residual.ensures.1 in
    rw p.1 (front_none (page c.args.text.now) (g.T.Sink.taken c.args.sink.now))

pub returns-in_err-write_whole-clause-front : goal.returns-in_err-write_whole-clause-front
returns-in_err-write_whole-clause-front g c =
    let p = err_from_is_err_and c.from_residual-in_err-write_whole.result c.from_residual-in_err-write_whole.ensures.1 in
    rw p.1 (took_front c.new-page.result.items c.deref.result.now c.args.text.now (g.T.Sink.taken c.args.sink.now) (g.T.Sink.taken c.write_whole.new.out)
    c.new-page.ensures.items (c.deref.ensures.value ∙ c.in_ok-drawn.ensures.page) c.in_err-write_whole.ensures.front)

pub returns-clause-whole : goal.returns-clause-whole
returns-clause-whole g c =
    took_page c.new-page.result.items c.deref.result.now c.args.text.now (g.T.Sink.taken c.args.sink.now) (g.T.Sink.taken c.write_whole.new.out)
    c.new-page.ensures.items (c.deref.ensures.value ∙ c.in_ok-drawn.ensures.page) c.in_ok-write_whole.ensures.whole
