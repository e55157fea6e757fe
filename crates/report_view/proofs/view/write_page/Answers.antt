use Rattle.std.proofs.lemmas.Result.{err_from_is_err_and}
use Rattle.report_view.proofs.Written.{shown_err, shown_nothing, shown_ok}
use Rattle.report_view.proofs.view.write_page.Goals as goal

pub returns-in_err-text-clause-front : goal.returns-in_err-text-clause-front
returns-in_err-text-clause-front g c =
    let p = err_from_is_err_and c.from_residual.result c.from_residual.ensures.1 in
    rw p.1 (shown_nothing (g.S.Source.left c.args.source.now) (g.S.Source.left c.read_whole.new.source) (g.T.Sink.taken c.args.sink.now) c.in_err-text.ensures.front)

pub returns-clause-shown : goal.returns-clause-shown
returns-clause-shown g c =
    shown_ok c.write_text.result c.deref.result.now c.in_ok-text.text.items (g.S.Source.left c.args.source.now) (g.S.Source.left c.read_whole.new.source)
    (g.T.Sink.taken c.args.sink.now) (g.T.Sink.taken c.write_text.new.sink) c.deref.ensures.value c.in_ok-text.ensures.whole c.in_ok-text.ensures.ended
    c.write_text.ensures.whole c.write_text.ensures.drawn

pub returns-clause-front : goal.returns-clause-front
returns-clause-front g c =
    shown_err c.write_text.result c.deref.result.now c.in_ok-text.text.items (g.S.Source.left c.args.source.now) (g.S.Source.left c.read_whole.new.source)
    (g.T.Sink.taken c.args.sink.now) (g.T.Sink.taken c.write_text.new.sink) c.deref.ensures.value c.in_ok-text.ensures.whole c.write_text.ensures.front
