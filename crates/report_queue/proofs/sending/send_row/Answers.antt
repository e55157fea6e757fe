use Rattle.std.proofs.Common.{ℕ, List, refl, subst, ◌∙◌}
use Rattle.std.proofs.lemmas.Result.{err_from_is_err_and}
use Rattle.outer_traits.specs.Sinks.{Took, TookFront}
use Rattle.report_queue.proofs.Marked.{cut_over, refused_over, written_over}
use Rattle.report_queue.proofs.sending.send_row.Goals as goal

pub returns-in_err-line-clause-sends : goal.returns-in_err-line-clause-sends
returns-in_err-line-clause-sends g c =
    let p = err_from_is_err_and c.from_residual.result c.from_residual.ensures.1 in
    rw (p.1, p.2) (λ after told. (after, told, (refl, c.requires.no_doubt, refl)))

pub returns-in_err-mark-clause-sends : goal.returns-in_err-mark-clause-sends
returns-in_err-mark-clause-sends g c =
    let p = err_from_is_err_and c.from_residual-in_err-mark.result c.from_residual-in_err-mark.ensures.1 in
    rw (p.1, p.2)
    (refused_over (g.M.MarkKeeper.tells c.args.marks.now) (g.M.MarkKeeper.tells c.mark.new.self) (g.M.MarkKeeper.doubt c.args.marks.now) (g.M.MarkKeeper.doubt c.mark.new.self) (g.T.Sink.taken c.args.out.now) c.args.row.now _ c.in_err-mark.ensures.marked)

pub returns-in_err-write_whole-clause-sends : goal.returns-in_err-write_whole-clause-sends
returns-in_err-write_whole-clause-sends g c =
    let p = err_from_is_err_and c.from_residual-in_err-write_whole.result c.from_residual-in_err-write_whole.ensures.1 in
    rw (p.1, p.2)
    (cut_over (g.M.MarkKeeper.tells c.args.marks.now) (g.M.MarkKeeper.tells c.mark.new.self) (g.M.MarkKeeper.doubt c.args.marks.now) (g.M.MarkKeeper.doubt c.mark.new.self) (g.T.Sink.taken c.args.out.now) (g.T.Sink.taken c.write_whole.new.out) c.args.row.now
    c.in_ok-mark.ensures.marked.0 c.in_ok-mark.ensures.marked.1
    (subst (λ (text : List ℕ). TookFront text (g.T.Sink.taken c.args.out.now) (g.T.Sink.taken c.write_whole.new.out)) (c.deref.ensures.value ∙ c.in_ok-line.ensures) c.in_err-write_whole.ensures.front))

pub returns-clause-sends : goal.returns-clause-sends
returns-clause-sends g c =
    written_over (g.M.MarkKeeper.tells c.args.marks.now) (g.M.MarkKeeper.tells c.mark.new.self) (g.M.MarkKeeper.doubt c.args.marks.now) (g.M.MarkKeeper.doubt c.mark.new.self) (g.T.Sink.taken c.args.out.now) (g.T.Sink.taken c.write_whole.new.out) c.args.row.now
    c.in_ok-mark.ensures.marked.0 c.in_ok-mark.ensures.marked.1
    (subst (λ (text : List ℕ). Took text (g.T.Sink.taken c.args.out.now) (g.T.Sink.taken c.write_whole.new.out)) (c.deref.ensures.value ∙ c.in_ok-line.ensures) c.in_ok-write_whole.ensures.whole)
