use Rattle.std.proofs.Common.{◌≡◌, ◌&&◌, ◌∙◌, ap, filter, not, take, Bool}
use Rattle.std.specs.Prelude.{nat_eq}
use Rattle.std.proofs.lemmas.List.Elements.{filter_agree}
use Rattle.std.proofs.lemmas.Result.{IfOk-weaker}
use Rattle.indexmap.specs.IndexSet.{contains}
use Rattle.history_keeper.specs.declared.row.Row.{Row}
use Rattle.report_queue.specs.Sending.{due, is_due, is_judged}
use Rattle.report_queue.proofs.due.due_rows.Goals as goal

pub returns : goal.returns
returns c =
    let same : filter (λ (row : Row). is_judged row.state && not (contains nat_eq c.in_ok-marked.marked row.entry)) c.args.rows.now ≡ due c.args.marks.now c.args.rows.now =
    filter_agree (λ (row : Row). is_judged row.state && not (contains nat_eq c.in_ok-marked.marked row.entry)) (is_due c.args.marks.now)
    (λ row. ap (λ (b : Bool). is_judged row.state && not b) (c.in_ok-marked.ensures row.entry)) c.args.rows.now in
    IfOk-weaker c.unmarked_rows.result _ _ (λ found h. h ∙ ap (take c.args.max) same) c.unmarked_rows.ensures
