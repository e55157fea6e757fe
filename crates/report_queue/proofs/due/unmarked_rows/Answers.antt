use Rattle.std.proofs.Common.{◌≡◌, ◌&&◌, ◌∙◌, length, map, not, sym, Bor}
use Rattle.std.specs.Prelude.{nat_eq}
use Rattle.std.proofs.lemmas.List.{length-map}
use Rattle.indexmap.specs.IndexSet.{contains}
use Rattle.history_keeper.specs.declared.row.Row.{Row}
use Rattle.report_queue.specs.Sending.{is_judged}
use Rattle.report_queue.proofs.Rows.{few_more, found_all, found_enough, found_more}
use Rattle.report_queue.proofs.due.unmarked_rows.Goals as goal

pub returns-then-len-max : goal.returns-then-len-max
returns-then-len-max c =
    let long : length (map (λ (row : Bor Row). row.now) c.loop-row.found.items) ≡ c.args.max =
    length-map c.loop-row.found.items (λ (row : Bor Row). row.now) ∙ sym c.loop-row.found.ok.0 ∙ sym c.len.ensures ∙ c.if-len-max.true in
    found_enough (λ (row : Row). is_judged row.state && not (contains nat_eq c.args.marked.now row.entry)) c.args.rows.now _ c.loop-row.row-index c.args.max c.loop-row.invariant.found long

pub loop-row-preserved : goal.loop-row-preserved
loop-row-preserved c = record {
  found = found_more (λ (row : Row). is_judged row.state && not (contains nat_eq c.args.marked.now row.entry)) c.args.rows.now _ _ c.loop-row.row-index c.row-item.result c.is_due.result c.loop-row-test.true c.row-item.is c.loop-row.invariant.found c.is_due.ensures c.in_ok-push_if.ensures;
  few = few_more _ _ c.row-item.result c.is_due.result c.args.max c.in_ok-push_if.ensures c.loop-row.invariant.few
      (λ long. c.if-len-max.false (c.len.ensures ∙ c.loop-row.found.ok.0 ∙ sym (length-map c.loop-row.found.items (λ (row : Bor Row). row.now)) ∙ long));
}

pub returns : goal.returns
returns c = found_all (λ (row : Row). is_judged row.state && not (contains nat_eq c.args.marked.now row.entry)) c.args.rows.now _ c.loop-row.row-index c.args.max c.loop-row.invariant.found c.loop-row-test.false c.loop-row.invariant.few
