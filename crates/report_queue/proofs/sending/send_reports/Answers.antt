use Rattle.std.proofs.Common.{◌≡◌, ◌∙◌, Bor, ap, length, sym, take}
use Rattle.std.proofs.lemmas.List.{length-map}
use Rattle.std.proofs.lemmas.Result.{err_from_is_err_and}
use Rattle.history_keeper.specs.declared.row.Row.{Row}
use Rattle.report_queue.specs.Sending.{due}
use Rattle.report_queue.proofs.Marked.{now_of}
use Rattle.report_queue.proofs.Steps.{due_free, due_refs, due_rising, early_no_memory, early_refused, ends_all, ends_at_one, stay_either}
use Rattle.report_queue.proofs.sending.send_reports.Goals as goal

pub returns-in_err-reopen-clause-sends : goal.returns-in_err-reopen-clause-sends
returns-in_err-reopen-clause-sends g c =
    let p = err_from_is_err_and c.from_residual.result c.from_residual.ensures.1 in
    early_refused (g.M.MarkKeeper.tells c.args.marks.now) (g.M.MarkKeeper.tells c.reopen.new.self) (g.M.MarkKeeper.tells c.reopen.new.self) _ _ _
    (stay_either _ _ _ c.in_err-reopen.ensures.reopened.0) (λ all told. told) c.args.rows.now c.args.max c.from_residual.result _ p.1 c.requires _ p.2

pub returns-in_err-loaded-clause-sends : goal.returns-in_err-loaded-clause-sends
returns-in_err-loaded-clause-sends g c =
    let p = err_from_is_err_and c.from_residual-in_err-loaded.result c.from_residual-in_err-loaded.ensures.1 in
    early_refused (g.M.MarkKeeper.tells c.args.marks.now) (g.M.MarkKeeper.tells c.reopen.new.self) (g.M.MarkKeeper.tells c.load.new.self) _ _ _
    c.in_ok-reopen.ensures.reopened.0 c.load.ensures.unchanged c.args.rows.now c.args.max c.from_residual-in_err-loaded.result _ p.1 c.requires _ p.2

pub returns-in_err-due-clause-sends : goal.returns-in_err-due-clause-sends
returns-in_err-due-clause-sends g c =
    let p = err_from_is_err_and c.from_residual-in_err-due.result c.from_residual-in_err-due.ensures.1 in
    early_no_memory (g.M.MarkKeeper.tells c.args.marks.now) (g.M.MarkKeeper.tells c.reopen.new.self) (g.M.MarkKeeper.tells c.load.new.self) _ _ _
    c.in_ok-reopen.ensures.reopened.0 c.load.ensures.unchanged c.args.rows.now c.args.max c.from_residual-in_err-due.result _ p.1 c.requires
    c.in_ok-loaded.loaded.items c.in_ok-loaded.ensures.answer p.2

pub send_each-requires-clause-unmarked : goal.send_each-requires-clause-unmarked
send_each-requires-clause-unmarked g c =
    let same : now_of c.deref-2.result.now ≡ take c.args.max (due c.in_ok-loaded.loaded.items c.args.rows.now) =
    due_refs c.args.rows.now c.args.max c.in_ok-loaded.loaded.items c.deref.result.now c.deref-2.result.now c.in_ok-due.due.items c.deref-2.ensures.value c.in_ok-due.ensures c.deref.ensures.value in
    λ all told. due_free c.args.rows.now c.args.max c.in_ok-loaded.loaded.items c.deref.result.now c.deref-2.result.now c.in_ok-due.due.items all same (c.in_ok-loaded.ensures.answer all told)

pub send_each-requires-clause-rising : goal.send_each-requires-clause-rising
send_each-requires-clause-rising g c =
    let same : now_of c.deref-2.result.now ≡ take c.args.max (due c.in_ok-loaded.loaded.items c.args.rows.now) =
    due_refs c.args.rows.now c.args.max c.in_ok-loaded.loaded.items c.deref.result.now c.deref-2.result.now c.in_ok-due.due.items c.deref-2.ensures.value c.in_ok-due.ensures c.deref.ensures.value in
    due_rising c.args.rows.now c.args.max c.in_ok-loaded.loaded.items c.deref.result.now c.deref-2.result.now c.in_ok-due.due.items c.requires same

pub returns-in_err-send_each-clause-sends : goal.returns-in_err-send_each-clause-sends
returns-in_err-send_each-clause-sends g c =
    let p = err_from_is_err_and c.from_residual-in_err-send_each.result c.from_residual-in_err-send_each.ensures.1 in
    let same : now_of c.deref-2.result.now ≡ take c.args.max (due c.in_ok-loaded.loaded.items c.args.rows.now) =
    due_refs c.args.rows.now c.args.max c.in_ok-loaded.loaded.items c.deref.result.now c.deref-2.result.now c.in_ok-due.due.items c.deref-2.ensures.value c.in_ok-due.ensures c.deref.ensures.value in
    ends_at_one (g.M.MarkKeeper.tells c.args.marks.now) (g.M.MarkKeeper.tells c.reopen.new.self) (g.M.MarkKeeper.tells c.load.new.self) (g.M.MarkKeeper.tells c.send_each.new.marks) _ _ _ _ _
    c.in_ok-reopen.ensures.reopened.0 c.load.ensures.unchanged c.in_ok-loaded.loaded.items c.in_ok-loaded.ensures.answer c.args.rows.now c.args.max c.requires (now_of c.deref-2.result.now) same
    c.from_residual-in_err-send_each.result _ _ p.1 p.2 c.in_err-send_each.ensures.sends

pub returns-clause-sends : goal.returns-clause-sends
returns-clause-sends g c =
    let same : now_of c.deref-2.result.now ≡ take c.args.max (due c.in_ok-loaded.loaded.items c.args.rows.now) =
    due_refs c.args.rows.now c.args.max c.in_ok-loaded.loaded.items c.deref.result.now c.deref-2.result.now c.in_ok-due.due.items c.deref-2.ensures.value c.in_ok-due.ensures c.deref.ensures.value in
    ends_all (g.M.MarkKeeper.tells c.args.marks.now) (g.M.MarkKeeper.tells c.reopen.new.self) (g.M.MarkKeeper.tells c.load.new.self) (g.M.MarkKeeper.tells c.send_each.new.marks) _ _ _ _ _
    c.in_ok-reopen.ensures.reopened.0 c.load.ensures.unchanged c.in_ok-loaded.loaded.items c.in_ok-loaded.ensures.answer c.args.rows.now c.args.max c.requires (now_of c.deref-2.result.now) same
    c.len.result (c.len.ensures ∙ c.in_ok-due.due.ok.0 ∙ ap length (sym c.deref-2.ensures.value) ∙ sym (length-map c.deref-2.result.now (λ (row : Bor Row). row.now))) c.in_ok-send_each.ensures.sends
