use Rattle.std.proofs.Common.{◌≡◌, ◌∙◌, ◌⊎◌, None, Result, Ok, Err, arith, inl, inr, refl}
use Rattle.std.proofs.lemmas.Result.{err_from_is_err_and}
use Rattle.report_queue.specs.declared.stop.SendStop.{SendStop}
use Rattle.report_queue.specs.declared.stop.SendStop.TheVariants.{KeeperFault}
use Rattle.report_queue.proofs.Marked.{all_over, more_over, none_over, stopped_over, unmarked_next}
use Rattle.report_queue.proofs.sending.send_each.Goals as goal

-- a row that was sent met no fault of the keeper
sent_quiet : {A P : Type 0} (result : Result A SendStop) (x : A) → result ≡ Ok x → (result ≡ Err KeeperFault) ⊎ P → P
sent_quiet result x ok (inl bad) = cc
sent_quiet result x ok (inr quiet) = quiet

pub loop-row-init : goal.loop-row-init
loop-row-init g c = record {
  sent = none_over (g.M.MarkKeeper.tells c.args.marks.now) (g.M.MarkKeeper.doubt c.args.marks.now) (g.T.Sink.taken c.args.out.now) c.requires.no_doubt;
  no_doubt = c.requires.no_doubt;
  counts_marks = omega arith;
  counts_out = omega arith;
  quiet = refl;
  marks_quiet = refl;
}

pub loop-row-preserved : goal.loop-row-preserved
loop-row-preserved g c = record {
  sent = more_over _ _ _ _ _ _ _ _ _ c.args.rows.now c.loop-row.row-index c.row-item.result c.loop-row-test.true c.row-item.is c.loop-row.invariant.sent c.in_ok-send_row.ensures.sends;
  no_doubt = (c.in_ok-send_row.ensures.sends None tt).2.doubt;
  counts_marks = omega (arith, c.loop-row.invariant.counts_marks, c.send_row.ensures.counts_marks);
  counts_out = omega (arith, c.loop-row.invariant.counts_out, c.send_row.ensures.counts_out);
  quiet = c.in_ok-send_row.ensures.quiet ∙ c.loop-row.invariant.quiet;
  marks_quiet = sent_quiet _ _ refl c.in_ok-send_row.ensures.marks_quiet ∙ c.loop-row.invariant.marks_quiet;
}

pub send_row-requires-clause-unmarked : goal.send_row-requires-clause-unmarked
send_row-requires-clause-unmarked g c = unmarked_next _ _ _ _ _ _ c.args.rows.now c.loop-row.row-index c.row-item.result c.loop-row-test.true c.row-item.is c.requires.unmarked c.requires.rising c.loop-row.invariant.sent

pub returns-in_err-send_row-clause-sends : goal.returns-in_err-send_row-clause-sends
returns-in_err-send_row-clause-sends g c =
    let p = err_from_is_err_and c.from_residual.result c.from_residual.ensures.1 in
    rw (p.1, p.2) (stopped_over _ _ _ _ _ _ _ _ _ c.args.rows.now c.loop-row.row-index c.row-item.result c.loop-row-test.true c.row-item.is c.loop-row.invariant.sent _ c.in_err-send_row.ensures.sends)

pub returns-clause-sends : goal.returns-clause-sends
returns-clause-sends g c = all_over _ _ _ _ _ _ c.args.rows.now c.loop-row.row-index c.loop-row-test.false c.loop-row.invariant.sent
