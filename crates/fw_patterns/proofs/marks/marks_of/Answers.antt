use Rattle.std.proofs.Common.{◌∙◌, sym, ap}
use Rattle.fw_patterns.proofs.SignLemmas.{behind, behind-ahead, behind-stop}
use Rattle.fw_patterns.proofs.MarkLemmas.{marks-skipped, marks-marked, marks-stopped, marks-end}
use Rattle.fw_patterns.proofs.marks.marks_of.Goals as goal
use Rattle.fw_patterns.proofs.marks.marks_of.Goals.{in-Skipped, in-Marked+in_ok-push-in-Marked}

pub returns-in-Stopped-clause-items : goal.returns-in-Stopped-clause-items
returns-in-Stopped-clause-items c =
    let left = marks-stopped c.loop-index.inside c.args.end c.loop-index.index c.args.signs.now _ c.loop-index-test.true c.in-Stopped.fault
    (sym c.in_ok-within.ensures ∙ c.in-Stopped.is) in
    (behind-stop _ _ _ (ap (behind c.loop-index.items.items) (sym left) ∙ c.loop-index.invariant)).0

pub returns-in-Stopped-clause-end : goal.returns-in-Stopped-clause-end
returns-in-Stopped-clause-end c =
    let left = marks-stopped c.loop-index.inside c.args.end c.loop-index.index c.args.signs.now _ c.loop-index-test.true c.in-Stopped.fault
    (sym c.in_ok-within.ensures ∙ c.in-Stopped.is) in
    (behind-stop _ _ _ (ap (behind c.loop-index.items.items) (sym left) ∙ c.loop-index.invariant)).1

pub loop-index-preserved : goal.loop-index-preserved
loop-index-preserved c =
    let read = c.loop-index.items.items in
    elim c.match-branch-2.branch [
      | in-Skipped w ↦
          let left = marks-skipped c.loop-index.inside c.args.end c.loop-index.index c.args.signs.now _ c.loop-index-test.true _
          (sym c.in_ok-within.ensures ∙ w.in-Skipped.is) in
          rw (w.items-is, w.inside-is) (ap (behind read) (sym left) ∙ c.loop-index.invariant)
      | in-Marked+in_ok-push-in-Marked w ↦
          let left = marks-marked c.loop-index.inside c.args.end c.loop-index.index c.args.signs.now _ c.loop-index-test.true _ _
          (sym c.in_ok-within.ensures ∙ w.in-Marked.is) in
          rw (w.items-is, w.inside-is, w.in_ok-push-in-Marked.ensures.items)
          (behind-ahead read _ _ ∙ ap (behind read) (sym left) ∙ c.loop-index.invariant)
    ]

pub returns-clause-items : goal.returns-clause-items
returns-clause-items c =
    let left = marks-end c.loop-index.inside c.args.end c.loop-index.index c.args.signs.now c.loop-index-test.false in
    (behind-stop _ _ _ (ap (behind c.loop-index.items.items) (sym left) ∙ c.loop-index.invariant)).0

pub returns-clause-end : goal.returns-clause-end
returns-clause-end c =
    let left = marks-end c.loop-index.inside c.args.end c.loop-index.index c.args.signs.now c.loop-index-test.false in
    (behind-stop _ _ _ (ap (behind c.loop-index.items.items) (sym left) ∙ c.loop-index.invariant)).1
