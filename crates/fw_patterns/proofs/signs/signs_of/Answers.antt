use Rattle.std.proofs.Common.{◌∙◌, sym, ap}
use Rattle.fw_patterns.proofs.SignLemmas.{behind, behind-ahead, behind-stop, signs-backslash, signs-sign, signs-fault, signs-end}
use Rattle.fw_patterns.proofs.signs.signs_of.Goals as goal
use Rattle.fw_patterns.proofs.signs.signs_of.Goals.{in-Backslash, in-Whole+in_ok-push-in-Whole}

pub returns-in-Bad-clause-items : goal.returns-in-Bad-clause-items
returns-in-Bad-clause-items c =
    let left = signs-fault c.loop-at.backslash c.loop-at.at c.args.text.now c.in-Bad.fault c.loop-at-test.true (sym c.sign_step.ensures ∙ c.in-Bad.is) in
    (behind-stop _ _ _ (ap (behind c.loop-at.items.items) (sym left) ∙ c.loop-at.invariant)).0

pub returns-in-Bad-clause-end : goal.returns-in-Bad-clause-end
returns-in-Bad-clause-end c =
    let left = signs-fault c.loop-at.backslash c.loop-at.at c.args.text.now c.in-Bad.fault c.loop-at-test.true (sym c.sign_step.ensures ∙ c.in-Bad.is) in
    (behind-stop _ _ _ (ap (behind c.loop-at.items.items) (sym left) ∙ c.loop-at.invariant)).1

pub loop-at-preserved : goal.loop-at-preserved
loop-at-preserved c =
    let read = c.loop-at.items.items in
    let at = c.loop-at.at in
    elim c.match-sign_step.branch [
      | in-Backslash w ↦
          let left = signs-backslash c.loop-at.backslash at c.args.text.now c.loop-at-test.true (sym c.sign_step.ensures ∙ w.in-Backslash.is) in
          rw (w.items-is, w.backslash-is) (ap (behind read) (sym left) ∙ c.loop-at.invariant)
      | in-Whole+in_ok-push-in-Whole w ↦
          let left = signs-sign c.loop-at.backslash at c.args.text.now w.in-Whole.sign c.loop-at-test.true (sym c.sign_step.ensures ∙ w.in-Whole.is) in
          rw (w.items-is, w.backslash-is, w.in_ok-push-in-Whole.ensures.items)
          (behind-ahead read w.in-Whole.sign _ ∙ ap (behind read) (sym left) ∙ c.loop-at.invariant)
    ]

pub returns-clause-items : goal.returns-clause-items
returns-clause-items c =
    let left = signs-end c.loop-at.backslash c.loop-at.at c.args.text.now c.loop-at-test.false in
    (behind-stop _ _ _ (ap (behind c.loop-at.items.items) (sym left) ∙ c.loop-at.invariant)).0

pub returns-clause-end : goal.returns-clause-end
returns-clause-end c =
    let left = signs-end c.loop-at.backslash c.loop-at.at c.args.text.now c.loop-at-test.false in
    c.pending_fault-end.ensures ∙ (behind-stop _ _ _ (ap (behind c.loop-at.items.items) (sym left) ∙ c.loop-at.invariant)).1
