use Rattle.std.proofs.Common.{◌∙◌, sym, ap, inl, inr}
use Rattle.std.proofs.lemmas.Result.{err_from_is_err_and}
use Rattle.fw_patterns.specs.Reading.{in_front}
use Rattle.fw_patterns.proofs.ClassLemmas.{in_front-push, members-wait, members-add, members-no, members-end}
use Rattle.fw_patterns.proofs.classes.members.Goals as goal
use Rattle.fw_patterns.proofs.classes.members.Goals.{in-Wait, in-Add+in_ok-push-in-Add}

pub returns-in-NoMember : goal.returns-in-NoMember
returns-in-NoMember c =
    let refused = members-no c.args.bracket c.args.end c.loop-sign.front c.loop-sign.sign-index c.args.signs.now _ c.loop-sign-test.true c.in-NoMember.fault
    (sym c.member_step.ensures ∙ c.in-NoMember.is) in
    inr (sym c.loop-sign.invariant ∙ ap (in_front c.loop-sign.ranges.items) refused)

pub loop-sign-preserved : goal.loop-sign-preserved
loop-sign-preserved c =
    let read = c.loop-sign.ranges.items in
    elim c.match-member_step.branch [
      | in-Wait w ↦
          let left = members-wait c.args.bracket c.args.end c.loop-sign.front c.loop-sign.sign-index c.args.signs.now _ c.loop-sign-test.true _
          (sym c.member_step.ensures ∙ w.in-Wait.is) in
          rw (w.ranges-is, w.front-is) (ap (in_front read) (sym left) ∙ c.loop-sign.invariant)
      | in-Add+in_ok-push-in-Add w ↦
          let left = members-add c.args.bracket c.args.end c.loop-sign.front c.loop-sign.sign-index c.args.signs.now _ c.loop-sign-test.true _ _
          (sym c.member_step.ensures ∙ w.in-Add.is) in
          rw (w.ranges-is, w.front-is, w.in_ok-push-in-Add.ensures.items)
          (in_front-push read _ _ ∙ ap (in_front read) (sym left) ∙ c.loop-sign.invariant)
    ]

pub returns-in_err-push_last : goal.returns-in_err-push_last
returns-in_err-push_last c =
    let p = err_from_is_err_and c.from_residual-in_err-push_last.result c.from_residual-in_err-push_last.ensures.1 in
    let end = members-end c.args.bracket c.args.end c.loop-sign.front c.loop-sign.sign-index c.args.signs.now c.loop-sign-test.false in
    rw (p.1, p.2)
    (elim c.in_err-push_last.ensures [
      | inl none ↦ inl none
      | inr refused ↦
          inr (sym c.loop-sign.invariant ∙ ap (in_front c.loop-sign.ranges.items) (end ∙ refused))
    ])

pub returns : goal.returns
returns c =
    let end = members-end c.args.bracket c.args.end c.loop-sign.front c.loop-sign.sign-index c.args.signs.now c.loop-sign-test.false in
    sym c.loop-sign.invariant ∙ ap (in_front c.loop-sign.ranges.items) end ∙ c.in_ok-push_last.ensures
