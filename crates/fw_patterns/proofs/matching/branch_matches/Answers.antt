use Rattle.std.proofs.Common.{length, refl, sym, arith, ◌∙◌}
use Rattle.std.proofs.lemmas.List.{drop_all}
use Rattle.fw_patterns.proofs.PlaceLemmas.{Tell-back, branch_at-back, branch_at-end}
use Rattle.fw_patterns.proofs.matching.branch_matches.Goals as goal

pub loop-left-init : goal.loop-left-init
loop-left-init c =
    let told = rw c.items.ensures at c.places_at_end.ensures.tell c.args.branch.now.to_end in (
      omega arith,
      c.places_at_end.ensures.len,
      rw (drop_all (length c.args.text.now) c.args.text.now (omega arith)) told,
      told 0 (omega arith) ∙ sym (branch_at-end c.args.branch.now c.args.text.now),
    )

pub loop-left-preserved-then-places : goal.loop-left-preserved-then-places
loop-left-preserved-then-places c =
    let inv = c.loop-left.invariant in
    let told = Tell-back c.args.branch.now.to_end c.args.text.now c.loop-left.left c.args.branch.now.pieces c.loop-left.places c.step_back.new.places
    c.loop-left-test.true inv.0 (rw c.items-in-loop-left.ensures at c.step_back.ensures.tell) inv.2 in (
      omega (arith, inv.0),
      c.step_back.ensures.len ∙ inv.1,
      told,
      sym (branch_at-back c.args.branch.now c.args.text.now c.loop-left.left c.loop-left-test.true inv.0
          ∙ rw (← told 0 (omega arith), ← inv.3, c.if-places.true) refl),
    )

pub loop-left-preserved-then-not-branch : goal.loop-left-preserved-then-not-branch
loop-left-preserved-then-not-branch c =
    let inv = c.loop-left.invariant in
    let told = Tell-back c.args.branch.now.to_end c.args.text.now c.loop-left.left c.args.branch.now.pieces c.loop-left.places c.step_back.new.places
    c.loop-left-test.true inv.0 (rw c.items-in-loop-left.ensures at c.step_back.ensures.tell) inv.2 in (
      omega (arith, inv.0),
      c.step_back.ensures.len ∙ inv.1,
      told,
      sym (branch_at-back c.args.branch.now c.args.text.now c.loop-left.left c.loop-left-test.true inv.0
          ∙ rw (← told 0 (omega arith), ← inv.3, c.if-places.false, c.if-not-branch.true) refl),
    )

pub loop-left-preserved : goal.loop-left-preserved
loop-left-preserved c =
    let inv = c.loop-left.invariant in
    let told = Tell-back c.args.branch.now.to_end c.args.text.now c.loop-left.left c.args.branch.now.pieces c.loop-left.places c.step_back.new.places
    c.loop-left-test.true inv.0 (rw c.items-in-loop-left.ensures at c.step_back.ensures.tell) inv.2 in (
      omega (arith, inv.0),
      c.step_back.ensures.len ∙ inv.1,
      told,
      sym (branch_at-back c.args.branch.now c.args.text.now c.loop-left.left c.loop-left-test.true inv.0
          ∙ rw (← told 0 (omega arith), ← inv.3, c.if-places.false, c.if-not-branch.false) refl),
    )
