use Rattle.std.proofs.Common.{◌≡◌, ◌<◌, ◌+◌, ap, sym, ◌∙◌, arith, length, get_or}
use Rattle.update_log.proofs.Targets.{at-index}
use Rattle.daemon_core.proofs.Compared.{differ-here, differ-left_ended, differ-right_ended, same-here}
use Rattle.daemon_core.proofs.comparing.first_difference.Goals.{then-at-right-via-then-at-right, then-at-right-via-else-at-right+then-not-same_row}
use Rattle.daemon_core.proofs.comparing.first_difference.Goals as goal

pub returns-then-at-right : goal.returns-then-at-right
returns-then-at-right c =
    let count = c.loop-row.invariant.count in
    let within = c.loop-row.invariant.within in
    let inside : c.loop-row.at < length c.args.left.now = omega arith in
    let item : c.row-item.result ≡ get_or c.args.left.now c.loop-row.at c.row-item.result = c.row-item.is ∙ ap (λ n. get_or c.args.left.now n c.row-item.result) (sym count) in
    elim c.then-at-right.branch [
      | then-at-right-via-then-at-right w ↦ differ-right_ended c.args.left.now c.args.right.now c.loop-row.at c.loop-row.invariant.same w.if-at-right.true inside
      | then-at-right-via-else-at-right+then-not-same_row w ↦
          let there : c.loop-row.at < length c.args.right.now = (let n = w.if-at-right.false in omega (arith, n, within)) in
          differ-here c.args.left.now c.args.right.now c.loop-row.at c.row-item.result w.index-right-at.result c.loop-row.invariant.same
          (at-index c.args.left.now c.loop-row.at c.row-item.result inside item)
          (at-index c.args.right.now c.loop-row.at w.index-right-at.result there w.index-right-at.is)
          (sym w.same_row.ensures ∙ w.if-not-same_row.true)
    ]

pub loop-row-preserved : goal.loop-row-preserved
loop-row-preserved c =
    let count = c.loop-row.invariant.count in
    let within = c.loop-row.invariant.within in
    let not = c.if-at-right.false in
    let inside : c.loop-row.at < length c.args.left.now = omega arith in
    let there : c.loop-row.at < length c.args.right.now = omega (arith, not, within) in
    let item : c.row-item.result ≡ get_or c.args.left.now c.loop-row.at c.row-item.result = c.row-item.is ∙ ap (λ n. get_or c.args.left.now n c.row-item.result) (sym count) in
    record {
      count = ap (λ n. n + 1) count;
      within = omega (arith, there);
      same = same-here c.args.left.now c.args.right.now c.loop-row.at c.row-item.result c.index-right-at.result c.loop-row.invariant.same
          (at-index c.args.left.now c.loop-row.at c.row-item.result inside item)
          (at-index c.args.right.now c.loop-row.at c.index-right-at.result there c.index-right-at.is)
          (sym c.same_row.ensures ∙ c.if-not-same_row.false);
    }

pub returns-else-at-right-2 : goal.returns-else-at-right-2
returns-else-at-right-2 c =
    let count = c.loop-row.invariant.count in
    let within = c.loop-row.invariant.within in
    let not = c.if-at-right-2.false in
    let ended = c.loop-row-test.false in
    differ-left_ended c.args.left.now c.args.right.now c.loop-row.at c.loop-row.invariant.same (omega (arith, count, ended)) (omega (arith, not, within))
