use Rattle.std.proofs.Common.{◌≡◌, ℕ, true, false, List, slice_index}
use Rattle.std.specs.Ordering.{nat_cmp, is_lt}
use Rattle.std.specs.Cmp.Lexicographic.{slice_cmp}
use Rattle.plugin_order.specs.Sheets.{name_at}
use Rattle.plugin_order.proofs.NameOrder.{least_more, least_same}
use Rattle.plugin_order.proofs.cycles.least_at.Goals as goal
use Rattle.plugin_order.proofs.cycles.least_at.Goals.{then-is_less, else-is_less}

pub loop-i-preserved : goal.loop-i-preserved
loop-i-preserved c =
    let f : ℕ → List ℕ = λ k. name_at c.args.sheets.now (slice_index c.args.cycle.now k) in
    elim c.if-is_less.branch [
      | then-is_less w ↦ (
          let t : is_lt (slice_cmp nat_cmp (f c.loop-i.i) (f c.loop-i.at)) ≡ true = cc (c.is_less.ensures, c.name_at.ensures, c.name_at-in-loop-i.ensures, w.if-is_less.true) in
          rw w.at-is (record { within = c.loop-i-test.true; least = least_more f c.loop-i.i c.loop-i.at t c.loop-i.invariant.least }))
      | else-is_less w ↦ (
          let t : is_lt (slice_cmp nat_cmp (f c.loop-i.i) (f c.loop-i.at)) ≡ false = cc (c.is_less.ensures, c.name_at.ensures, c.name_at-in-loop-i.ensures, w.if-is_less.false) in
          rw w.at-is (record { within = c.loop-i.invariant.within; least = least_same f c.loop-i.i c.loop-i.at t c.loop-i.invariant.least }))
    ]
