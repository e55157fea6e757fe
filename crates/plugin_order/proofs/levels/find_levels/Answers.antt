use Rattle.std.proofs.Common.{◌≡◌, ◌+◌, ◌<◌, ◌≤◌, Some, count_by, is_none, length, slice_set, inl, inr, arith}
use Rattle.std.proofs.lemmas.List.Sums.{count_by-le-length}
use Rattle.plugin_order.specs.Chains.{IsLongest}
use Rattle.plugin_order.specs.Table.{holds}
use Rattle.plugin_order.proofs.ChainLaws.{longest_step}
use Rattle.plugin_order.proofs.Counting.{count_none-set}
use Rattle.plugin_order.proofs.Found.{none_found, set_found, stands}
use Rattle.plugin_order.proofs.levels.find_levels.Goals as goal

pub loop-p-init : goal.loop-p-init
loop-p-init c = record {
  longest = λ p h e. absurd (none_found 64 p h e);
  small = λ p h e. absurd (none_found 64 p h e);
}

pub loop-p-preserved : goal.loop-p-preserved
loop-p-preserved c =
    let room : c.in-Some.p < length c.loop-p.heights = omega (arith, c.args.rules.now.few, c.loop-p.array_long, c.in-Some.ensures.some.0) in
    let fewer : count_by is_none (slice_set c.loop-p.heights c.in-Some.p (Some c.height_over.result)) + 1 ≡ count_by is_none c.loop-p.heights =
    count_none-set c.loop-p.heights c.in-Some.p c.height_over.result room c.in-Some.ensures.some.1 in
    let most : count_by is_none c.loop-p.heights ≤ length c.loop-p.heights = count_by-le-length is_none c.loop-p.heights in
    let small : c.height_over.result + count_by is_none (slice_set c.loop-p.heights c.in-Some.p (Some c.height_over.result)) ≤ 64 =
    elim c.height_over.ensures.reached [
      | inl z ↦ omega (arith, fewer, most, z, c.loop-p.array_long)
      | inr w ↦ (let g : w.1 + count_by is_none c.loop-p.heights ≤ 64 = c.loop-p.invariant.small w.0 w.1 w.3 in omega (arith, fewer, g, w.4))
    ] in
    record {
      longest = set_found (IsLongest (holds c.args.rules.now)) c.loop-p.heights c.in-Some.p c.height_over.result room
          (longest_step (holds c.args.rules.now) c.in-Some.p c.height_over.result
          (stands c.args.rules.now c.loop-p.heights c.in-Some.p c.height_over.result c.loop-p.invariant.longest c.in-Some.ensures.some.2 c.height_over.ensures))
          c.loop-p.invariant.longest;
      small = set_found (λ p h. h + count_by is_none (slice_set c.loop-p.heights c.in-Some.p (Some c.height_over.result)) ≤ 64)
          c.loop-p.heights c.in-Some.p c.height_over.result room small
          (λ p h e. let o : h + count_by is_none c.loop-p.heights ≤ 64 = c.loop-p.invariant.small p h e in omega (arith, o, fewer));
    }

pub returns-in_ok-collected-in-None : goal.returns-in_ok-collected-in-None
returns-in_ok-collected-in-None c =
    (c.in_ok-collected-in-None.ensures.len, λ p lt. c.loop-p.invariant.longest p _ (c.in_ok-collected-in-None.ensures.each p lt))
