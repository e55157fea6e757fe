use Rattle.std.proofs.Common.{◌≡◌, ℕ, ◌+◌, ◌<◌, ◌≤◌, Bool, true, false, List, length, take, get_or, if◌then◌else◌, ap, ◌∙◌, arith}
use Rattle.std.specs.Prelude.{filter}
use Rattle.std.proofs.lemmas.List.Filters.{length-filter_more}
use Rattle.update_log.specs.declared.event.Event.{Event}
use Rattle.command_outputs.specs.Summed.{is_of}
use Rattle.command_outputs.proofs.counting.count_of.Goals as goal

low : (b : Bool) → (if b then 1 else 0) ≤ 1
low true = omega arith
low false = omega arith

step : (p : Event → Bool) (xs : List Event) (i n r : ℕ) (x : Event) (b : Bool) → i < length xs → x ≡ get_or xs i x → b ≡ p x → r ≡ (if b then 1 else 0) → n ≡ length (filter p (take i xs))
    → n + r ≡ length (filter p (take (i + 1) xs))
step p xs i n r x b lt is eb er en =
    let one : r ≡ (if p (get_or xs i x) then 1 else 0) = er ∙ ap (λ (b : Bool). if b then 1 else 0) (eb ∙ ap p is) in
    let more : length (filter p (take (i + 1) xs)) ≡ length (filter p (take i xs)) + (if p (get_or xs i x) then 1 else 0) = length-filter_more p xs i x lt in
    omega (arith, one, more, en)

pub loop-event-preserved : goal.loop-event-preserved
loop-event-preserved c = record {
  are = step (is_of c.args.kind) c.args.log.now c.loop-event.event-index c.loop-event.count c.one-count.result c.event-item.result c.is_of.result
      c.loop-event-test.true c.event-item.is c.is_of.ensures c.one-count.ensures c.loop-event.invariant.are;
  within = omega (arith, c.loop-event.invariant.within, low c.is_of.result, c.one-count.ensures);
}
