use Rattle.std.proofs.Common.{ℕ, ◌<◌, List, All, length, subst, sym, ap, ◌∙◌}
use Rattle.plugin_order.specs.Arranged.{IsInOrder, enabled}
use Rattle.plugin_order.proofs.SeatLaws.{order_within}
use Rattle.plugin_order.proofs.arranging.arrange.Goals as goal

pub left_enabled-requires : goal.left_enabled-requires
left_enabled-requires c =
    subst (λ (order : List ℕ). All (λ p. p < length c.args.sheets.now) order) (sym c.deref-2.ensures.value)
    (order_within c.args.sheets.now c.deref.result.now c.in_ok-order.order.items c.in_ok-order.ensures)

pub returns-clause-arranged : goal.returns-clause-arranged
returns-clause-arranged c = rw (c.of.ensures, c.of-2.ensures, c.of-3.ensures) (record {
  places = c.in_ok-places.places.items;
  place = c.in_ok-places.ensures.each;
  order = subst (λ (places : List ℕ). IsInOrder c.args.sheets.now places c.in_ok-order.order.items) c.deref.ensures.value c.in_ok-order.ensures;
  enabled_len = c.in_ok-enabled.ensures.len;
  enabled_each = λ p lt. c.in_ok-enabled.ensures.each p lt
      ∙ ap (λ (order : List ℕ). enabled c.args.sheets.now order p) c.deref-2.ensures.value;
  priority_len = c.in_ok-priority.ensures.len;
  priority_each = c.in_ok-priority.ensures.each;
})
