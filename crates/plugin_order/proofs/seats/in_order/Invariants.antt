use Rattle.std.proofs.Common.{◌≡◌, map, All}
use Rattle.std.specs.List.{range_with_len}
use Rattle.plugin_order.proofs.SeatLaws.{SeatFits}
use Rattle.plugin_order.specs.declared.seats.Seat.{Seat}
use Rattle.plugin_order.proofs.seats.in_order.Given as goal

abbrev pub invariant-loop-p : goal.invariant-loop-p
invariant-loop-p l = record {
  numbers : map (λ (s : Seat). s.plugin) l.seats.items ≡ range_with_len 0 l.p;
  fit : All (SeatFits l.sheets l.places) l.seats.items;
}
