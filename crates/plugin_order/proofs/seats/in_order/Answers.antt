use Rattle.std.proofs.Common.{◌≡◌, ℕ, length, List, map, subst, sym, ap, ◌∙◌, refl, arith}
use Rattle.std.proofs.lemmas.Result.{IfOk-weaker}
use Rattle.std.proofs.lemmas.List.Elements.{All-push}
use Rattle.plugin_order.proofs.SeatLaws.{SeatFits, numbers_more, seats_in_order}
use Rattle.std.specs.List.{range_with_len}
use Rattle.plugin_order.specs.declared.seats.Seat.{Seat}
use Rattle.plugin_order.specs.Arranged.{IsInOrder}
use Rattle.plugin_order.proofs.seats.in_order.Goals as goal

pub loop-p-preserved : goal.loop-p-preserved
loop-p-preserved c = rw c.in_ok-push.ensures.items (record {
  numbers = numbers_more c.loop-p.seats.items _ c.loop-p.p c.loop-p.invariant.numbers refl;
  fit = All-push (SeatFits c.args.sheets.now c.args.places.now) c.loop-p.seats.items _ c.loop-p.invariant.fit
      (record { place = refl; name = c.bytes.ensures ∙ c.name_at.ensures });
})

pub returns : goal.returns
returns c =
    let all : c.loop-p.p ≡ length c.args.sheets.now = omega (arith, c.loop-p-test.false, c.loop-p.auto.p-end) in
    let numbers : map (λ (s : Seat). s.plugin) c.loop-p.seats.items ≡ range_with_len 0 (length c.args.sheets.now) =
    c.loop-p.invariant.numbers ∙ ap (λ (n : ℕ). range_with_len 0 n) all in
    let P : List ℕ → Type 0 = IsInOrder c.args.sheets.now c.args.places.now in
    IfOk-weaker c.plugins_of.result _ _
    (λ v e. subst P (sym (e ∙ ap (λ (seats : List Seat). map (λ (s : Seat). s.plugin) seats) c.deref.ensures.value))
    (seats_in_order c.args.sheets.now c.args.places.now c.loop-p.seats.items c.sort.new.self.items numbers c.loop-p.invariant.fit
    c.in_ok-sort.ensures.permutation c.in_ok-sort.ensures.sorted))
    c.plugins_of.ensures
