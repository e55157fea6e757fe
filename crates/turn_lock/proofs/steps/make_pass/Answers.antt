use Rattle.std.proofs.Common.{rules, sym, ap, subst, arith}
use Rattle.atomic_table.specs.Table.{Splits}
use Rattle.turn_lock.specs.declared.view.SeatView.{SeatView}
use Rattle.turn_lock.specs.Steps.{Seated}
use Rattle.turn_lock.specs.Views.{one_more_made, next_pass}
use Rattle.turn_lock.specs.Rule.{TakesTurns}
use Rattle.turn_lock.proofs.Passes.{splits}
use Rattle.turn_lock.proofs.steps.make_pass.Goals as goal

pub split_seat-requires : goal.split_seat-requires
split_seat-requires g c = let e = g.V.Chronicle.entries in
    let R = TakesTurns e g.V.Chronicle.by c.args.table.now.key.seats (e c.args.table.now.key.value.value) in
    let P : SeatView g.row.V-Entry.Denot → Type 0 = λ v. Splits R c.args.opener.now.id v (one_more_made v) (next_pass v) in
    let is = ap (λ (m : Seated g.row.V.Denot g.row.V-Entry.Denot). m.0) c.requires.next in
    (search rules, omega arith, subst P (sym is) (splits e g.V.Chronicle.by _ _ _ _ _ c.requires.room))
