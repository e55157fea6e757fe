use Rattle.std.proofs.Common.{sym, subst, ◌∙◌, arith}
use Rattle.atomic_table.specs.Table.{Joins}
use Rattle.turn_lock.specs.declared.view.SeatView.{SeatView}
use Rattle.turn_lock.specs.declared.view.SeatView.TheVariants.{Spent}
use Rattle.turn_lock.specs.Views.{taken_in, knowledge_of}
use Rattle.turn_lock.specs.Rule.{TakesTurns}
use Rattle.turn_lock.proofs.Fields.{idle_seat}
use Rattle.turn_lock.proofs.Passes.{joins}
use Rattle.turn_lock.proofs.steps.take_in.Goals as goal

pub join_seat-requires : goal.join_seat-requires
join_seat-requires g c = let e = g.V.Chronicle.entries in
    let R = TakesTurns e g.V.Chronicle.by c.args.table.now.key.seats (e c.args.table.now.key.value.value) in
    let v = c.args.closer.now.me.0 in
    let P : SeatView g.row.V-Entry.Denot → Type 0 = λ w. Joins R c.args.closer.now.id v c.lend.result.id w (taken_in v w) Spent in
    let seat = c.lend.ensures.seat in
    let idle = idle_seat c.lend.result.me (knowledge_of c.args.pass) seat.1 in (
      c.requires.seat.0,
      seat.0 ∙ c.requires.ready.0,
      idle.1,
      omega arith,
      subst P (sym idle.0) (joins e g.V.Chronicle.by _ _ _ _ v (knowledge_of c.args.pass) c.requires.closer),
    )
