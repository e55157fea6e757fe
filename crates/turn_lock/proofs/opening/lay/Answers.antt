use Rattle.std.proofs.Common.{replicate, sym, ap, subst, List, Option}
use Rattle.atomic_table.specs.Table.{opening}
use Rattle.turn_lock.specs.Rule.{TakesTurns, first}
use Rattle.turn_lock.proofs.Ends.{starts}
use Rattle.turn_lock.proofs.opening.lay.Goals as goal

pub new-requires : goal.new-requires
new-requires g c = let e = g.V.Chronicle.entries in
    let P : List (Option g.row.V.Denot) → Type 0 = λ xs. TakesTurns e g.V.Chronicle.by c.args.start.now.seats (e c.args.start.now.value.value) (opening (replicate 18 0) xs (first e c.args.start.now)) in
    subst P (sym c.in_ok-slots.ensures.ok) (starts e g.V.Chronicle.by _ _ c.args.value (ap e (sym c.requires.start)) c.requires.few (replicate 16 0))
