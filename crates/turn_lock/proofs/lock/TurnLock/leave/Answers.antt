use Rattle.std.proofs.Common.{◌∙◌, ℕ, [], ◌++◌, ap}
use Rattle.turn_lock.specs.declared.boxed.Boxed.{Boxed}
use Rattle.turn_lock.specs.declared.view.SeatView.TheVariants.{Idle}
use Rattle.turn_lock.specs.Lists.{beyond}
use Rattle.turn_lock.specs.Shown.{PassView}
use Rattle.turn_lock.specs.Steps.{Seated}
use Rattle.turn_lock.specs.Views.{knows, own_of}
use Rattle.turn_lock.proofs.Fields.{may_end, ended}
use Rattle.turn_lock.proofs.lock.TurnLock.leave.Goals as goal

pub pass_on-ended-requires-clause-turn : goal.pass_on-ended-requires-clause-turn
pass_on-ended-requires-clause-turn g c = let seat = c.turn.inside.seat in
    may_end (λ (b : Boxed g.row.V.Denot). b.held.value) g.V.Chronicle.entries g.V.Chronicle.by seat.table_id seat.me c.put.new.seat.me c.turn.inside.boxed c.args.turn c.turn.view_is c.turn.invariant c.put.ensures.filled c.requires.adds

pub regain-requires : goal.regain-requires
regain-requires g c = let e = g.V.Chronicle.entries in
    let t = c.args.turn in
    let seat = c.turn.inside.seat in
    let list = e t.value in
    let mine = t.mine ++ beyond t.seen list in
    let idle = c.call_next.ensures.same ∙ ended (λ (b : Boxed g.row.V.Denot). b.held.value) e g.V.Chronicle.by seat.table_id seat.me c.put.new.seat.me c.pass_on-ended.new.seat.me c.turn.inside.boxed t c.turn.view_is c.turn.invariant c.put.ensures.filled c.pass_on-ended.ensures.idle in
    (t.base, list, mine, idle ∙ ap (λ (n : ℕ). (Idle (knows n t.base list mine), [])) c.requires.turn.1)

pub returns-clause-same : goal.returns-clause-same
returns-clause-same g c =
    let Pass : Type 0 = PassView g.row.V-Entry.Denot in
    let Seat : Type 0 = Seated (Boxed g.row.V.Denot) g.row.V-Entry.Denot in
    let seat = c.turn.inside.seat in
    let idle = c.call_next.ensures.same ∙ ended (λ (b : Boxed g.row.V.Denot). b.held.value) g.V.Chronicle.entries g.V.Chronicle.by seat.table_id seat.me c.put.new.seat.me c.pass_on-ended.new.seat.me c.turn.inside.boxed c.args.turn c.turn.view_is c.turn.invariant c.put.ensures.filled c.pass_on-ended.ensures.idle in
    (ap (λ (p : Pass). p.number) c.regain.ensures, ap (λ (p : Pass). p.base) c.regain.ensures ∙ ap (λ (m : Seat). (own_of m.0).base) idle)

pub returns-clause-seen : goal.returns-clause-seen
returns-clause-seen g c =
    let Pass : Type 0 = PassView g.row.V-Entry.Denot in
    let Seat : Type 0 = Seated (Boxed g.row.V.Denot) g.row.V-Entry.Denot in
    let seat = c.turn.inside.seat in
    let idle = c.call_next.ensures.same ∙ ended (λ (b : Boxed g.row.V.Denot). b.held.value) g.V.Chronicle.entries g.V.Chronicle.by seat.table_id seat.me c.put.new.seat.me c.pass_on-ended.new.seat.me c.turn.inside.boxed c.args.turn c.turn.view_is c.turn.invariant c.put.ensures.filled c.pass_on-ended.ensures.idle in
    ap (λ (p : Pass). p.seen) c.regain.ensures ∙ ap (λ (m : Seat). (own_of m.0).seen) idle
