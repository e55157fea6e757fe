use Rattle.std.proofs.Common.{rules, sym, ◌∙◌}
use mathlib.Core.Option.{none}
use Rattle.atomic_table.specs.Table.{step}
use Rattle.turn_lock.proofs.Turns.{looks}
use Rattle.turn_lock.proofs.steps.look.Goals as goal

pub load-ended-requires : goal.load-ended-requires
load-ended-requires g c = (search rules, search rules, looks g.V.Chronicle.entries g.V.Chronicle.by _ _ _ _ _ _ _ c.requires.ticket.2 (step 1 1 0 0 none))

pub returns-then-ended-ticket-clause-found : goal.returns-then-ended-ticket-clause-found
returns-then-ended-ticket-clause-found g c = let t = c.requires.ticket in (c.load-ended.ensures.2 t.0 _ t.2).0 (c.if-ended-ticket.true ∙ sym t.1)

pub returns-else-ended-ticket-clause-found : goal.returns-else-ended-ticket-clause-found
returns-else-ended-ticket-clause-found g c = let t = c.requires.ticket in (c.load-ended.ensures.2 t.0 _ t.2).1 (λ e. c.if-ended-ticket.false (e ∙ t.1))
