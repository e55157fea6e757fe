use Rattle.std.proofs.Common.{rules, sym, ◌∙◌, ap, Some, ◌∷◌, ℕ, List, Option}
use Rattle.atomic_table.specs.Table.{rest}
use Rattle.turn_lock.proofs.steps.take.Goals as goal

pub exchange-requires : goal.exchange-requires
exchange-requires g c = let t = c.requires.full in (search rules, (Some t.0, t.1 ∙ ap (λ (out : List (ℕ × Option g.row.V.Denot)). (0, Some t.0) ∷ rest out) (sym t.1)))
