use Rattle.std.proofs.Common.{rules}
use mathlib.Core.Option.{none}
use Rattle.atomic_table.specs.Table.{step}
use Rattle.turn_lock.proofs.Turns.{draws}
use Rattle.turn_lock.proofs.steps.draw.Goals as goal

pub fetch_add-requires : goal.fetch_add-requires
fetch_add-requires g c = (search rules, search rules, draws g.V.Chronicle.entries g.V.Chronicle.by _ _ _ _ _ _ c.requires.idle (step 1 0 1 0 none))
