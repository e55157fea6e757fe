use Rattle.std.proofs.Common.{rules}
use mathlib.Core.Option.{none}
use Rattle.atomic_table.specs.Table.{step}
use Rattle.turn_lock.proofs.Turns.{passes_on}
use Rattle.turn_lock.proofs.steps.pass_on.Goals as goal

pub fetch_add-requires : goal.fetch_add-requires
fetch_add-requires g c = let t = c.requires.turn in (search rules, search rules, passes_on g.V.Chronicle.entries g.V.Chronicle.by _ _ _ _ _ t.2.0 t.0 t.1 t.2.1 t.3 (step 1 1 1 0 none))
