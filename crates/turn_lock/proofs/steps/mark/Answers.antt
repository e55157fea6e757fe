use Rattle.std.proofs.Common.{rules}
use Rattle.std.specs.Prelude.{bit_or}
use mathlib.Core.Option.{none}
use Rattle.atomic_table.specs.Table.{step}
use Rattle.turn_lock.proofs.Turns.{rings}
use Rattle.turn_lock.proofs.steps.mark.Goals as goal

pub fetch_or-was-requires : goal.fetch_or-was-requires
fetch_or-was-requires g c = (search rules, search rules, rings g.V.Chronicle.entries g.V.Chronicle.by _ _ _ _ _ _ (λ n. bit_or n 1) c.requires.bell.0 (step 1 c.args.bell 1 0 none))
