use Rattle.std.proofs.Common.{subst, sym}
use Rattle.history_keeper.specs.Numbers.{IsNumbered}
use Rattle.history_keeper.proofs.Numbered.{numbered-stated}
use Rattle.history_keeper.proofs.memory_rows.advance_numbered.Goals as goal

pub returns-clause-numbered : goal.returns-clause-numbered
returns-clause-numbered c =
    subst IsNumbered (sym c.advance_at_place.ensures) (numbered-stated c.args.entry c.args.state c.args.reason c.args.time c.args.rows.now.items c.requires)
