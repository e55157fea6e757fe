use Rattle.site_remotes.proofs.Merging.{not_too_many}
use Rattle.site_remotes.proofs.gathering.merged.Goals as goal

pub unreachable-requires-in-Err-TooMany : goal.unreachable-requires-in-Err-TooMany
unreachable-requires-in-Err-TooMany c =
    not_too_many c.args.remotes.items _ _ _ c.in-Err-TooMany.field-0-is c.requires.within c.requires.named c.in-Err-TooMany.ensures
