use Rattle.std.proofs.Common.{◌≡◌, true, false, ap, sym, ◌∙◌}
use Rattle.update_log.proofs.RowsKept.{is_kept}
use Rattle.daemon_core.proofs.ResumeExits.{never-kept, verdict-fails}
use Rattle.daemon_core.proofs.house.House.resume_held.Goals as goal

pub resume_accepted-requires-clause-accepted : goal.resume_accepted-requires-clause-accepted
resume_accepted-requires-clause-accepted g c =
    (c.in-Accept.device, c.in-Accept.release, c.in-Accept.blocks, sym c.in-Accept.ensures)

pub unreachable-requires : goal.unreachable-requires
unreachable-requires g c =
    let bad : true ≡ false = ap is_kept c.in-Kept.ensures ∙ never-kept c.args.self.now.house_log c.args.entry c.args.ticket in cc

pub fail-requires-clause-fails : goal.fail-requires-clause-fails
fail-requires-clause-fails g c =
    verdict-fails c.args.self.now.house_log c.args.entry c.args.ticket c.args.fetched c.in-Refused.refusal c.requires.held (sym c.in-Refused.ensures)
