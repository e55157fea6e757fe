use Rattle.std.proofs.Common.{List, Bool, ◌+◌, ◌∙◌, ap, sym, drop}
use Rattle.fw_facts.specs.declared.flags.DeviceFlag.TheVariants.{Internal}
use Rattle.quirk_files.specs.declared.changes.FlagChange.TheVariants.{Add}
use Rattle.quirk_files.specs.Flags.{changed}
use Rattle.quirk_files.proofs.Loops.{changed_more, changed_none}
use Rattle.quirk_files.proofs.changes.changed.Goals as goal

pub loop-change-preserved : goal.loop-change-preserved
loop-change-preserved c =
    ap (λ (flags : List Bool). changed flags (drop (c.loop-change.change-index + 1) c.args.changes.now)) c.applied-flags.ensures
    ∙ sym (changed_more c.loop-change.flags c.args.changes.now c.loop-change.change-index (Add Internal) c.loop-change-test.true) ∙ c.loop-change.invariant

pub returns : goal.returns
returns c =
    sym (changed_none c.loop-change.flags c.args.changes.now c.loop-change.change-index c.loop-change-test.false) ∙ c.loop-change.invariant
