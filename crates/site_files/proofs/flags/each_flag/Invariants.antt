use Rattle.std.proofs.Common.{◌≡◌, drop}
use Rattle.json_values.specs.Trees.{items_view}
use Rattle.fw_facts.specs.Flags.{no_flags}
use Rattle.site_files.specs.Flags.{each_flag}
use Rattle.site_files.proofs.flags.each_flag.Given as goal

abbrev pub invariant-loop-value : goal.invariant-loop-value
invariant-loop-value l = each_flag l.spot l.flags (items_view (drop l.value-index l.values)) ≡ each_flag l.spot no_flags (items_view l.values)
