use Rattle.std.proofs.Common.{◌≡◌, drop}
use Rattle.json_values.specs.Trees.{items_view}
use Rattle.site_scripts.specs.Items.{each_install_flag, no_install_flags}
use Rattle.site_scripts.proofs.flags.each_install_flag.Given as goal

abbrev pub invariant-loop-value : goal.invariant-loop-value
invariant-loop-value l = each_install_flag l.spot l.flags (items_view (drop l.value-index l.values))
    ≡ each_install_flag l.spot no_install_flags (items_view l.values)
