use Rattle.std.proofs.Common.{◌≡◌, drop, []}
use Rattle.json_values.specs.Trees.{items_view}
use Rattle.site_files.specs.Quirks.{each_file}
use Rattle.site_files.proofs.quirks.each_file.Given as goal

abbrev pub invariant-loop-i : goal.invariant-loop-i
invariant-loop-i l = each_file l.i l.book (items_view (drop l.i l.values)) ≡ each_file 0 [] (items_view l.values)
