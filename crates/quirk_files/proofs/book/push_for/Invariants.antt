use Rattle.std.proofs.Common.{◌≡◌, ◌++◌, map, filter, take}
use Rattle.std.specs.List.{flat_map}
use Rattle.quirk_files.specs.Sheets.{is_for}
use Rattle.quirk_files.proofs.book.push_for.Given as goal

abbrev pub invariant-loop-file : goal.invariant-loop-file
invariant-loop-file l =
    map (λ quirk. quirk.now) l.quirks.items
    ≡ map (λ quirk. quirk.now) l.initial.quirks.items ++ filter (is_for l.guids) (flat_map (λ file. file) (take l.file-index l.files))
