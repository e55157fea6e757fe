use Rattle.std.proofs.Common.{◌≡◌, map, take}
use Rattle.quirk_files.specs.Sheets.{last_read}
use Rattle.quirk_files.proofs.sheets.last_read.Given as goal

abbrev pub invariant-loop-quirk : goal.invariant-loop-quirk
invariant-loop-quirk g l =
    l.last ≡ last_read (g.R.Reader.reads l.reader) l.key (take l.quirk-index (map (λ quirk. quirk.now) l.quirks))
