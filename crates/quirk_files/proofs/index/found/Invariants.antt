use Rattle.std.proofs.Common.{◌≡◌, ◌≤◌, ◌++◌, map, filter, length, take, reverse}
use Rattle.quirk_files.specs.Places.{HeadsAre}
use Rattle.quirk_files.specs.Sheets.{is_for}
use Rattle.quirk_files.proofs.index.found.Given as goal

abbrev pub invariant-loop-place : goal.invariant-loop-place
invariant-loop-place l = record {
  within : l.at ≤ length l.quirks;
  heads_are : HeadsAre (map (λ quirk. quirk.group) l.quirks) l.at l.guids l.heads.items;
  rest : filter (is_for l.guids) l.quirks ≡ filter (is_for l.guids) (take l.at l.quirks) ++ map (λ quirk. quirk.now) (reverse l.found.items);
}

abbrev pub decreases-loop-place : goal.decreases-loop-place
decreases-loop-place l = l.at
