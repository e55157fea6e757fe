use Rattle.std.proofs.Common.{◌≡◌, [], map}
use Rattle.std.specs.List.{filter_map, range_with_len}
use Rattle.quirk_files.specs.Files.{fault_at, quirk_at, group_at, without_return}
use Rattle.quirk_files.proofs.file.FileQuirks.read_lines.Given as goal

abbrev pub invariant-loop-at : goal.invariant-loop-at
invariant-loop-at l = record {
  quirks : l.file ≡ filter_map (quirk_at (map without_return (map (λ line. line.now) l.lines))) (range_with_len 0 l.at);
  group : l.group ≡ group_at (map without_return (map (λ line. line.now) l.lines)) l.at;
  no_fault : filter_map (fault_at (map without_return (map (λ line. line.now) l.lines))) (range_with_len 0 l.at) ≡ [];
}
