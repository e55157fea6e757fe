use Rattle.std.proofs.Common.{◌≡◌, ◌≤◌, ◌<◌, ◌-◌, length, vec_len}
use Rattle.outer_traits.specs.Sources.{Came}
use Rattle.outer_traits.proofs.source.read_by_pieces.Given as goal

abbrev pub invariant-loop-bytes : goal.invariant-loop-bytes
invariant-loop-bytes g l = record {
  came : Came l.bytes.items (g.S.Source.left l.fn.source) (g.S.Source.left l.source);
  within : vec_len l.bytes ≤ l.limit;
  quiet : g.S.Source.faults l.source ≡ g.S.Source.faults l.fn.source;
  room : 0 < length l.buffer;
}

abbrev pub decreases-loop-bytes : goal.decreases-loop-bytes
decreases-loop-bytes g l = l.limit - vec_len l.bytes
