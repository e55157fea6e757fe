use Rattle.std.proofs.Common.{◌≡◌, length, map, vec_len}
use Rattle.remote_set.specs.Merged.{kept_of, placed_from}
use Rattle.remote_set.specs.Pieces.{piece_of}
use Rattle.remote_set.proofs.parts.parts_of.Given as goal

abbrev pub invariant-loop-remote : goal.invariant-loop-remote
invariant-loop-remote l = record {
  parts : l.parts.items ≡ map (piece_of l.fn.remotes.items) (placed_from 0 l.yielded);
  at : vec_len l.parts ≡ length l.yielded;
  as_many : length l.parts.items ≡ length l.yielded;
  kept : l.kept.items ≡ map (kept_of l.fn.remotes.items) (placed_from 0 l.yielded);
}
