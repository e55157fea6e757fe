use Rattle.std.proofs.Common.{◌≡◌, ◌≤◌, ◌+◌, ◌++◌, map, reverse}
use Rattle.std.specs.Prelude.{vec_len, vec_capacity}
use Rattle.daemon_core.specs.House.{place_of}
use Rattle.daemon_core.proofs.making.fill_places.Given as goal

abbrev pub invariant-loop-board : goal.invariant-loop-board
invariant-loop-board l = record {
  room : vec_len l.places + vec_len l.left ≤ vec_capacity l.places;
  split : l.places.items ++ map place_of (reverse l.left.items) ≡ map place_of l.fn.boards.items;
}

abbrev pub decreases-loop-board : goal.decreases-loop-board
decreases-loop-board l = vec_len l.left
