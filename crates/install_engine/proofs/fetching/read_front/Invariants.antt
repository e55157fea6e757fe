use Rattle.std.proofs.Common.{◌-◌, ◌≡◌, ◌≤◌, take, IfSome}
use Rattle.outer_traits.specs.Shelves.{bytes_of, StandsAt}
use Rattle.install_engine.proofs.fetching.read_front.Given as goal

abbrev pub invariant-pieces : goal.invariant-pieces
invariant-pieces g l = record {
  within : l.came ≤ l.size;
  front : IfSome (g.P.Shelf.files l.fn.shelf) (λ all. StandsAt (bytes_of all l.name) 0 (take l.came l.blocks.bytes));
  count : l.blocks.count ≡ l.fn.blocks.count;
  unchanged : g.P.Shelf.files l.shelf ≡ g.P.Shelf.files l.fn.shelf;
  quiet : g.P.Shelf.faults l.shelf ≡ g.P.Shelf.faults l.fn.shelf;
}

abbrev pub decreases-pieces : goal.decreases-pieces
decreases-pieces g l = l.size - l.came
