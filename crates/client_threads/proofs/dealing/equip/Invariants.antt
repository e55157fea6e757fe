use Rattle.std.proofs.Common.{◌≡◌, ◌≤◌, ◌+◌, ◌++◌, length, map, reverse, vec_capacity}
use Rattle.client_threads.specs.declared.clients.Client.{Client}
use Rattle.client_threads.proofs.dealing.equip.Given as goal

abbrev pub invariant-loop-pass : goal.invariant-loop-pass
invariant-loop-pass g l =
    record {
      passes : l.fn.passes.items ≡ l.passes.items ++ reverse (map (λ (c : Client g.row.P.Denot). c.pass) l.clients.items);
      shelves : l.fn.shelves.items ≡ l.shelves.items ++ reverse (map (λ (c : Client g.row.P.Denot). c.shelf) l.clients.items);
      room : length l.passes.items + length l.clients.items ≤ vec_capacity l.clients;
      enough : length l.passes.items ≤ length l.shelves.items;
      passes_room : vec_capacity l.passes ≡ vec_capacity l.fn.passes;
      shelves_room : vec_capacity l.shelves ≡ vec_capacity l.fn.shelves;
    }

abbrev pub decreases-loop-pass : goal.decreases-loop-pass
decreases-loop-pass g l = length l.passes.items
