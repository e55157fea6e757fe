use Rattle.std.proofs.Common.{◌≡◌, ◌≤◌, ◌+◌, ◌++◌, ◌||◌, length, map, reverse, vec_capacity}
use Rattle.std.specs.List.{list_any}
use Rattle.client_threads.specs.declared.clients.Client.{Client}
use Rattle.client_threads.proofs.dealing.dismiss.Given as goal

abbrev pub invariant-loop-client : goal.invariant-loop-client
invariant-loop-client g l =
    record {
      passes : l.passes.items ++ reverse (map (λ (c : Client g.row.P.Denot). c.pass) l.clients.items) ≡ l.fn.passes.items ++ reverse (map (λ (c : Client g.row.P.Denot). c.pass) l.fn.clients.items);
      shelves : l.shelves.items ++ reverse (map (λ (c : Client g.row.P.Denot). c.shelf) l.clients.items) ≡ l.fn.shelves.items ++ reverse (map (λ (c : Client g.row.P.Denot). c.shelf) l.fn.clients.items);
      told : list_any (λ (c : Client g.row.P.Denot). c.wanting) l.fn.clients.items ≡ (l.wanting || list_any (λ (c : Client g.row.P.Denot). c.wanting) l.clients.items);
      passes_room : length l.passes.items + length l.clients.items ≤ vec_capacity l.passes;
      shelves_room : length l.shelves.items + length l.clients.items ≤ vec_capacity l.shelves;
      passes_same : vec_capacity l.passes ≡ vec_capacity l.fn.passes;
    }

abbrev pub decreases-loop-client : goal.decreases-loop-client
decreases-loop-client g l = length l.clients.items
