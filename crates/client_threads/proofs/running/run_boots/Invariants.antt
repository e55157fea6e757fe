use Rattle.history_keeper.specs.Signs.{signs_of}
use Rattle.daemon_core.specs.Housed.{past}
use Rattle.client_plays.specs.Faults.{ShelvesCount}
use Rattle.client_plays.specs.Has.{shelves_told}
use Rattle.client_plays.specs.Shelves.{means_for}
use Rattle.plugin_trait.specs.Steps.{steps_at}
use Rattle.client_plays.specs.Tools.{ShelvesStay}
use Rattle.client_plays.specs.Endings.{ReadLast}
use Rattle.client_threads.specs.Runs.{RanSoFar}
use Rattle.client_threads.proofs.running.run_boots.Given as goal

abbrev pub invariant-loop-number : goal.invariant-loop-number
invariant-loop-number g l = record {
  ran : RanSoFar (signs_of g.K.Keeper.tells g.K.Keeper.doubt g.K.Keeper.faults) l.wanting (means_for (steps_at (λ b. (goal.Plugin-dyn g (b.vtable, b.value)).steps b.value) l.plugins) (shelves_told g.P.Shelf.files g.P.Shelf.faults l.fn.shelves.items)) l.plans l.scripts l.number l.fn.house l.house;
  read : ReadLast l.house;
  kept : ShelvesStay (shelves_told g.P.Shelf.files g.P.Shelf.faults l.fn.shelves.items) (shelves_told g.P.Shelf.files g.P.Shelf.faults l.shelves.items);
  told : ShelvesCount (past l.fn.house) (past l.house) (shelves_told g.P.Shelf.files g.P.Shelf.faults l.fn.shelves.items) (shelves_told g.P.Shelf.files g.P.Shelf.faults l.shelves.items);
}
