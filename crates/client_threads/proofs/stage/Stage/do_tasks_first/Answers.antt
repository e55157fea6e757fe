use Rattle.std.proofs.Common.{subst, sym}
use Rattle.history_keeper.specs.Signs.{signs_of}
use Rattle.daemon_core.specs.Housed.{basis_in, past}
use Rattle.client_plays.specs.Endings.{HouseWent}
use Rattle.client_plays.specs.Moments.{began}
use Rattle.client_plays.specs.Plays.{TaskPlays}
use Rattle.client_plays.specs.Scripts.{tasks}
use Rattle.client_plays.specs.Tools.{Files, means_of}
use Rattle.plugin_trait.specs.Steps.{steps_at}
use Rattle.client_threads.proofs.Shelves.{files-first, stay-first}
use Rattle.client_threads.proofs.ShelfFaults.{count-tasks}
use Rattle.client_threads.proofs.stage.Stage.do_tasks_first.Goals as goal

pub returns : goal.returns
returns g c = record {
  went =
      let house = c.args.house in
      subst (λ (f : Files). HouseWent (signs_of g.K.Keeper.tells g.K.Keeper.doubt g.K.Keeper.faults) c.do_tasks.result.1 0 (TaskPlays (basis_in house.house_log) (means_of f (steps_at (λ b. (goal.Plugin-dyn g (b.vtable, b.value)).steps b.value) c.args.self.now.plugins.now))) (tasks (basis_in house.house_log) (began (past house))) house c.do_tasks.result.0)
      (sym (files-first g.P.Shelf.files g.P.Shelf.faults c.args.shelves.now.items c.index_mut.result.now c.requires.shelf c.index_mut.ensures.value)) c.do_tasks.ensures.went;
  kept = stay-first g.P.Shelf.files g.P.Shelf.faults c.args.shelves.now.items c.index_mut.result.now c.do_tasks.new.shelf c.requires.shelf c.index_mut.ensures.value c.do_tasks.ensures.files c.do_tasks.ensures.counts;
  told =
      let w = c.do_tasks.ensures.went.went in
      count-tasks g.P.Shelf.files g.P.Shelf.faults w.moments (past c.args.house) (past c.do_tasks.result.0) w.did
      c.args.shelves.now.items c.index_mut.result.now c.do_tasks.new.shelf c.requires.shelf c.index_mut.ensures.value c.do_tasks.ensures.told;
}
