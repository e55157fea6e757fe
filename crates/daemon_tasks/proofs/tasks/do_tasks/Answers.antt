use Rattle.history_keeper.specs.Signs.{signs_of}
use Rattle.plugin_trait.specs.Steps.{steps_at}
use Rattle.client_plays.specs.Tools.{means_of}
use Rattle.daemon_core.specs.Housed.{basis_in, past}
use Rattle.client_plays.specs.Moments.{began, mine}
use Rattle.client_plays.specs.Scripts.{tasks}
use Rattle.daemon_tasks.proofs.TaskLists.{went-nothing}
use Rattle.std.proofs.Common.{refl}
use Rattle.client_plays.proofs.FaultLaws.{told-same}
use Rattle.daemon_tasks.proofs.tasks.do_tasks.Goals as goal

pub returns-in_default-clause-went : goal.returns-in_default-clause-went
returns-in_default-clause-went g c =
    went-nothing (signs_of g.K.Keeper.tells g.K.Keeper.doubt g.K.Keeper.faults) (basis_in c.args.house.house_log) (means_of (g.P.Shelf.files c.args.shelf.now) (steps_at (λ b. (goal.Plugin-dyn g (b.vtable, b.value)).steps b.value) c.args.plugins.now)) (tasks (basis_in c.args.house.house_log) (began (past c.args.house))) c.args.house c.requires.idle

pub returns-in_default-pending-clause-went : goal.returns-in_default-pending-clause-went
returns-in_default-pending-clause-went g c =
    went-nothing (signs_of g.K.Keeper.tells g.K.Keeper.doubt g.K.Keeper.faults) (basis_in c.args.house.house_log) (means_of (g.P.Shelf.files c.args.shelf.now) (steps_at (λ b. (goal.Plugin-dyn g (b.vtable, b.value)).steps b.value) c.args.plugins.now)) (tasks (basis_in c.args.house.house_log) (began (past c.args.house))) c.args.house c.requires.idle

pub returns-in_default-clause-told : goal.returns-in_default-clause-told
returns-in_default-clause-told g c = told-same (mine 0 (past c.args.house)) (mine 0 (past c.args.house)) (g.P.Shelf.faults c.args.shelf.now) refl

pub returns-in_default-pending-clause-told : goal.returns-in_default-pending-clause-told
returns-in_default-pending-clause-told g c = told-same (mine 0 (past c.args.house)) (mine 0 (past c.args.house)) (g.P.Shelf.faults c.args.shelf.now) refl
