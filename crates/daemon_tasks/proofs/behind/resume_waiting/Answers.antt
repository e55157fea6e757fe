use Rattle.history_keeper.specs.Signs.{signs_of}
use Rattle.plugin_trait.specs.Steps.{steps_at}
use Rattle.std.proofs.Common.{map, refl, sym, ◌∙◌}
use Rattle.daemon_core.specs.Housed.{basis_in, past}
use Rattle.client_plays.specs.Moments.{mine}
use Rattle.client_plays.specs.Plays.{TaskPlays, ToResume}
use Rattle.client_plays.specs.Tools.{means_of}
use Rattle.client_plays.proofs.FaultLaws.{told-same}
use Rattle.daemon_tasks.proofs.Closing.{can-begin, its-name}
use Rattle.daemon_tasks.proofs.TaskLists.{none-left, went-none, went-off}
use Rattle.daemon_tasks.proofs.behind.resume_waiting.Goals as goal

pub returns-then-is_empty-clause-went : goal.returns-then-is_empty-clause-went
returns-then-is_empty-clause-went g c =
    let a = c.args.house.house_log in
    went-none (signs_of g.K.Keeper.tells g.K.Keeper.doubt g.K.Keeper.faults) (TaskPlays (basis_in a) (means_of (g.P.Shelf.files c.args.shelf.now) (steps_at (λ b. (goal.Plugin-dyn g (b.vtable, b.value)).steps b.value) c.args.plugins.now))) (map ToResume c.args.entries.now) c.args.house c.requires.idle
    (none-left c.args.entries.now (sym c.is_empty.ensures ∙ c.if-is_empty.true))

pub returns-then-is_empty-clause-told : goal.returns-then-is_empty-clause-told
returns-then-is_empty-clause-told g c = told-same (mine 0 (past c.args.house)) (mine 0 (past c.args.house)) (g.P.Shelf.faults c.args.shelf.now) refl

pub returns-then-is_off-clause-went : goal.returns-then-is_off-clause-went
returns-then-is_off-clause-went g c =
    let a = c.args.house.house_log in
    went-off (signs_of g.K.Keeper.tells g.K.Keeper.doubt g.K.Keeper.faults) (basis_in a) (means_of (g.P.Shelf.files c.args.shelf.now) (steps_at (λ b. (goal.Plugin-dyn g (b.vtable, b.value)).steps b.value) c.args.plugins.now)) (map ToResume c.args.entries.now) c.args.house c.requires.idle
    (sym c.is_off.ensures ∙ c.if-is_off.true)

pub returns-then-is_off-clause-told : goal.returns-then-is_off-clause-told
returns-then-is_off-clause-told g c = told-same (mine 0 (past c.args.house)) (mine 0 (past c.args.house)) (g.P.Shelf.faults c.args.shelf.now) refl

pub resume_named-requires-clause-name : goal.resume_named-requires-clause-name
resume_named-requires-clause-name g c = its-name (signs_of g.K.Keeper.tells g.K.Keeper.doubt g.K.Keeper.faults) c.args.house

pub resume_named-requires-clause-begins : goal.resume_named-requires-clause-begins
resume_named-requires-clause-begins g c =
    can-begin (signs_of g.K.Keeper.tells g.K.Keeper.doubt g.K.Keeper.faults) c.args.house c.known.ensures.house_log c.requires.booted (sym c.is_off.ensures ∙ c.if-is_off.false) c.requires.counted c.requires.idle c.requires.read
