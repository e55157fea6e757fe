use Rattle.plugin_trait.specs.Steps.{steps_at}
use Rattle.std.proofs.Common.{◌≤◌, List, true, length, map, refl, subst, sym}
use Rattle.history_keeper.specs.declared.row.Row.{Row}
use Rattle.history_keeper.specs.Signs.{signs_of}
use Rattle.update_log.specs.declared.facts.Facts.{Facts}
use Rattle.daemon_core.specs.Housed.{basis_in, Housed, past}
use Rattle.daemon_core.proofs.PartsKept.{house-home}
use Rattle.client_plays.specs.Endings.{HouseWent}
use Rattle.client_plays.specs.Faults.{FaultsTold}
use Rattle.client_plays.specs.Moments.{mine}
use Rattle.client_plays.specs.Plays.{TaskPlays, ToResume}
use Rattle.client_plays.specs.Tools.{means_of}
use Rattle.client_plays.proofs.FaultLaws.{told-same}
use Rattle.daemon_tasks.specs.Waits.{AllWait}
use Rattle.daemon_tasks.proofs.Closing.{begins-named, nothing-out, rows-start, told-so, went-so}
use Rattle.daemon_tasks.proofs.TaskLists.{went-nothing}
use Rattle.daemon_tasks.proofs.behind.resume_named.Goals as goal

pub begin-requires-clause-name : goal.begin-requires-clause-name
begin-requires-clause-name g c = begins-named (signs_of g.K.Keeper.tells g.K.Keeper.doubt g.K.Keeper.faults) g.N.Naming.name c.args.house c.requires.name c.requires.begins

pub begin-requires-clause-start : goal.begin-requires-clause-start
begin-requires-clause-start g c = sym c.requires.name.start_is

pub begin-requires-clause-nothing : goal.begin-requires-clause-nothing
begin-requires-clause-nothing g c = nothing-out (signs_of g.K.Keeper.tells g.K.Keeper.doubt g.K.Keeper.faults) c.args.house c.known.ensures.house_log c.requires.begins.idle

pub resume_behind-requires-clause-waits : goal.resume_behind-requires-clause-waits
resume_behind-requires-clause-waits g c =
    subst (λ (all : List Row). AllWait all c.args.entries.now) (sym (rows-start (signs_of g.K.Keeper.tells g.K.Keeper.doubt g.K.Keeper.faults) g.N.Naming.name c.args.house c.requires.name c.requires.begins c.known.ensures.house_log)) c.requires.waits

pub resume_behind-requires-clause-served : goal.resume_behind-requires-clause-served
resume_behind-requires-clause-served g c = subst (λ (f : Facts). length f.vetoes ≤ length c.args.plugins.now) (sym c.requires.name.facts_are) c.requires.served

pub returns-in-Ok-clause-went : goal.returns-in-Ok-clause-went
returns-in-Ok-clause-went g c =
    let means = means_of (g.P.Shelf.files c.args.shelf.now) (steps_at (λ b. (goal.Plugin-dyn g (b.vtable, b.value)).steps b.value) c.args.plugins.now) in
    went-so (signs_of g.K.Keeper.tells g.K.Keeper.doubt g.K.Keeper.faults) g.N.Naming.name c.args.house c.requires.name c.requires.begins c.known.ensures.house_log c.resume_behind.result.0 c.resume_behind.ensures.house_log c.resume_behind.ensures.name c.resume_behind.result.1
    (λ basis. TaskPlays basis means) (map ToResume c.args.entries.now) (house-home (signs_of g.K.Keeper.tells g.K.Keeper.doubt g.K.Keeper.faults) c.args.house c.known.ensures.house c.requires.begins.idle.no_live) c.resume_behind.ensures.nothing c.resume_behind.ensures.went

pub returns-in-Ok-clause-told : goal.returns-in-Ok-clause-told
returns-in-Ok-clause-told g c =
    told-so (signs_of g.K.Keeper.tells g.K.Keeper.doubt g.K.Keeper.faults) g.N.Naming.name c.args.house c.requires.name c.requires.begins c.known.ensures.house_log c.resume_behind.result.0 c.resume_behind.ensures.house_log c.resume_behind.ensures.name
    (g.P.Shelf.faults c.args.shelf.now) (g.P.Shelf.faults c.resume_behind.new.shelf) c.resume_behind.ensures.told

pub returns-in-Err-clause-went : goal.returns-in-Err-clause-went
returns-in-Err-clause-went g c =
    let means = means_of (g.P.Shelf.files c.args.shelf.now) (steps_at (λ b. (goal.Plugin-dyn g (b.vtable, b.value)).steps b.value) c.args.plugins.now) in
    let a = c.args.house.house_log in
    subst (λ (h : Housed g.row.K.Denot). HouseWent (signs_of g.K.Keeper.tells g.K.Keeper.doubt g.K.Keeper.faults) true 0 (TaskPlays (basis_in a) means) (map ToResume c.args.entries.now) c.args.house h) (sym c.in-Err.ensures.refused)
    (went-nothing (signs_of g.K.Keeper.tells g.K.Keeper.doubt g.K.Keeper.faults) (basis_in a) means (map ToResume c.args.entries.now) c.args.house c.requires.begins.idle)

pub returns-in-Err-clause-told : goal.returns-in-Err-clause-told
returns-in-Err-clause-told g c =
    let x = g.P.Shelf.faults c.args.shelf.now in
    subst (λ (h : Housed g.row.K.Denot). FaultsTold (mine 0 (past c.args.house)) (mine 0 (past h)) x x) (sym c.in-Err.ensures.refused) (told-same (mine 0 (past c.args.house)) (mine 0 (past c.args.house)) x refl)
