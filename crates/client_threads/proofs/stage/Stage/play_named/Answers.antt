use Rattle.std.proofs.Common.{true, length, ◌≤◌, subst, sym}
use Rattle.history_keeper.specs.Signs.{signs_of}
use Rattle.update_log.specs.declared.facts.Facts.{Facts}
use Rattle.daemon_core.specs.Housed.{Housed, past}
use Rattle.daemon_core.proofs.PartsKept.{house-home}
use Rattle.client_plays.specs.Faults.{ShelvesCount}
use Rattle.client_plays.specs.Has.{shelves_told}
use Rattle.client_plays.specs.Shelves.{means_for}
use Rattle.plugin_trait.specs.Steps.{steps_at}
use Rattle.client_plays.proofs.ToolLaws.{shelves-here}
use Rattle.client_threads.specs.Clients.{ClientsPlayed}
use Rattle.daemon_tasks.proofs.Closing.{begins-named, nothing-out}
use Rattle.client_threads.proofs.Rest.{clients-left, clients-played, shelves-counted}
use Rattle.client_plays.proofs.ShelfCounts.{shelves-count_here}
use Rattle.client_threads.proofs.stage.Stage.play_named.Goals as goal

pub returns-in_default : goal.returns-in_default
returns-in_default g c = record {
  played = clients-left (signs_of g.K.Keeper.tells g.K.Keeper.doubt g.K.Keeper.faults) (means_for (steps_at (λ b. (goal.Plugin-dyn g (b.vtable, b.value)).steps b.value) c.args.self.now.plugins.now) (shelves_told g.P.Shelf.files g.P.Shelf.faults c.args.shelves.now.items)) c.args.self.now.of_boot.now c.args.house c.requires.begins.idle c.requires.none;
  kept = shelves-here (shelves_told g.P.Shelf.files g.P.Shelf.faults c.args.shelves.now.items);
  told = shelves-count_here (past c.args.house) (shelves_told g.P.Shelf.files g.P.Shelf.faults c.args.shelves.now.items);
}

pub begin-requires-clause-name : goal.begin-requires-clause-name
begin-requires-clause-name g c = begins-named (signs_of g.K.Keeper.tells g.K.Keeper.doubt g.K.Keeper.faults) g.N.Naming.name c.args.house c.requires.name c.requires.begins

pub begin-requires-clause-start : goal.begin-requires-clause-start
begin-requires-clause-start g c = sym c.requires.name.start_is

pub begin-requires-clause-nothing : goal.begin-requires-clause-nothing
begin-requires-clause-nothing g c = nothing-out (signs_of g.K.Keeper.tells g.K.Keeper.doubt g.K.Keeper.faults) c.args.house c.known.ensures.house_log c.requires.begins.idle

pub play_behind-requires-clause-served : goal.play_behind-requires-clause-served
play_behind-requires-clause-served g c κs within = subst (λ (f : Facts). length f.vetoes ≤ length c.args.self.now.plugins.now) (sym c.requires.name.facts_are) c.requires.served

pub returns-in-Ok-begin-clause-played : goal.returns-in-Ok-begin-clause-played
returns-in-Ok-begin-clause-played g c =
    clients-played (signs_of g.K.Keeper.tells g.K.Keeper.doubt g.K.Keeper.faults) g.N.Naming.name c.args.house c.play_behind.result.0 c.requires.name c.requires.begins c.known.ensures.house_log c.play_behind.ensures.house_log c.play_behind.ensures.name
    (house-home (signs_of g.K.Keeper.tells g.K.Keeper.doubt g.K.Keeper.faults) c.args.house c.known.ensures.house c.requires.begins.idle.no_live) c.play_behind.result.1 (means_for (steps_at (λ b. (goal.Plugin-dyn g (b.vtable, b.value)).steps b.value) c.args.self.now.plugins.now) (shelves_told g.P.Shelf.files g.P.Shelf.faults c.args.shelves.now.items)) c.args.self.now.of_boot.now c.play_behind.ensures.start c.play_behind.ensures.log c.play_behind.ensures.nothing c.requires.none c.play_behind.ensures.played

pub returns-in-Err-clause-played : goal.returns-in-Err-clause-played
returns-in-Err-clause-played g c =
    let told = means_for (steps_at (λ b. (goal.Plugin-dyn g (b.vtable, b.value)).steps b.value) c.args.self.now.plugins.now) (shelves_told g.P.Shelf.files g.P.Shelf.faults c.args.shelves.now.items) in
    subst (λ (h : Housed g.row.K.Denot). ClientsPlayed (signs_of g.K.Keeper.tells g.K.Keeper.doubt g.K.Keeper.faults) true told c.args.self.now.of_boot.now c.args.house h) (sym c.in-Err.ensures.refused)
    (clients-left (signs_of g.K.Keeper.tells g.K.Keeper.doubt g.K.Keeper.faults) told c.args.self.now.of_boot.now c.args.house c.requires.begins.idle c.requires.none)

pub returns-in-Err-clause-kept : goal.returns-in-Err-clause-kept
returns-in-Err-clause-kept g c = shelves-here (shelves_told g.P.Shelf.files g.P.Shelf.faults c.args.shelves.now.items)

pub returns-in-Ok-begin-clause-told : goal.returns-in-Ok-begin-clause-told
returns-in-Ok-begin-clause-told g c =
    shelves-counted (signs_of g.K.Keeper.tells g.K.Keeper.doubt g.K.Keeper.faults) g.N.Naming.name c.args.house c.play_behind.result.0 c.requires.name c.requires.begins c.known.ensures.house_log c.play_behind.ensures.house_log c.play_behind.ensures.name
    (shelves_told g.P.Shelf.files g.P.Shelf.faults c.args.shelves.now.items) (shelves_told g.P.Shelf.files g.P.Shelf.faults c.play_behind.new.shelves.items) c.play_behind.ensures.told

pub returns-in-Err-clause-told : goal.returns-in-Err-clause-told
returns-in-Err-clause-told g c =
    let shelves = shelves_told g.P.Shelf.files g.P.Shelf.faults c.args.shelves.now.items in
    subst (λ (h : Housed g.row.K.Denot). ShelvesCount (past c.args.house) (past h) shelves shelves) (sym c.in-Err.ensures.refused) (shelves-count_here (past c.args.house) shelves)
