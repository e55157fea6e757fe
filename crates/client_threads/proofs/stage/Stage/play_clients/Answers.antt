use Rattle.std.proofs.Common.{false, sym, ◌∙◌}
use Rattle.history_keeper.specs.Signs.{signs_of}
use Rattle.client_plays.specs.Has.{shelves_told}
use Rattle.client_plays.specs.Shelves.{means_for}
use Rattle.plugin_trait.specs.Steps.{steps_at}
use Rattle.client_plays.proofs.ToolLaws.{shelves-here}
use Rattle.client_threads.proofs.Plays.{empty-list}
use Rattle.daemon_tasks.proofs.Closing.{can-begin, its-name}
use Rattle.client_threads.proofs.Rest.{clients-off, no-clients}
use Rattle.daemon_core.specs.Housed.{past}
use Rattle.client_plays.proofs.ShelfCounts.{shelves-count_here}
use Rattle.client_threads.proofs.stage.Stage.play_clients.Goals as goal

pub returns-then-is_empty-clause-played : goal.returns-then-is_empty-clause-played
returns-then-is_empty-clause-played g c =
    no-clients (signs_of g.K.Keeper.tells g.K.Keeper.doubt g.K.Keeper.faults) (means_for (steps_at (λ b. (goal.Plugin-dyn g (b.vtable, b.value)).steps b.value) c.args.self.now.plugins.now) (shelves_told g.P.Shelf.files g.P.Shelf.faults c.args.shelves.now.items)) c.args.self.now.of_boot.now c.args.house c.requires.idle c.requires.none false
    (empty-list c.args.self.now.of_boot.now (sym c.is_empty.ensures ∙ c.if-is_empty.true))

pub returns-then-is_empty-clause-kept : goal.returns-then-is_empty-clause-kept
returns-then-is_empty-clause-kept g c = shelves-here (shelves_told g.P.Shelf.files g.P.Shelf.faults c.args.shelves.now.items)

pub returns-then-is_off : goal.returns-then-is_off
returns-then-is_off g c = record {
  played = clients-off (signs_of g.K.Keeper.tells g.K.Keeper.doubt g.K.Keeper.faults) (means_for (steps_at (λ b. (goal.Plugin-dyn g (b.vtable, b.value)).steps b.value) c.args.self.now.plugins.now) (shelves_told g.P.Shelf.files g.P.Shelf.faults c.args.shelves.now.items)) c.args.self.now.of_boot.now c.args.house c.requires.idle c.requires.none false (sym c.is_off.ensures ∙ c.if-is_off.true);
  kept = shelves-here (shelves_told g.P.Shelf.files g.P.Shelf.faults c.args.shelves.now.items);
  told = shelves-count_here (past c.args.house) (shelves_told g.P.Shelf.files g.P.Shelf.faults c.args.shelves.now.items);
}

pub play_named-requires-clause-name : goal.play_named-requires-clause-name
play_named-requires-clause-name g c κs within = its-name (signs_of g.K.Keeper.tells g.K.Keeper.doubt g.K.Keeper.faults) c.args.house

pub play_named-requires-clause-begins : goal.play_named-requires-clause-begins
play_named-requires-clause-begins g c κs within =
    can-begin (signs_of g.K.Keeper.tells g.K.Keeper.doubt g.K.Keeper.faults) c.args.house c.known.ensures.house_log c.requires.booted (sym c.is_off.ensures ∙ c.if-is_off.false) c.requires.counted c.requires.idle c.requires.read

pub returns-then-is_empty-clause-told : goal.returns-then-is_empty-clause-told
returns-then-is_empty-clause-told g c = shelves-count_here (past c.args.house) (shelves_told g.P.Shelf.files g.P.Shelf.faults c.args.shelves.now.items)
