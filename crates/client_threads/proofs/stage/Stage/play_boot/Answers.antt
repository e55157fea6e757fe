use Rattle.std.proofs.Common.{Bool, length, ap, sym, subst, refl, ◌∙◌}
use Rattle.history_keeper.specs.Signs.{signs_of}
use Rattle.client_plays.specs.Endings.{HouseBootPlayed}
use Rattle.client_plays.specs.Has.{shelves_told}
use Rattle.client_plays.specs.Shelves.{means_for}
use Rattle.client_plays.specs.Tools.{Files, means_of}
use Rattle.plugin_trait.specs.Steps.{steps_at}
use Rattle.client_plays.proofs.ShelfLaws.{files-stay}
use Rattle.client_plays.proofs.ToolLaws.{shelves-both, shelves-here}
use Rattle.client_threads.proofs.Boots.{boot-off, boot-played, no-clients_yet, still-booted, still-counted, still-read}
use Rattle.daemon_tasks.proofs.Pasts.{on-unread}
use Rattle.client_threads.proofs.Shelves.{enough-stay}
use Rattle.daemon_core.specs.Housed.{campaign_in, past}
use Rattle.client_plays.proofs.ShelfCounts.{shelves-count_both, shelves-count_here}
use Rattle.client_threads.proofs.stage.Stage.play_boot.Goals as goal

pub returns-then-is_off-clause-played : goal.returns-then-is_off-clause-played
returns-then-is_off-clause-played g c =
    boot-off (signs_of g.K.Keeper.tells g.K.Keeper.doubt g.K.Keeper.faults) (means_for (steps_at (λ b. (goal.Plugin-dyn g (b.vtable, b.value)).steps b.value) c.args.self.now.plugins.now) (shelves_told g.P.Shelf.files g.P.Shelf.faults c.args.shelves.now.items)) c.args.self.now.of_boot.now c.args.house c.requires.idle c.requires.fresh (sym c.is_off-is_off.ensures ∙ c.if-is_off.true)

pub returns-then-is_off-clause-kept : goal.returns-then-is_off-clause-kept
returns-then-is_off-clause-kept g c = shelves-here (shelves_told g.P.Shelf.files g.P.Shelf.faults c.args.shelves.now.items)

pub returns-then-is_off-clause-told : goal.returns-then-is_off-clause-told
returns-then-is_off-clause-told g c = shelves-count_here (past c.args.house) (shelves_told g.P.Shelf.files g.P.Shelf.faults c.args.shelves.now.items)

pub returns : goal.returns
returns g c = record {
  unread =
      λ u.
      absurd (on-unread c.args.house.house_log.loaded (past c.args.house) c.known.ensures.house_log.unloaded c.requires.booted (sym c.is_off-is_off.ensures ∙ c.if-is_off.false) u);
  played =
      let told = means_for (steps_at (λ b. (goal.Plugin-dyn g (b.vtable, b.value)).steps b.value) c.args.self.now.plugins.now) (shelves_told g.P.Shelf.files g.P.Shelf.faults c.args.shelves.now.items) in
      let then = means_for (steps_at (λ b. (goal.Plugin-dyn g (b.vtable, b.value)).steps b.value) c.args.self.now.plugins.now) (shelves_told g.P.Shelf.files g.P.Shelf.faults c.do_tasks_first-house.new.shelves.items) in
      subst (λ (w : Bool). HouseBootPlayed (signs_of g.K.Keeper.tells g.K.Keeper.doubt g.K.Keeper.faults) w told c.args.self.now.of_boot.now c.args.house c.play_clients-house.result.0) (sym c.either.ensures)
      (boot-played (signs_of g.K.Keeper.tells g.K.Keeper.doubt g.K.Keeper.faults) c.do_tasks_first-house.result.1 (told 0) c.args.house c.do_tasks_first-house.result.0 c.do_tasks_first-house.ensures.went c.play_clients-house.result.1 told then c.args.self.now.of_boot.now c.play_clients-house.result.0 c.requires.fresh refl
      (λ client. ap (λ (f : Files). means_of f (steps_at (λ b. (goal.Plugin-dyn g (b.vtable, b.value)).steps b.value) c.args.self.now.plugins.now)) (files-stay (shelves_told g.P.Shelf.files g.P.Shelf.faults c.args.shelves.now.items) (shelves_told g.P.Shelf.files g.P.Shelf.faults c.do_tasks_first-house.new.shelves.items) c.do_tasks_first-house.ensures.kept client))
      c.play_clients-house.ensures.played (campaign_in c.play_clients-house.result.0.house_log c.known-2.ensures.house_log.legal.0) c.known-2.ensures.house_log.legal.1);
  kept =
      shelves-both (shelves_told g.P.Shelf.files g.P.Shelf.faults c.args.shelves.now.items) (shelves_told g.P.Shelf.files g.P.Shelf.faults c.do_tasks_first-house.new.shelves.items) (shelves_told g.P.Shelf.files g.P.Shelf.faults c.play_clients-house.new.shelves.items)
      c.do_tasks_first-house.ensures.kept c.play_clients-house.ensures.kept;
  told =
      shelves-count_both (past c.args.house) (past c.do_tasks_first-house.result.0) (past c.play_clients-house.result.0)
      (shelves_told g.P.Shelf.files g.P.Shelf.faults c.args.shelves.now.items) (shelves_told g.P.Shelf.files g.P.Shelf.faults c.do_tasks_first-house.new.shelves.items) (shelves_told g.P.Shelf.files g.P.Shelf.faults c.play_clients-house.new.shelves.items)
      c.do_tasks_first-house.ensures.kept c.play_clients-house.ensures.kept c.do_tasks_first-house.ensures.told c.play_clients-house.ensures.told;
}

pub play_clients-house-requires-clause-booted : goal.play_clients-house-requires-clause-booted
play_clients-house-requires-clause-booted g c κs within =
    let told = means_for (steps_at (λ b. (goal.Plugin-dyn g (b.vtable, b.value)).steps b.value) c.args.self.now.plugins.now) (shelves_told g.P.Shelf.files g.P.Shelf.faults c.args.shelves.now.items) in
    still-booted (signs_of g.K.Keeper.tells g.K.Keeper.doubt g.K.Keeper.faults) c.do_tasks_first-house.result.1 (told 0) c.args.house c.do_tasks_first-house.result.0 c.do_tasks_first-house.ensures.went c.requires.booted

pub play_clients-house-requires-clause-counted : goal.play_clients-house-requires-clause-counted
play_clients-house-requires-clause-counted g c κs within =
    let told = means_for (steps_at (λ b. (goal.Plugin-dyn g (b.vtable, b.value)).steps b.value) c.args.self.now.plugins.now) (shelves_told g.P.Shelf.files g.P.Shelf.faults c.args.shelves.now.items) in
    still-counted (signs_of g.K.Keeper.tells g.K.Keeper.doubt g.K.Keeper.faults) c.do_tasks_first-house.result.1 (told 0) c.args.house c.do_tasks_first-house.result.0 c.do_tasks_first-house.ensures.went c.requires.counted

pub play_clients-house-requires-clause-read : goal.play_clients-house-requires-clause-read
play_clients-house-requires-clause-read g c κs within =
    let told = means_for (steps_at (λ b. (goal.Plugin-dyn g (b.vtable, b.value)).steps b.value) c.args.self.now.plugins.now) (shelves_told g.P.Shelf.files g.P.Shelf.faults c.args.shelves.now.items) in
    still-read (signs_of g.K.Keeper.tells g.K.Keeper.doubt g.K.Keeper.faults) c.do_tasks_first-house.result.1 (told 0) c.args.house c.do_tasks_first-house.result.0 c.do_tasks_first-house.ensures.went c.requires.read

pub play_clients-house-requires-clause-none : goal.play_clients-house-requires-clause-none
play_clients-house-requires-clause-none g c κs within =
    let told = means_for (steps_at (λ b. (goal.Plugin-dyn g (b.vtable, b.value)).steps b.value) c.args.self.now.plugins.now) (shelves_told g.P.Shelf.files g.P.Shelf.faults c.args.shelves.now.items) in
    no-clients_yet (signs_of g.K.Keeper.tells g.K.Keeper.doubt g.K.Keeper.faults) c.do_tasks_first-house.result.1 (told 0) c.args.house c.do_tasks_first-house.result.0 c.do_tasks_first-house.ensures.went c.requires.fresh

pub play_clients-house-requires-clause-shelves : goal.play_clients-house-requires-clause-shelves
play_clients-house-requires-clause-shelves g c κs within =
    enough-stay g.P.Shelf.files g.P.Shelf.faults c.args.shelves.now.items c.do_tasks_first-house.new.shelves.items (length c.args.self.now.of_boot.now) c.requires.serves.shelf c.do_tasks_first-house.ensures.kept
