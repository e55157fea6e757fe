use Rattle.std.proofs.Common.{◌≡◌, ◌≤◌, ◌∙◌, ap, refl, false, List, length, subst, sym, arith}
use Rattle.std.specs.Prelude.{All}
use Rattle.history_keeper.specs.Signs.{signs_of}
use Rattle.client_scripts.specs.declared.item.Item.{Item}
use Rattle.client_plays.specs.Endings.{IsScriptItem}
use Rattle.update_log.specs.Pasts.{past_of}
use Rattle.client_plays.specs.Has.{shelves_told, tools_of}
use Rattle.client_plays.specs.Shelves.{means_for}
use Rattle.client_plays.specs.Tools.{Files, means_of}
use Rattle.plugin_trait.specs.Steps.{steps_at}
use Rattle.client_plays.proofs.ShelfLaws.{files-stay}
use Rattle.client_plays.proofs.ToolLaws.{serves-all, serves-later, shelves-both, shelves-here}
use Rattle.client_threads.proofs.RunLaws.{BootMore, begun-counted, boot-either, plan-at, ran-stopped, run-more, run-none, run-read, same-means, scripts-all}
use Rattle.daemon_core.specs.Housed.{past}
use Rattle.client_plays.proofs.ShelfCounts.{shelves-count_here}
use Rattle.client_threads.proofs.ShelfFaults.{boot-counted, stop-counted}
use Rattle.client_threads.proofs.running.run_boots.Goals as goal

pub returns-in-Some-clause-ran : goal.returns-in-Some-clause-ran
returns-in-Some-clause-ran g c =
    ran-stopped (signs_of g.K.Keeper.tells g.K.Keeper.doubt g.K.Keeper.faults) c.in-Some.ending c.loop-number.wanting (means_for (steps_at (λ b. (goal.Plugin-dyn g (b.vtable, b.value)).steps b.value) c.args.plugins.now) (shelves_told g.P.Shelf.files g.P.Shelf.faults c.args.shelves.now.items)) c.args.plans.now c.args.scripts.now c.loop-number.number
    c.args.house c.loop-number.house c.start_boot.new.house c.loop-number-test.true c.loop-number.invariant.ran c.in-Some.ensures.0 c.in-Some.ensures.1

pub play_boot-played-requires-clause-proper : goal.play_boot-played-requires-clause-proper
play_boot-played-requires-clause-proper g c κs within =
    let P = λ (of_boot : List (List Item)). All (All IsScriptItem) of_boot in
    subst P (sym c.scripts_of-of_boot.ensures) (scripts-all P c.args.scripts.now c.loop-number.number c.requires.proper (λ k d h. absurd (omega arith)))

pub play_boot-played-requires-clause-counted : goal.play_boot-played-requires-clause-counted
play_boot-played-requires-clause-counted g c κs within =
    begun-counted (signs_of g.K.Keeper.tells g.K.Keeper.doubt g.K.Keeper.faults) c.args.house c.loop-number.house c.start_boot.new.house (ap past_of c.requires.new) c.loop-number.invariant.ran.counted c.in-None.ensures.counted c.in-None.ensures.counts

pub play_boot-played-requires-clause-few : goal.play_boot-played-requires-clause-few
play_boot-played-requires-clause-few g c κs within =
    let P = λ (of_boot : List (List Item)). length of_boot ≤ 16 in
    subst P (sym c.scripts_of-of_boot.ensures) (scripts-all P c.args.scripts.now c.loop-number.number c.requires.clients (omega arith))

pub play_boot-played-requires-clause-serves : goal.play_boot-played-requires-clause-serves
play_boot-played-requires-clause-serves g c κs within =
    let tools = tools_of g.P.Shelf.files g.P.Shelf.faults (length c.args.plugins.now) c.args.shelves.now.items in
    let P = λ (of_boot : List (List Item)). length of_boot ≤ length (shelves_told g.P.Shelf.files g.P.Shelf.faults c.args.shelves.now.items) in
    let many : P c.scripts_of-of_boot.result.now = subst P (sym c.scripts_of-of_boot.ensures) (scripts-all P c.args.scripts.now c.loop-number.number c.requires.shelves (omega arith)) in
    let facts : c.start_boot.new.house.house_log.facts ≡ c.args.house.house_log.facts = c.in-None.ensures.facts ∙ c.loop-number.invariant.ran.facts in
    serves-later tools (tools_of g.P.Shelf.files g.P.Shelf.faults (length c.args.plugins.now) c.loop-number.shelves.items) c.args.house.house_log.facts c.start_boot.new.house.house_log.facts (length c.scripts_of-of_boot.result.now)
    (serves-all tools c.args.house.house_log.facts (length c.scripts_of-of_boot.result.now) c.requires.serves many) (record { plugins = refl; shelves = c.loop-number.invariant.kept }) facts

pub loop-number-init : goal.loop-number-init
loop-number-init g c = record {
  ran = run-none (signs_of g.K.Keeper.tells g.K.Keeper.doubt g.K.Keeper.faults) false (means_for (steps_at (λ b. (goal.Plugin-dyn g (b.vtable, b.value)).steps b.value) c.args.plugins.now) (shelves_told g.P.Shelf.files g.P.Shelf.faults c.args.shelves.now.items)) c.args.plans.now c.args.scripts.now c.args.house (ap past_of c.requires.new) c.requires.unread c.requires.blank;
  read = λ _. c.known.ensures.house_log.unopened c.requires.unread;
  kept = shelves-here (shelves_told g.P.Shelf.files g.P.Shelf.faults c.args.shelves.now.items);
  told = shelves-count_here (past c.args.house) (shelves_told g.P.Shelf.files g.P.Shelf.faults c.args.shelves.now.items);
}

pub loop-number-preserved : goal.loop-number-preserved
loop-number-preserved g c = record {
  ran = run-more (signs_of g.K.Keeper.tells g.K.Keeper.doubt g.K.Keeper.faults) c.loop-number.wanting c.either-wanting.result (means_for (steps_at (λ b. (goal.Plugin-dyn g (b.vtable, b.value)).steps b.value) c.args.plugins.now) (shelves_told g.P.Shelf.files g.P.Shelf.faults c.args.shelves.now.items)) c.args.plans.now c.args.scripts.now c.loop-number.number
      c.index-plans-number.result c.args.house c.loop-number.house c.start_boot.new.house c.play_boot-played.result.0
      (plan-at c.args.plans.now c.loop-number.number c.index-plans-number.result c.index-plans-number.is c.loop-number-test.true)
      c.loop-number.invariant.ran c.in-None.ensures
      (subst (λ (of_boot : List (List Item)). BootMore (signs_of g.K.Keeper.tells g.K.Keeper.doubt g.K.Keeper.faults) c.either-wanting.result c.loop-number.wanting (means_for (steps_at (λ b. (goal.Plugin-dyn g (b.vtable, b.value)).steps b.value) c.args.plugins.now) (shelves_told g.P.Shelf.files g.P.Shelf.faults c.args.shelves.now.items)) of_boot c.start_boot.new.house c.play_boot-played.result.0)
      c.scripts_of-of_boot.ensures
      (same-means (signs_of g.K.Keeper.tells g.K.Keeper.doubt g.K.Keeper.faults) c.either-wanting.result c.loop-number.wanting (means_for (steps_at (λ b. (goal.Plugin-dyn g (b.vtable, b.value)).steps b.value) c.args.plugins.now) (shelves_told g.P.Shelf.files g.P.Shelf.faults c.loop-number.shelves.items)) (means_for (steps_at (λ b. (goal.Plugin-dyn g (b.vtable, b.value)).steps b.value) c.args.plugins.now) (shelves_told g.P.Shelf.files g.P.Shelf.faults c.args.shelves.now.items)) c.scripts_of-of_boot.result.now
      c.start_boot.new.house c.play_boot-played.result.0
      (λ client. ap (λ (f : Files). means_of f (steps_at (λ b. (goal.Plugin-dyn g (b.vtable, b.value)).steps b.value) c.args.plugins.now)) (files-stay (shelves_told g.P.Shelf.files g.P.Shelf.faults c.args.shelves.now.items) (shelves_told g.P.Shelf.files g.P.Shelf.faults c.loop-number.shelves.items) c.loop-number.invariant.kept client)) (boot-either (signs_of g.K.Keeper.tells g.K.Keeper.doubt g.K.Keeper.faults) c.either-wanting.result c.loop-number.wanting c.play_boot-played.result.1 (means_for (steps_at (λ b. (goal.Plugin-dyn g (b.vtable, b.value)).steps b.value) c.args.plugins.now) (shelves_told g.P.Shelf.files g.P.Shelf.faults c.loop-number.shelves.items)) c.scripts_of-of_boot.result.now c.start_boot.new.house c.play_boot-played.result.0 c.either-wanting.ensures c.play_boot-played.ensures.played)))
      c.play_boot-played.ensures.unread;
  read = run-read (signs_of g.K.Keeper.tells g.K.Keeper.doubt g.K.Keeper.faults) c.either-wanting.result c.loop-number.wanting (means_for (steps_at (λ b. (goal.Plugin-dyn g (b.vtable, b.value)).steps b.value) c.args.plugins.now) (shelves_told g.P.Shelf.files g.P.Shelf.faults c.loop-number.shelves.items)) c.scripts_of-of_boot.result.now
      c.index-plans-number.result c.loop-number.house c.start_boot.new.house c.play_boot-played.result.0 c.in-None.ensures (boot-either (signs_of g.K.Keeper.tells g.K.Keeper.doubt g.K.Keeper.faults) c.either-wanting.result c.loop-number.wanting c.play_boot-played.result.1 (means_for (steps_at (λ b. (goal.Plugin-dyn g (b.vtable, b.value)).steps b.value) c.args.plugins.now) (shelves_told g.P.Shelf.files g.P.Shelf.faults c.loop-number.shelves.items)) c.scripts_of-of_boot.result.now c.start_boot.new.house c.play_boot-played.result.0 c.either-wanting.ensures c.play_boot-played.ensures.played);
  kept = shelves-both (shelves_told g.P.Shelf.files g.P.Shelf.faults c.args.shelves.now.items) (shelves_told g.P.Shelf.files g.P.Shelf.faults c.loop-number.shelves.items) (shelves_told g.P.Shelf.files g.P.Shelf.faults c.play_boot-played.new.shelves.items)
      c.loop-number.invariant.kept c.play_boot-played.ensures.kept;
  told = boot-counted (signs_of g.K.Keeper.tells g.K.Keeper.doubt g.K.Keeper.faults) c.index-plans-number.result c.args.house c.loop-number.house c.start_boot.new.house c.play_boot-played.result.0
      (shelves_told g.P.Shelf.files g.P.Shelf.faults c.args.shelves.now.items) (shelves_told g.P.Shelf.files g.P.Shelf.faults c.loop-number.shelves.items) (shelves_told g.P.Shelf.files g.P.Shelf.faults c.play_boot-played.new.shelves.items)
      c.loop-number.invariant.kept c.play_boot-played.ensures.kept c.in-None.ensures c.loop-number.invariant.told c.play_boot-played.ensures.told;
}

pub returns-in-Some-clause-told : goal.returns-in-Some-clause-told
returns-in-Some-clause-told g c =
    stop-counted (signs_of g.K.Keeper.tells g.K.Keeper.doubt g.K.Keeper.faults) c.args.house c.loop-number.house c.start_boot.new.house
    (shelves_told g.P.Shelf.files g.P.Shelf.faults c.args.shelves.now.items) (shelves_told g.P.Shelf.files g.P.Shelf.faults c.loop-number.shelves.items)
    c.loop-number.invariant.kept c.in-Some.ensures.0 c.loop-number.invariant.told

pub returns-clause-ran : goal.returns-clause-ran
returns-clause-ran g c = record {
  count = c.loop-number.number;
  ran = c.loop-number.invariant.ran;
  ended = (let e = c.loop-number.auto.number-end in let t = c.loop-number-test.false in omega (arith, e, t), c.loop-number.invariant.read);
}
