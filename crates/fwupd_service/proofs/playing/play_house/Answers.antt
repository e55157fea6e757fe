use Rattle.history_keeper.specs.Signs.{signs_of}
use Rattle.client_plays.specs.Has.{shelves_told}
use Rattle.fwupd_service.proofs.HouseLaws.{was-played}
use Rattle.fwupd_service.proofs.PlannedBoards.{boards-planned}
use Rattle.fwupd_service.proofs.ShelfLaws.{shelves-stand}
use Rattle.fwupd_service.proofs.playing.play_house.Goals as goal

pub returns-clause-played : goal.returns-clause-played
returns-clause-played g c =
    let e = c.into_parts-facts.ensures in
    let ran = c.run_on_threads-house in
    rw (e.opening, e.log, e.keeper) (was-played (signs_of g.K.Keeper.tells g.K.Keeper.doubt g.K.Keeper.faults) _ ran.result.1 c.args.plans.now c.args.scripts.now c.args.house ran.result.0
    ran.ensures.ran c.known-2.ensures.house_log c.known-2.ensures.house c.legal_once.ensures c.taken_once.ensures c.history_stays.ensures c.requires.new c.into_parts-facts.result.boards e.boards)

pub returns-clause-stand : goal.returns-clause-stand
returns-clause-stand g c =
    let e = c.into_parts-facts.ensures in
    let ran = c.run_on_threads-house in
    rw e.log (shelves-stand c.args.house ran.result.0 (shelves_told g.P.Shelf.files g.P.Shelf.faults c.args.shelves.items) (shelves_told g.P.Shelf.files g.P.Shelf.faults ran.result.2.items) c.requires.new ran.ensures.kept ran.ensures.told)

pub returns-clause-plans : goal.returns-clause-plans
returns-clause-plans g c =
    let ran = c.run_on_threads-house in
    boards-planned (signs_of g.K.Keeper.tells g.K.Keeper.doubt g.K.Keeper.faults) c.args.house ran.result.0 c.into_parts-facts.result.boards c.known.ensures.house ran.ensures.ran.ran.facts ran.ensures.ran.ran.board_plans c.into_parts-facts.ensures.boards
