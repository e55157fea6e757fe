use Rattle.std.proofs.Common.{ap, ◌∙◌}
use Rattle.std.proofs.lemmas.List.{length-map}
use Rattle.daemon_core.specs.Planned.{plans_in}
use Rattle.fwupd_service.proofs.PlannedBoards.{plans-new}
use Rattle.fwupd_service.proofs.TopLaws.{if-ok}
use Rattle.fwupd_service.proofs.playing.play.Goals as goal

pub play_house-played-requires-clause-shelves : goal.play_house-played-requires-clause-shelves
play_house-played-requires-clause-shelves g c = rw c.items-2.ensures (λ κs lives k d lt. rw length-map (c.requires.shelves.each k d lt))

pub returns-clause-stand : goal.returns-clause-stand
returns-clause-stand g c = c.play_house-played.ensures.stand

pub returns-clause-plans : goal.returns-clause-plans
returns-clause-plans g c =
    let begun = if-ok _ _ _ c.new_house.ensures.begun c.in-Ok.is in
    c.play_house-played.ensures.plans ∙ ap plans_in begun.places_are ∙ plans-new c.args.campaign.boards.items

pub returns-clause-played : goal.returns-clause-played
returns-clause-played g c =
    let begun = if-ok _ _ _ c.new_house.ensures.begun c.in-Ok.is in
    rw (begun.facts_are, begun.first_are, begun.keeper_is, c.items.ensures, c.items-2.ensures) at c.play_house-played.ensures.played
