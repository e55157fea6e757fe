-- What a campaign has that can begin.
use Rattle.std.specs.Prelude.{◌≡◌, ◌≤◌, [], All, length}
use Rattle.emulated_boards.specs.declared.image.Image.{Image}
use Rattle.emulated_boards.specs.Boards.{BoardState}
use Rattle.emulated_boards.specs.Conditions.{fresh}
use Rattle.site_types.specs.declared.campaign.Campaign.{Campaign}

-- A board as it is made runs its first image, in its port, and nothing was done to it.
pub record IsAsMade (board : BoardState) : Type 0 where
  pub image : Image
  pub condition : board.condition ≡ fresh image
  pub journal : board.journal ≡ []
  pub faults : board.faults ≡ 0

-- At most 256 sheets, and a new board for each.
pub record CanBegin (campaign : Campaign) : Type 0 where
  pub few : length campaign.facts.sheets ≤ 256
  pub count : length campaign.boards.items ≡ length campaign.facts.sheets
  pub made : All IsAsMade campaign.boards.items
