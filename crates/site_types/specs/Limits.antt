-- What a site keeps to, so that a campaign can be made of it.
use Rattle.std.specs.Prelude.{◌≤◌, List, All}
use Rattle.emulated_boards.specs.Plans.{IsPlan}
use Rattle.site_types.specs.declared.site.SiteBoard.{SiteBoard}

-- the boards' priorities are at most 1,000, and each plan of faults names calls from 1 on, in their
-- order, each once
pub record CanBeSettled (boards : List SiteBoard) : Type 0 where
  pub priorities : All (λ board. board.sheet.priority ≤ 1000) boards
  pub plans : All (λ board. IsPlan board.faults) boards
