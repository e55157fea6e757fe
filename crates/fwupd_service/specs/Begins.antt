-- What a campaign needs to begin.
use Rattle.std.specs.Prelude.{◌≡◌, ◌≤◌, ◌<◌, ◌-◌, ◌^◌, ℕ, false, List, [], length, map, All, Some, slice_get}
use Rattle.emulated_boards.specs.Boards.{BoardState}
use Rattle.update_log.specs.declared.facts.Facts.{Facts}
use Rattle.daemon_core.specs.House.{IsNewBoard, place_of, shown_by}
use Rattle.daemon_core.specs.Housed.{Housed}
use Rattle.client_plays.specs.Endings.{IsScriptItem}
use Rattle.site_types.specs.declared.campaign.Campaign.{Campaign}

-- A house can be made for it, and its boots and scripts keep to the limits.
pub record CanBePlayed (campaign : Campaign) : Type 0 where
  pub few : length campaign.facts.sheets ≤ 256
  pub count : length campaign.boards.items ≡ length campaign.facts.sheets
  pub fresh : (number : ℕ) (b : BoardState) → slice_get campaign.boards.items number ≡ Some b → IsNewBoard b
  pub pool : campaign.facts.pool ≤ 16384
  pub boots : length campaign.boots ≤ 32
  pub times : All (λ plan. plan.time ≤ 2 ^ 63 - 1) campaign.boots
  pub items : All (All (All IsScriptItem)) campaign.scripts
  pub clients : All (λ of_boot. length of_boot ≤ 16) campaign.scripts

-- There is a shelf at least, one for each client that has a script, and a plugin for each that has vetoes.
pub record IsReadyFor (shelves plugins : ℕ) (campaign : Campaign) : Type 0 where
  pub some : 0 < shelves
  pub each : All (λ of_boot. length of_boot ≤ shelves) campaign.scripts
  pub plugins_are : length campaign.facts.vetoes ≤ plugins

-- A house of these facts and boards, before its first boot, with this keeper: no boot read any rows.
pub record IsBegun {K : Type 0} (facts : Facts) (boards : List BoardState) (keeper : K) (h : Housed K) : Type 0 where
  pub facts_are : h.house_log.facts ≡ facts
  pub first_are : h.house_log.first ≡ map shown_by boards
  pub places_are : h.places ≡ map place_of boards
  pub log : h.house_log.core.log ≡ []
  pub loaded : h.house_log.loaded ≡ false
  pub opening : h.house_log.opening ≡ []
  pub keeper_is : h.keeper ≡ keeper
