-- What every site keeps to that was read or generated, so that its campaign can be made and run.
use Rattle.std.specs.Prelude.{◌≡◌, ◌≤◌, ◌-◌, ◌^◌, All, length}
use Rattle.update_log.specs.declared.event.Query.{Query}
use Rattle.client_scripts.specs.declared.item.Item.{Item}
use Rattle.site_types.specs.declared.site.Site.{Site}
use Rattle.site_types.specs.Limits.{CanBeSettled}

-- The question may stand in a script: it isn't the one that settling a device asks.
abbrev pub IsAsked : Query → Type 0
IsAsked Query.Devices = Unit {0}
IsAsked (Query.Releases selector) = Unit {0}
IsAsked (Query.Upgrades selector) = Unit {0}
IsAsked Query.History = Unit {0}
IsAsked (Query.Results selector) = Unit {0}
IsAsked (Query.Settle selector) = ⊥

-- The item may stand in a script.
abbrev pub IsDone : Item → Type 0
IsDone (Item.Ask query) = IsAsked query
IsDone (Item.Install request) = Unit {0}
IsDone (Item.Settle selector) = Unit {0}
IsDone (Item.Unplug selector) = Unit {0}
IsDone (Item.Plug selector) = Unit {0}

-- At most 256 boards with plans that rise, 16 clients, 32 boots of times that fit, 16,384 blocks, and in
-- each boot at most as many scripts as clients, whose items may stand there.
pub record CanBeRun (site : Site) : Type 0 where
  pub settled : CanBeSettled site.boards
  pub boards : length site.boards ≤ 256
  pub clients : length site.features ≤ 16
  pub boots : length site.boots ≤ 32
  pub times : All (λ plan. plan.time ≤ 2 ^ 63 - 1) site.boots
  pub pool : site.pool ≤ 16384
  pub as_many : length site.scripts ≡ length site.boots
  pub scripts : All (λ of_boot. length of_boot ≤ length site.features) site.scripts
  pub items : All (All (All IsDone)) site.scripts
