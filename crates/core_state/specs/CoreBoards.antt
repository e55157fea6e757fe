-- Boards as the code counts them.
use Rattle.std.specs.Prelude.{ℕ, None}
use Rattle.fw_facts.specs.declared.seen.Seen.{Seen}
use Rattle.fw_facts.specs.declared.sheet.Sheet.{Sheet}
use Rattle.fw_facts.specs.declared.view.DeviceView.{DeviceView}
use Rattle.update_log.specs.Boards.{Board}

-- The board of that number, with that sheet.
abbrev pub board : ℕ → Sheet → Board
board number sheet = record { number = number; sheet = sheet }

-- The board's view before the first boot.
abbrev pub first_view : Board → DeviceView
first_view b = record { sheet = b.sheet; seen = Seen.Gone; claim = None }
