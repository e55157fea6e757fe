-- What one event makes of the views.
use Rattle.std.specs.Prelude.{ℕ, List, [], ◌∷◌, Option, None, find, option_map, unwrap_or}
use Rattle.fw_facts.specs.declared.seen.Seen.{Seen}
use Rattle.fw_facts.specs.declared.view.DeviceView.{DeviceView}
use Rattle.history_keeper.specs.declared.row.Row.{Row}
use Rattle.update_log.specs.declared.live.LiveEntry.{LiveEntry}
use Rattle.update_log.specs.Known.{is_on}

-- The views, the numbers of whose boards are given, with what is told of some boards.
abbrev pub told_on : (ℕ → Option Seen) → List ℕ → List DeviceView → List DeviceView
told_on told [] views = views
told_on told (board ∷ boards) [] = []
told_on told (board ∷ boards) (view ∷ views) =
    record view { seen = unwrap_or (told board) view.seen } ∷ told_on told boards views

-- The view with its live entry, among these and over these rows.
abbrev pub claimed : List Row → List LiveEntry → DeviceView → DeviceView
claimed rows entries view =
    record view { claim = option_map (λ l. l.entry) (find (is_on rows view.sheet.device) entries) }

-- The view without a live entry.
abbrev pub unclaimed : DeviceView → DeviceView
unclaimed view = record view { claim = None }
