-- The report of a log.
use Rattle.std.specs.Prelude.{ℕ, Bool, false, ◌==◌, List, [], ◌∷◌, ◌++◌, length, codes, Option, None, find, option_map, option_and_then, unwrap_or}
use Rattle.std.specs.Fmt.{decimal}
use Rattle.fw_facts.specs.declared.sheet.Sheet.{Sheet}
use Rattle.fw_facts.specs.declared.view.DeviceView.{DeviceView}
use Rattle.history_keeper.specs.declared.row.Row.{Row}
use Rattle.update_log.specs.declared.event.Event.{Event}
use Rattle.update_log.specs.declared.event.Event.TheVariants as events
use Rattle.update_log.specs.declared.facts.Facts.{Facts}
use Rattle.update_log.specs.Known.{Basis, rows, views}
use Rattle.client_scripts.specs.Replies.{reply}
use Rattle.report_text.specs.Lines.{entry_ended, lines_of}

-- ---- the lines of an event

-- The sheet of the device on which an entry has a claim.
abbrev pub has_claim : ℕ → DeviceView → Bool
has_claim entry view = unwrap_or (option_map (λ claim. claim == entry) view.claim) false

abbrev pub sheet_claimed : List DeviceView → ℕ → Option Sheet
sheet_claimed views entry = option_map (λ view. view.sheet) (find (has_claim entry) views)

abbrev pub sheet_ended : List DeviceView → Event → Option Sheet
sheet_ended views event = option_and_then (sheet_claimed views) (entry_ended event)

-- What a client was told stands under its question.
abbrev pub reply_under : Facts → List DeviceView → List Row → Event → List ℕ
reply_under facts views rows (events.Query client query) = reply facts views rows query
reply_under facts views rows _ = []

-- The lines of an event, over the devices and the rows as they stood before it.
abbrev pub lines_over : Facts → List DeviceView → List Row → Event → List ℕ
lines_over facts views rows event = lines_of facts.sheets (sheet_ended views event) event ++ reply_under facts views rows event

-- The lines of an event in a log over these facts and rows, with these events before it, the newest first.
abbrev pub lines_in : Basis → List Event → Event → List ℕ
lines_in basis past event = lines_over basis.facts (views basis past) (rows basis past) event

-- ---- the report

-- The lines of events one after the other, of which these stand before the first, the newest first.
abbrev pub in_turn : (List Event → Event → List ℕ) → List Event → List Event → List ℕ
in_turn lines past [] = []
in_turn lines past (event ∷ later) = lines past event ++ in_turn lines (event ∷ past) later

unfoldable pub first_line : List ℕ
first_line = codes "fwupdemu report 1\n"

unfoldable pub last_line : ℕ → List ℕ
last_line events = codes "end " ++ decimal events ++ codes "\n"

-- A first line, each event's lines in the log's order, and how many events there were.
abbrev pub report_by : (List Event → Event → List ℕ) → List Event → List ℕ
report_by lines log = first_line ++ (in_turn lines [] log ++ last_line (length log))

-- The report of a log over these facts and the rows before it.
abbrev pub report : Basis → List Event → List ℕ
report basis log = report_by (lines_in basis) log

-- ---- the lines by the sheets alone

-- The lines of an event that ends no step and asks nothing, whatever stands before it.
abbrev pub lines_alone : List Sheet → List Event → Event → List ℕ
lines_alone sheets past event = lines_of sheets None event
