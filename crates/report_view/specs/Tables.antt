-- The table of requests and entries.
use Rattle.std.specs.Prelude.{ℕ, Bool, List, [], ◌++◌, codes, Option, Some, None, if◌then◌else◌, not}
use Rattle.std.specs.Fmt.{decimal}
use Rattle.report_view.specs.declared.row.Row.{Row}
use Rattle.report_view.specs.Words.{word}
use Rattle.report_view.specs.Events.{line_at}
use Rattle.report_view.specs.Pieces.{escape}
use Rattle.report_view.specs.Spans.{standing_word}

abbrev pub number_cell : Option ℕ → List ℕ
number_cell (Some number) = codes "<td>" ++ decimal number
number_cell None = codes "<td>"

abbrev pub to_text : Option ℕ → List ℕ
to_text (Some end) = codes " to " ++ decimal end
to_text None = []

-- the events at which a write began and ended
abbrev pub write_cell : Option ℕ → Option ℕ → List ℕ
write_cell began ended = number_cell began ++ to_text ended

-- the tag, the device and the version, where the line names them
abbrev pub request_cells : Bool → List ℕ → List ℕ
request_cells named line =
    if not named then codes "<td><td><td>"
    else codes "<td>" ++ escape (word 3 line) ++ codes "<td>" ++ escape (word 4 line) ++ codes "<td>" ++ escape (word 5 line)

abbrev pub row_front : Row → List ℕ
row_front row = codes "<tr class=" ++ standing_word row.standing ++ codes " data-e=" ++ decimal row.opened ++ codes ">" ++ number_cell row.entry

abbrev pub row_back : List (List ℕ) → Row → List ℕ
row_back all row =
    number_cell (Some row.client) ++ write_cell row.began row.ended ++ codes "<td>" ++ standing_word row.standing
    ++ codes "<td>" ++ escape (line_at all row.said) ++ codes "\n"

-- a row: its entry, its request, its client, its write, how it stands, and the line that said so last
abbrev pub table_row : List (List ℕ) → Row → List ℕ
table_row all row = row_front row ++ request_cells row.named (line_at all row.at) ++ row_back all row
