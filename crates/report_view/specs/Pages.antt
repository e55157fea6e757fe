-- The page of a text.
use Rattle.std.specs.Prelude.{ℕ, ◌-◌, ◌==◌, nat_lt, Bool, true, false, not, List, [], ◌∷◌, ◌++◌, length, codes, count_by, is_some, Option, Some, None, if◌then◌else◌}
use Rattle.std.specs.List.{flat_map, fold}
use Rattle.std.specs.Fmt.{decimal}
use Rattle.report_view.specs.declared.html.TheConstants.{CUT_OFF_ITEM, DRAWN_ITEM, ITEM_END, REST_ITEM, STRAY_END, STRAY_ITEM, STRAY_TEXT, TOLD_ITEM, TOLD_NUMBER, UNREAD_ITEM}
use Rattle.report_view.specs.declared.line.Kind.{Kind}
use Rattle.report_view.specs.declared.line.Kind.TheVariants as kinds
use Rattle.report_view.specs.declared.line.Line.{Line}
use Rattle.report_view.specs.declared.line.Line.TheVariants as lines
use Rattle.report_view.specs.declared.event.Event.{Event}
use Rattle.report_view.specs.declared.row.Row.{Row}
use Rattle.report_view.specs.declared.row.Standing.{Standing}
use Rattle.report_view.specs.declared.row.Standing.TheVariants as standings
use Rattle.report_view.specs.declared.drawn.Drawn.{Drawn}
use Rattle.report_view.specs.declared.drawn.Finding.{Finding}
use Rattle.report_view.specs.declared.drawn.Finding.TheVariants as findings
use Rattle.report_view.specs.declared.frame.TheConstants.{HEAD, CHART, LANES, RULES, TABLE, NOTES, FOOT}
use Rattle.report_view.specs.Reading.{line_read}
use Rattle.report_view.specs.Events.{events, line_at, lines_of, rest_of, strays}
use Rattle.report_view.specs.Rows.{rows_of}
use Rattle.report_view.specs.Lanes.{clients_of, names_of}
use Rattle.report_view.specs.Pieces.{escape}
use Rattle.report_view.specs.Marks.{mark}
use Rattle.report_view.specs.Spans.{board_label, client_label, client_rule, entry_rule, root_rule, span}
use Rattle.report_view.specs.Tables.{table_row}

-- ---- the tally

abbrev pub is_boot : Kind → Bool
is_boot (kinds.Boot told) = true
is_boot _ = false

abbrev pub is_cut : Kind → Bool
is_cut kinds.Cut = true
is_cut _ = false

abbrev pub is_refused : Standing → Bool
is_refused standings.Refused = true
is_refused _ = false

-- the number that a line tells as the last of a report, or else the number told before
abbrev pub told_by : Line → Option ℕ → Option ℕ
told_by (lines.Last events) before = Some events
told_by lines.First before = before
told_by lines.Board before = before
told_by lines.Detail before = before
told_by (lines.Event kind) before = before
told_by lines.Unread before = before

-- the number that the last line of a report tells, if one does
abbrev pub last_told : List (List ℕ) → Option ℕ
last_told all = fold (λ told line. told_by (line_read line) told) None all

abbrev pub is_title : Line → Bool
is_title lines.First = true
is_title (lines.Last told) = false
is_title lines.Board = false
is_title lines.Detail = false
is_title (lines.Event kind) = false
is_title lines.Unread = false

-- the first line is a report's, or there is none
abbrev pub titled : List (List ℕ) → Bool
titled [] = true
titled (first ∷ later) = is_title (line_read first)

unfoldable pub item : ℕ → List ℕ → List ℕ
item count words = codes "<li>" ++ words ++ codes " <b>" ++ decimal count ++ ITEM_END.now

unfoldable pub drawn_item : ℕ → List ℕ
drawn_item count = DRAWN_ITEM.now ++ decimal count ++ ITEM_END.now

abbrev pub agrees : ℕ → ℕ → List ℕ
agrees told events = if told == events then codes "fine" else codes "warn"

unfoldable pub told_item : Option ℕ → ℕ → List ℕ
told_item (Some told) events =
    TOLD_ITEM.now ++ agrees told events ++ TOLD_NUMBER.now ++ decimal told ++ ITEM_END.now
told_item None events = CUT_OFF_ITEM.now

unfoldable pub unread_item : ℕ → List ℕ
unread_item unread =
    if unread == 0 then [] else UNREAD_ITEM.now ++ decimal unread ++ ITEM_END.now

-- how many boots, cuts, entries and refused requests there are
unfoldable pub counts : List Event → List Row → List ℕ
counts events rows =
    item (count_by (λ event. is_boot event.kind) events) (codes "boots")
    ++ item (count_by (λ event. is_cut event.kind) events) (codes "cuts")
    ++ item (count_by (λ row. is_some row.entry) rows) (codes "entries")
    ++ item (count_by (λ row. is_refused row.standing) rows) (codes "refused")

-- how many events were drawn, how many the report says it has, and how many of what there are
unfoldable pub tally : List Event → List Row → Option ℕ → ℕ → List ℕ
tally events rows told unread = drawn_item (length events) ++ told_item told (length events) ++ unread_item unread ++ counts events rows

-- ---- what was not read

abbrev pub stray_item : List (List ℕ) → ℕ → List ℕ
stray_item all number = STRAY_ITEM.now ++ decimal number ++ STRAY_TEXT.now ++ escape (line_at all (number - 1)) ++ STRAY_END.now

abbrev pub rest_item : List ℕ → List ℕ
rest_item rest =
    if length rest == 0 then []
    else REST_ITEM.now ++ escape rest ++ STRAY_END.now

-- ---- the page

-- the frame's head, and the tally
unfoldable pub before_marks : List Event → List Row → Option ℕ → ℕ → List ℕ
before_marks events rows told unread = HEAD.now ++ tally events rows told unread ++ CHART.now

-- how long entries and their writes ran, and the lanes' labels
unfoldable pub lanes_part : List Row → ℕ → List ℕ → List (List ℕ) → List ℕ
lanes_part rows total clients names =
    flat_map (span total) rows ++ LANES.now ++ flat_map client_label clients ++ flat_map board_label names

-- the places of the lanes
unfoldable pub rules_part : List (List ℕ) → List Row → ℕ → List ℕ → List (List ℕ) → List ℕ
rules_part all rows total clients names =
    RULES.now ++ root_rule total (length clients) (length names) ++ flat_map (client_rule clients) clients
    ++ flat_map (entry_rule all names (length clients)) rows

-- the table of requests and entries
unfoldable pub table_part : List (List ℕ) → List Row → List ℕ
table_part all rows = TABLE.now ++ flat_map (table_row all) rows

-- the lines that are none of a report, and the frame's foot
unfoldable pub notes_part : List (List ℕ) → List ℕ → List ℕ → List ℕ
notes_part all strays rest = NOTES.now ++ flat_map (stray_item all) strays ++ rest_item rest ++ FOOT.now

-- what stands behind the marks
unfoldable pub after_marks : List (List ℕ) → List ℕ → List Row → ℕ → List ℕ → List (List ℕ) → List ℕ → List ℕ
after_marks all rest rows total clients names strays =
    lanes_part rows total clients names ++ rules_part all rows total clients names ++ table_part all rows ++ notes_part all strays rest

-- the marks of the events of these lines, one behind the other
abbrev pub marks : List (List ℕ) → List ℕ
marks all = flat_map (mark all) (events all)

-- what stands before the marks and behind them is made of the same lines
unfoldable pub page_before : List (List ℕ) → List ℕ
page_before all = before_marks (events all) (rows_of all (events all)) (last_told all) (length (strays all))

unfoldable pub page_after : List (List ℕ) → List ℕ → List ℕ
page_after all rest =
    after_marks all rest (rows_of all (events all)) (length (events all)) (clients_of (events all)) (names_of all (rows_of all (events all))) (strays all)

-- the page of lines, and of what stands behind the last: the mark of each event, between what tells of them all
abbrev pub page_of : List (List ℕ) → List ℕ → List ℕ
page_of all rest = page_before all ++ marks all ++ page_after all rest

-- the page of a text
abbrev pub page : List ℕ → List ℕ
page text = page_of (lines_of text) (rest_of text)

-- ---- how the report is

abbrev pub drawn_by : List (List ℕ) → List ℕ → Drawn
drawn_by all rest = record {
  events = length (events all);
  unread = length (strays all);
  told = last_told all;
  titled = titled all;
  trailing = not (length rest == 0);
}

-- what the page of a text shows
abbrev pub drawn_of : List ℕ → Drawn
drawn_of text = drawn_by (lines_of text) (rest_of text)

abbrev pub finding_told : Option ℕ → Drawn → Finding
finding_told None drawn = findings.CutOff drawn.events
finding_told (Some told) drawn =
    if drawn.trailing then findings.Trailing
    else if told == drawn.events then findings.Whole
    else findings.Miscounted told drawn.events

abbrev pub finding_of : Drawn → Finding
finding_of drawn =
    if nat_lt 0 drawn.unread then findings.Unread drawn.unread
    else if not drawn.titled then findings.Untitled
    else finding_told drawn.told drawn
