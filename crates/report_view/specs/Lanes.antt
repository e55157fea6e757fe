-- The lanes of a page, and which is whose.
use Rattle.std.specs.Prelude.{ℕ, ◌==◌, Bool, true, false, List, [], ◌∷◌, ◌++◌, nat_lt, codes, count_by, Option, Some, None, if◌then◌else◌}
use Rattle.std.specs.List.{fold, list_any, position_or_len}
use Rattle.std.specs.Str.{bytes_eq}
use Rattle.report_view.specs.declared.line.Kind.{Kind}
use Rattle.report_view.specs.declared.line.Kind.TheVariants as kinds
use Rattle.report_view.specs.declared.line.Line.{Line}
use Rattle.report_view.specs.declared.line.Line.TheVariants as lines
use Rattle.report_view.specs.declared.event.Event.{Event}
use Rattle.report_view.specs.declared.row.Row.{Row}
use Rattle.report_view.specs.Words.{word}
use Rattle.report_view.specs.Reading.{line_read}
use Rattle.report_view.specs.Events.{line_at}

-- the client in whose lane an event is drawn; the daemon is client 0
abbrev pub client_of : Kind → Option ℕ
client_of (kinds.Ask client answer) = Some client
client_of (kinds.Recall entry answer) = Some 0
client_of (kinds.Claim client answer) = Some client
client_of (kinds.Schedule client answer) = Some client
client_of (kinds.Resume client entry told) = Some client
client_of (kinds.Plug client done) = Some client
client_of (kinds.Unplug client done) = Some client
client_of (kinds.GaveBack client tagged) = Some client
client_of (kinds.Question client) = Some client
client_of (kinds.Boot told) = None
client_of kinds.Cut = None
client_of (kinds.Start entry step) = None
client_of (kinds.End entry step good) = None
client_of (kinds.Finish entry state) = None
client_of (kinds.Judge entry state) = None

-- the entry in whose board's lane an event is drawn
abbrev pub entry_of : Kind → Option ℕ
entry_of (kinds.Start entry step) = Some entry
entry_of (kinds.End entry step good) = Some entry
entry_of (kinds.Finish entry state) = Some entry
entry_of (kinds.Judge entry state) = Some entry
entry_of (kinds.Ask client answer) = None
entry_of (kinds.Recall entry answer) = None
entry_of (kinds.Claim client answer) = None
entry_of (kinds.Schedule client answer) = None
entry_of (kinds.Resume client entry told) = None
entry_of (kinds.Plug client done) = None
entry_of (kinds.Unplug client done) = None
entry_of (kinds.GaveBack client tagged) = None
entry_of (kinds.Question client) = None
entry_of (kinds.Boot told) = None
entry_of kinds.Cut = None

-- ---- the clients

abbrev pub with_client : ℕ → List ℕ → List ℕ
with_client client clients = if list_any (λ known. known == client) clients then clients else clients ++ client ∷ []

abbrev pub with_client_of : Option ℕ → List ℕ → List ℕ
with_client_of None clients = clients
with_client_of (Some client) clients = with_client client clients

-- the clients of the events, each once
abbrev pub clients_of : List Event → List ℕ
clients_of events = fold (λ clients event. with_client_of (client_of event.kind) clients) [] events

-- how many of the clients have a lower number
abbrev pub rank : ℕ → List ℕ → ℕ
rank client clients = count_by (λ known. nat_lt known client) clients

-- ---- the boards

abbrev pub with_name : List ℕ → List (List ℕ) → List (List ℕ)
with_name name names = if list_any (λ known. bytes_eq known name) names then names else names ++ name ∷ []

abbrev pub with_board_of : Line → List ℕ → List (List ℕ) → List (List ℕ)
with_board_of lines.Board line names = with_name (word 3 line) names
with_board_of lines.First line names = names
with_board_of (lines.Last told) line names = names
with_board_of lines.Detail line names = names
with_board_of (lines.Event kind) line names = names
with_board_of lines.Unread line names = names

abbrev pub with_board : List (List ℕ) → List ℕ → List (List ℕ)
with_board names line = with_board_of (line_read line) line names

-- the boards that boots name, each once
abbrev pub boards_of : List (List ℕ) → List (List ℕ)
boards_of all = fold with_board [] all

-- the device of a row, as its request names it, or `-` where no request does
abbrev pub device_of : List (List ℕ) → Row → List ℕ
device_of all row = if row.named then word 4 (line_at all row.at) else codes "-"

abbrev pub has_entry : Option ℕ → Bool
has_entry (Some entry) = true
has_entry None = false

abbrev pub with_name_of : List (List ℕ) → List (List ℕ) → Row → List (List ℕ)
with_name_of all names row = if has_entry row.entry then with_name (device_of all row) names else names

-- the names of the boards' lanes: the boards that boots name, then the devices of entries that are none of them
abbrev pub names_of : List (List ℕ) → List Row → List (List ℕ)
names_of all rows = fold (with_name_of all) (boards_of all) rows

-- the place of a name among the names
abbrev pub name_place : List ℕ → List (List ℕ) → ℕ
name_place name names = position_or_len (λ known. bytes_eq known name) names
