-- The lines of a text, and the events that they tell.
use Rattle.std.specs.Prelude.{ℕ, ◌+◌, ◌-◌, ◌==◌, Bool, true, false, List, [], ◌∷◌, ◌++◌, length, take, slice_index_or}
use Rattle.std.specs.List.{slice_split}
use Rattle.report_view.specs.declared.line.Line.{Line}
use Rattle.report_view.specs.declared.line.Line.TheVariants as lines
use Rattle.report_view.specs.declared.event.Event.{Event}
use Rattle.report_view.specs.Reading.{line_read}

-- the pieces of a text between its newlines; the last one, behind the last newline, is no whole line
unfoldable pub pieces_of : List ℕ → List (List ℕ)
pieces_of text = slice_split (λ b. b == 10) text

abbrev pub all_but_last : List (List ℕ) → List (List ℕ)
all_but_last pieces = take (length pieces - 1) pieces

abbrev pub line_at : List (List ℕ) → ℕ → List ℕ
line_at all at = slice_index_or all at []

-- the lines of a text, each up to its newline
abbrev pub lines_of : List ℕ → List (List ℕ)
lines_of text = all_but_last (pieces_of text)

abbrev pub last_piece : List (List ℕ) → List ℕ
last_piece pieces = line_at pieces (length pieces - 1)

-- what stands behind the last newline: nothing, or the front of a line
abbrev pub rest_of : List ℕ → List ℕ
rest_of text = last_piece (pieces_of text)

-- a line that tells an event
abbrev pub tells_event : Line → Bool
tells_event (lines.Event kind) = true
tells_event lines.First = false
tells_event (lines.Last told) = false
tells_event lines.Board = false
tells_event lines.Detail = false
tells_event lines.Unread = false

abbrev pub is_event : List ℕ → Bool
is_event line = tells_event (line_read line)

-- the event of a line at a place, where so many were told before
abbrev pub event_here : Line → ℕ → ℕ → List Event
event_here (lines.Event kind) at told = record { number = told + 1; at = at; kind = kind } ∷ []
event_here lines.First at told = []
event_here (lines.Last last) at told = []
event_here lines.Board at told = []
event_here lines.Detail at told = []
event_here lines.Unread at told = []

-- the events of lines from a place on, where so many were told before
unfoldable pub events_from : ℕ → List (List ℕ) → ℕ → List Event
events_from at [] told = []
events_from at (line ∷ later) told =
    event_here (line_read line) at told ++ events_from (at + 1) later (told + length (event_here (line_read line) at told))

-- the events that lines tell: their numbers count from 1
abbrev pub events : List (List ℕ) → List Event
events all = events_from 0 all 0

-- whether a line may have lines that belong to it: an event has; what belongs to an event leaves that as it is
abbrev pub is_owner : Line → Bool → Bool
is_owner (lines.Event kind) owned = true
is_owner lines.Board owned = owned
is_owner lines.Detail owned = owned
is_owner lines.First owned = false
is_owner (lines.Last told) owned = false
is_owner lines.Unread owned = false

-- whether a line is none of a report: no text of the format, or one that belongs to an event and has none above it
abbrev pub is_stray : Line → Bool → Bool
is_stray lines.Unread owned = true
is_stray lines.Board true = false
is_stray lines.Board false = true
is_stray lines.Detail true = false
is_stray lines.Detail false = true
is_stray (lines.Event kind) owned = false
is_stray lines.First owned = false
is_stray (lines.Last told) owned = false

abbrev pub stray_here : Bool → ℕ → List ℕ
stray_here true at = at ∷ []
stray_here false at = []

-- the stray lines among these, by their numbers, of which this is the first
unfoldable pub strays_from : ℕ → List (List ℕ) → Bool → List ℕ
strays_from at [] owned = []
strays_from at (line ∷ later) owned =
    stray_here (is_stray (line_read line) owned) at ++ strays_from (at + 1) later (is_owner (line_read line) owned)

-- the stray lines, by their numbers from 1
abbrev pub strays : List (List ℕ) → List ℕ
strays all = strays_from 1 all false
