-- A log with the client that made each event.
use Rattle.std.specs.Prelude.{ℕ, List, [], ◌∷◌, map}
use Rattle.update_log.specs.declared.event.Event.{Event}
use Rattle.update_log.specs.Pasts.{past_of}
use Rattle.daemon_core.specs.HouseLog.{IsMadeBy}
use Rattle.daemon_core.specs.Housed.{HouseLogView, Housed}
use Rattle.shared_daemon.specs.declared.entry.Entry.{Entry}

-- An event that this client made.
abbrev pub entry_of : ℕ → Event → Entry
entry_of maker event = record { event = event; maker = maker }

abbrev pub maker_of : Entry → ℕ
maker_of entry = entry.maker

-- The events of a log, each with its maker.
abbrev pub entries_of : List Event → List ℕ → List Entry
entries_of [] makers = []
entries_of (event ∷ log) [] = []
entries_of (event ∷ log) (maker ∷ makers) = entry_of maker event ∷ entries_of log makers

abbrev pub entries_in : HouseLogView → List Entry
entries_in a = entries_of a.core.log a.makers

-- The log of a house, so read.
abbrev pub chronicle : {K : Type 0} → Housed K → List Entry
chronicle h = entries_in h.house_log

-- The events alone, and their past.
abbrev pub events : List Entry → List Event
events list = map (λ entry. entry.event) list

abbrev pub past_seen : List Entry → List Event
past_seen list = past_of (events list)

-- Each event of a client was made by that client.
abbrev pub AllMade : List Entry → Type 0
AllMade [] = Unit {0}
AllMade (entry ∷ list) = IsMadeBy entry.event entry.maker × AllMade list
