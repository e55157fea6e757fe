-- The lanes' labels and places, and what runs along them.
use Rattle.std.specs.Prelude.{ℕ, ◌-◌, Bool, List, [], ◌++◌, codes, Option, Some, None, if◌then◌else◌}
use Rattle.std.specs.Fmt.{decimal}
use Rattle.report_view.specs.declared.html.TheConstants.{BOARD_LABEL, CLIENT_LABEL, CLIENT_NAME, CLOSE_ENTRY, CLOSE_HEAD, CLOSE_LANE, CLOSE_WRITE, OPEN_ENTRY, OPEN_WRITE, RUN_LENGTH, RUN_PLACE}
use Rattle.report_view.specs.declared.row.Row.{Row}
use Rattle.report_view.specs.declared.row.Standing.{Standing}
use Rattle.report_view.specs.declared.row.Standing.TheVariants as standings
use Rattle.report_view.specs.Lanes.{device_of, name_place, rank}
use Rattle.report_view.specs.Pieces.{escape}

abbrev pub standing_word : Standing → List ℕ
standing_word standings.Held = codes "held"
standing_word standings.GivenBack = codes "given-back"
standing_word standings.Refused = codes "refused"
standing_word standings.Kept = codes "kept"
standing_word standings.Pending = codes "pending"
standing_word standings.Begun = codes "begun"
standing_word standings.Success = codes "success"
standing_word standings.Failed = codes "failed"
standing_word standings.NeedsReboot = codes "needs-reboot"

-- ---- from the begin to the end

-- where something that began ends: at that event, or behind the last where it didn't end
abbrev pub end_of : Option ℕ → ℕ → ℕ
end_of (Some end) total = end
end_of None total = total

unfoldable pub run_text : ℕ → ℕ → List ℕ
run_text from to = RUN_PLACE.now ++ decimal from ++ RUN_LENGTH.now ++ decimal (to - from) ++ CLOSE_HEAD.now

-- an entry from where it was begun to where it was closed, with its standing
abbrev pub run_of : ℕ → Option ℕ → Option ℕ → Standing → ℕ → List ℕ
run_of entry (Some from) closed standing total =
    OPEN_ENTRY.now ++ decimal entry ++ codes " " ++ standing_word standing ++ run_text from (end_of closed total) ++ CLOSE_ENTRY.now
run_of entry None closed standing total = []

abbrev pub write_word : Bool → Option ℕ → List ℕ
write_word torn (Some end) = if torn then codes "torn" else codes "good"
write_word torn None = codes "running"

-- a write from its begin to its end
abbrev pub write_of : ℕ → Option ℕ → Option ℕ → Bool → ℕ → List ℕ
write_of entry (Some from) ended torn total =
    OPEN_WRITE.now ++ decimal entry ++ codes " " ++ write_word torn ended ++ run_text from (end_of ended total) ++ CLOSE_WRITE.now
write_of entry None ended torn total = []

abbrev pub span_of : ℕ → Row → ℕ → List ℕ
span_of entry row total = run_of entry row.claimed row.closed row.standing total ++ write_of entry row.began row.ended row.torn total

abbrev pub span_by : Option ℕ → ℕ → Row → List ℕ
span_by (Some entry) total row = span_of entry row total
span_by None total row = []

abbrev pub span : ℕ → Row → List ℕ
span total row = span_by row.entry total row

-- ---- the lanes

unfoldable pub client_label : ℕ → List ℕ
client_label client = CLIENT_LABEL.now ++ decimal client ++ CLIENT_NAME.now ++ decimal client ++ CLOSE_LANE.now

abbrev pub board_label : List ℕ → List ℕ
board_label name = BOARD_LABEL.now ++ escape name ++ CLOSE_LANE.now

-- the lane of a client: behind those of lower numbers
abbrev pub client_rule : List ℕ → ℕ → List ℕ
client_rule clients client = codes ".c" ++ decimal client ++ codes "{--y:" ++ decimal (rank client clients) ++ codes "}\n"

abbrev pub entry_rule_of : ℕ → ℕ → ℕ → List ℕ
entry_rule_of entry before place =
    codes ".n" ++ decimal entry ++ codes "{--y:calc(" ++ decimal before ++ codes " + " ++ decimal place ++ codes ")}\n"

abbrev pub entry_rule_by : Option ℕ → List (List ℕ) → List (List ℕ) → ℕ → Row → List ℕ
entry_rule_by (Some entry) all names before row = entry_rule_of entry before (name_place (device_of all row) names)
entry_rule_by None all names before row = []

-- the lane of an entry: that of its device, behind the clients' lanes
abbrev pub entry_rule : List (List ℕ) → List (List ℕ) → ℕ → Row → List ℕ
entry_rule all names before row = entry_rule_by row.entry all names before row

abbrev pub root_rule : ℕ → ℕ → ℕ → List ℕ
root_rule total clients names =
    codes ":root{--n:" ++ decimal total ++ codes ";--c:" ++ decimal clients ++ codes ";--b:" ++ decimal names ++ codes "}\n"
