-- The line of each event.
use Rattle.std.specs.Prelude.{ℕ, ◌==◌, if◌then◌else◌, List, [], ◌++◌, codes, Option, Some, None, Result, ⊤, slice_get, length}
use Rattle.std.specs.List.{flat_map}
use Rattle.std.specs.Fmt.{decimal}
use Rattle.fw_facts.specs.declared.seen.Seen.{Seen}
use Rattle.fw_facts.specs.declared.sheet.Sheet.{Sheet}
use Rattle.device_list.specs.declared.selector.Selector.{Selector}
use Rattle.emulated_boards.specs.declared.fault.BoardFault.{BoardFault}
use Rattle.emulated_boards.specs.declared.mark.Mark.{Mark}
use Rattle.history_keeper.specs.declared.row.RowState.{RowState}
use Rattle.update_log.specs.declared.answer.AskAnswer.{AskAnswer}
use Rattle.update_log.specs.declared.answer.AskAnswer.TheVariants as asks
use Rattle.update_log.specs.declared.answer.ClaimAnswer.{ClaimAnswer}
use Rattle.update_log.specs.declared.answer.ClaimAnswer.TheVariants as claims
use Rattle.update_log.specs.declared.answer.ResumeAnswer.{ResumeAnswer}
use Rattle.update_log.specs.declared.answer.ResumeAnswer.TheVariants as resumes
use Rattle.update_log.specs.declared.answer.PlugAnswer.{PlugAnswer}
use Rattle.update_log.specs.declared.answer.PlugAnswer.TheVariants as plugs
use Rattle.update_log.specs.declared.refusal.Refusal.TheVariants as refusals
use Rattle.update_log.specs.declared.request.Request.{Request}
use Rattle.update_log.specs.declared.event.Event.{Event}
use Rattle.update_log.specs.declared.event.Event.TheVariants as events
use Rattle.update_log.specs.declared.event.Op.{Op}
use Rattle.update_log.specs.declared.event.Found.{Found}
use Rattle.update_log.specs.declared.event.Found.TheVariants as founds
use Rattle.update_log.specs.declared.event.Stored.{Stored}
use Rattle.update_log.specs.declared.event.Stored.TheVariants as stored
use Rattle.update_log.specs.declared.event.Back.{Back}
use Rattle.update_log.specs.declared.event.Back.TheVariants as backs
use Rattle.update_log.specs.declared.event.Query.{Query}
use Rattle.update_log.specs.declared.event.Query.TheVariants as queries
use Rattle.update_log.specs.declared.event.BoardSeen.{BoardSeen}
use Rattle.client_scripts.specs.Parts.{port_text, retry_text, seen_text, selector_text}
use Rattle.client_scripts.specs.Words.{state_word}
use Rattle.report_text.specs.Words.{op_word, outcome_word, mark_word}
use Rattle.report_text.specs.Refusals.{refused_text}

-- ---- parts of lines

-- a mark's word behind a blank
abbrev pub mark_text : Mark → List ℕ
mark_text mark = codes " " ++ mark_word mark

abbrev pub marks_text : List Mark → List ℕ
marks_text marks = flat_map mark_text marks

abbrev pub client_text : ℕ → List ℕ
client_text client = codes "client " ++ decimal client

-- an entry that a tag was given before, and its state
abbrev pub kept_text : ℕ → RowState → List ℕ
kept_text entry state = codes "kept " ++ decimal entry ++ codes " " ++ state_word state

abbrev pub ask_text : AskAnswer → List ℕ
ask_text (asks.Hold blocks release) = codes "hold " ++ decimal blocks
ask_text (asks.Kept entry state) = kept_text entry state
ask_text (asks.Refused refusal) = refused_text refusal

abbrev pub claim_text : ClaimAnswer → List ℕ
claim_text (claims.Entry entry) = codes "entry " ++ decimal entry
claim_text (claims.Kept entry state) = kept_text entry state
claim_text (claims.Refused refusal) = refused_text refusal

abbrev pub resume_text : ResumeAnswer → List ℕ
resume_text resumes.Begun = codes "begun"
resume_text (resumes.Refused refusal) = refused_text refusal

abbrev pub plug_text : PlugAnswer → List ℕ
plug_text (plugs.Done seen) = codes "done"
plug_text plugs.NoDevice = codes "no-device"
plug_text (plugs.Busy entry) = codes "busy " ++ decimal entry
plug_text plugs.NotThere = codes "not-there"
plug_text plugs.AlreadyThere = codes "already-there"

abbrev pub back_text : Back → List ℕ
back_text (backs.Tag tag) = tag
back_text (backs.Pending entry) = codes "pending " ++ decimal entry
back_text (backs.Entry entry) = codes "entry " ++ decimal entry

abbrev pub query_text : Query → List ℕ
query_text queries.Devices = codes "get-devices"
query_text (queries.Releases device) = codes "get-releases " ++ selector_text device
query_text (queries.Upgrades device) = codes "get-upgrades " ++ selector_text device
query_text queries.History = codes "get-history"
query_text (queries.Results device) = codes "get-results " ++ selector_text device
query_text (queries.Settle device) = codes "settle " ++ selector_text device

-- what a boot says of a doubtful change
abbrev pub found_text : Found → List ℕ
found_text founds.Plain = []
found_text founds.Kept = codes " doubt kept"
found_text founds.Lost = codes " doubt lost"
found_text founds.Fault = codes " keeper-fault"

-- what a line says of a change that was not stored
abbrev pub stored_text : Stored → List ℕ
stored_text stored.Yes = []
stored_text stored.Fault = codes " keeper-fault"
stored_text stored.NoMemory = codes " no-memory"
stored_text stored.Unchanged = []

-- a refused resume says so of another refusal than the keeper's own
abbrev pub resume_stored_text : ResumeAnswer → Stored → List ℕ
resume_stored_text (resumes.Refused refusals.KeeperFault) stored = []
resume_stored_text answer stored = stored_text stored

-- ---- the lines of a boot

abbrev pub boot_line : ℕ → ℕ → Found → List ℕ
boot_line boot time found = codes "boot " ++ decimal boot ++ codes " time " ++ decimal time ++ found_text found ++ codes "\n"

-- the marks of a board that no event had told; a board without one has no such line
abbrev pub told_line : List Sheet → BoardSeen → List ℕ
told_line sheets board =
    if length board.untold == 0 then []
    else codes "  told " ++ port_text (slice_get sheets board.board) ++ marks_text board.untold ++ codes "\n"

abbrev pub board_line : List Sheet → BoardSeen → List ℕ
board_line sheets board =
    codes "  board " ++ port_text (slice_get sheets board.board) ++ codes " "
    ++ seen_text (slice_get sheets board.board) board.seen ++ codes "\n"

-- ---- the lines of an event

-- a request, with the row that it tries again, if any; or the entry that was put off
abbrev pub asked_text : Request → Option ℕ → List ℕ
asked_text request None =
    request.tag ++ codes " " ++ selector_text request.device ++ codes " " ++ request.version ++ retry_text request.retry_of
asked_text request (Some entry) = codes "entry " ++ decimal entry

-- what happened to an entry: its client and number, and the word
abbrev pub entry_text : ℕ → ℕ → List ℕ
entry_text client entry = client_text client ++ codes " entry " ++ decimal entry

abbrev pub ask_line : ℕ → Request → Option ℕ → AskAnswer → List ℕ
ask_line client request pending answer =
    client_text client ++ codes " ask " ++ asked_text request pending ++ codes " " ++ ask_text answer

abbrev pub claim_line : ℕ → Request → ClaimAnswer → List ℕ
claim_line client request answer = client_text client ++ codes " claim " ++ request.tag ++ codes " " ++ claim_text answer

abbrev pub schedule_line : ℕ → Request → ClaimAnswer → List ℕ
schedule_line client request answer =
    client_text client ++ codes " schedule " ++ asked_text request None ++ codes " " ++ claim_text answer

abbrev pub resume_line : ℕ → ℕ → ResumeAnswer → Stored → List ℕ
resume_line client entry answer stored =
    client_text client ++ codes " resume " ++ decimal entry ++ codes " " ++ resume_text answer ++ resume_stored_text answer stored

abbrev pub end_line : Option Sheet → ℕ → ℕ → Op → Result ⊤ BoardFault → List Mark → Seen → List ℕ
end_line sheet client entry op outcome told seen =
    entry_text client entry ++ codes " end " ++ op_word op ++ codes " " ++ outcome_word outcome ++ codes " "
    ++ seen_text sheet seen ++ marks_text told

abbrev pub finish_line : ℕ → ℕ → RowState → Stored → List ℕ
finish_line client entry state stored = entry_text client entry ++ codes " finish " ++ state_word state ++ stored_text stored

abbrev pub judge_line : ℕ → ℕ → List ℕ → RowState → Stored → List ℕ
judge_line client entry version state stored =
    client_text client ++ codes " judge " ++ decimal entry ++ codes " " ++ version ++ codes " " ++ state_word state ++ stored_text stored

abbrev pub plug_line : ℕ → List ℕ → Selector → PlugAnswer → List ℕ
plug_line client word device answer = client_text client ++ word ++ selector_text device ++ codes " " ++ plug_text answer

-- the line of an event but a boot, without its end, where the sheet is that of the board whose step it ends
abbrev pub line_of : Option Sheet → Event → List ℕ
line_of sheet (events.Boot boot time limit found boards) = []
line_of sheet (events.Query client query) = client_text client ++ codes " " ++ query_text query
line_of sheet (events.Ask client request pending answer) = ask_line client request pending answer
line_of sheet (events.Claim client request fetched answer) = claim_line client request answer
line_of sheet (events.Schedule client request answer) = schedule_line client request answer
line_of sheet (events.Resume client entry fetched answer stored) = resume_line client entry answer stored
line_of sheet (events.Start client entry op) = entry_text client entry ++ codes " start " ++ op_word op
line_of sheet (events.End client entry op outcome told seen) =
    end_line sheet client entry op outcome told seen
line_of sheet (events.Finish client entry state stored) = finish_line client entry state stored
line_of sheet (events.Judge client entry version state stored) = judge_line client entry version state stored
line_of sheet (events.Unplug client device answer) = plug_line client (codes " unplug ") device answer
line_of sheet (events.Plug client device answer) = plug_line client (codes " plug ") device answer
line_of sheet (events.GiveBack client what) = client_text client ++ codes " gave-back " ++ back_text what
line_of sheet events.Cut = codes "cut"

-- the entry of a step that an event ends
abbrev pub entry_ended : Event → Option ℕ
entry_ended (events.End client entry op outcome told seen) = Some entry
entry_ended _ = None

-- the lines of an event: a boot's own, the untold marks and then each board; of any other event its line
abbrev pub lines_of : List Sheet → Option Sheet → Event → List ℕ
lines_of sheets sheet (events.Boot boot time limit found boards) =
    boot_line boot time found ++ flat_map (told_line sheets) boards ++ flat_map (board_line sheets) boards
lines_of sheets sheet event = line_of sheet event ++ codes "\n"
