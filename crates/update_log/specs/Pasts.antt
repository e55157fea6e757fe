-- A log read backwards, and what it says of the boot that runs.
--
-- A past is the events of a log, the newest first: so "the last event that .." is the first one
-- found, and the log before an event is the rest of the list. What a past says is said by what each
-- event makes of what the past before it said.
use Rattle.std.specs.Prelude.{◌≡◌, ℕ, Bool, true, false, ◌||◌, ◌==◌, ◌+◌, List, [], ◌∷◌, Option, Some, None, option_map, unwrap_or, if◌then◌else◌, reverse}
use Rattle.update_log.specs.declared.event.Event.{Event}
use Rattle.update_log.specs.declared.event.Found.{Found}
use Rattle.update_log.specs.declared.event.Stored.{Stored}
use Rattle.update_log.specs.declared.answer.ClaimAnswer.{ClaimAnswer}
use Rattle.update_log.specs.declared.answer.ResumeAnswer.{ResumeAnswer}
use Rattle.update_log.specs.declared.refusal.Refusal.{Refusal}

-- The past that a log is.
abbrev pub past_of : List Event → List Event
past_of log = reverse log

-- The event is the start of a boot.
abbrev pub is_boot : Event → Bool
is_boot (Event.Boot number time limit found boards) = true
is_boot _ = false

-- How many boots there were.
abbrev pub boots_after : Event → ℕ → ℕ
boots_after event before = if is_boot event then before + 1 else before

abbrev pub boots : List Event → ℕ
boots [] = 0
boots (event ∷ past) = boots_after event (boots past)

-- The time of the boot that runs.
abbrev pub time_after : Event → ℕ → ℕ
time_after (Event.Boot number time limit found boards) before = time
time_after _ before = before

abbrev pub time_of : List Event → ℕ
time_of [] = 0
time_of (event ∷ past) = time_after event (time_of past)

-- After how many counted events its power is cut, if it is.
abbrev pub limit_after : Event → Option ℕ → Option ℕ
limit_after (Event.Boot number time limit found boards) before = limit
limit_after _ before = before

abbrev pub limit_of : List Event → Option ℕ
limit_of [] = None
limit_of (event ∷ past) = limit_after event (limit_of past)

-- A limit counts the event: all but boots, cuts and what is given back.
abbrev pub is_counted : Event → Bool
is_counted (Event.Boot number time limit found boards) = false
is_counted (Event.GiveBack client what) = false
is_counted Event.Cut = false
is_counted _ = true

-- How many events of the boot that runs are counted.
abbrev pub counted_after : Event → ℕ → ℕ
counted_after event before = if is_boot event then 0 else (if is_counted event then before + 1 else before)

abbrev pub counted : List Event → ℕ
counted [] = 0
counted (event ∷ past) = counted_after event (counted past)

-- The store is at fault.
abbrev pub is_fault : Stored → Bool
is_fault Stored.Fault = true
is_fault _ = false

abbrev pub is_keeper_fault : Refusal → Bool
is_keeper_fault Refusal.KeeperFault = true
is_keeper_fault _ = false

abbrev pub is_found_fault : Found → Bool
is_found_fault Found.Fault = true
is_found_fault _ = false

-- A boot that couldn't read the history.
abbrev pub is_fault_boot : Event → Bool
is_fault_boot (Event.Boot number time limit found boards) = is_found_fault found
is_fault_boot _ = false

-- Each event is such a boot.
abbrev pub AllFaults : List Event → Type 0
AllFaults [] = Unit {0}
AllFaults (event ∷ past) = (is_fault_boot event ≡ true) × AllFaults past

-- The event met a fault of the keeper: the history couldn't be read or written.
abbrev pub meets_fault : Event → Bool
meets_fault (Event.Boot number time limit found boards) = is_found_fault found
meets_fault (Event.Claim client request fetched (ClaimAnswer.Refused refusal)) = is_keeper_fault refusal
meets_fault (Event.Schedule client request (ClaimAnswer.Refused refusal)) = is_keeper_fault refusal
meets_fault (Event.Resume client entry fetched (ResumeAnswer.Refused refusal) stored) = is_keeper_fault refusal || is_fault stored
meets_fault (Event.Resume client entry fetched ResumeAnswer.Begun stored) = is_fault stored
meets_fault (Event.Finish client entry state stored) = is_fault stored
meets_fault (Event.Judge client entry version state stored) = is_fault stored
meets_fault _ = false

-- The event is that the power is cut.
abbrev pub is_cut : Event → Bool
is_cut Event.Cut = true
is_cut _ = false

-- The event puts its boot off: the power is cut, or it met a fault of the keeper.
abbrev pub puts_off : Event → Bool
puts_off event = is_cut event || meets_fault event

-- The boot that runs is off.
abbrev pub off_after : Event → Bool → Bool
off_after event before = if is_boot event then puts_off event else puts_off event || before

abbrev pub off : List Event → Bool
off [] = false
off (event ∷ past) = off_after event (off past)

-- The client whose event it is. A boot and a cut are nobody's.
abbrev pub client_of : Event → Option ℕ
client_of (Event.Boot number time limit found boards) = None
client_of (Event.Query client query) = Some client
client_of (Event.Ask client request pending answer) = Some client
client_of (Event.Claim client request fetched answer) = Some client
client_of (Event.Schedule client request answer) = Some client
client_of (Event.Resume client entry fetched answer stored) = Some client
client_of (Event.Start client entry op) = Some client
client_of (Event.End client entry op outcome told seen) = Some client
client_of (Event.Finish client entry state stored) = Some client
client_of (Event.Judge client entry version state stored) = Some client
client_of (Event.Unplug client device answer) = Some client
client_of (Event.Plug client device answer) = Some client
client_of (Event.GiveBack client what) = Some client
client_of Event.Cut = None

abbrev pub is_of : ℕ → Event → Bool
is_of client event = unwrap_or (option_map (λ c. c == client) (client_of event)) false

-- The last event of a client in the boot that runs.
abbrev pub last_of_after : ℕ → Event → Option Event → Option Event
last_of_after client event before = if is_boot event then None else (if is_of client event then Some event else before)

abbrev pub last_of : ℕ → List Event → Option Event
last_of client [] = None
last_of client (event ∷ past) = last_of_after client event (last_of client past)

-- The event finishes the entry.
abbrev pub finishes : ℕ → Event → Bool
finishes entry (Event.Finish client finished state stored) = finished == entry
finishes entry _ = false

-- The entry was finished in the boot that runs.
abbrev pub finished_after : ℕ → Event → Bool → Bool
finished_after entry event before = if is_boot event then false else finishes entry event || before

abbrev pub finished : ℕ → List Event → Bool
finished entry [] = false
finished entry (event ∷ past) = finished_after entry event (finished entry past)
