-- A log that a state follows, event by event.
use Rattle.std.proofs.Common.{◌≡◌, ℕ, ◌+◌, ◌<◌, ◌≤◌, arith, Bool, true, false, List, [], ◌∷◌, ◌++◌, length, take, drop, get_or, reverse, Option, Some, None, ◌⊎◌, inl, inr, refl, sym, ap, subst, ◌∙◌}
use Rattle.history_keeper.specs.Histories.{IsHistory}
use Rattle.outer_traits.specs.Sinks.{Took, TookFront}
use Rattle.std.proofs.lemmas.List.{length_push, length-map, reverse-append, reverse-reverse, take-append-drop, take_more, append-nil}
use Rattle.std.specs.List.{list_all}
use Rattle.std.specs.Prelude.{◌&&◌}
use Rattle.history_keeper.specs.declared.change.Change.{Change}
use Rattle.history_keeper.specs.declared.row.Row.{Row}
use Rattle.history_keeper.specs.Changes.{changed, with_state}
use Rattle.update_log.specs.declared.event.Event.{Event}
use Rattle.update_log.specs.declared.event.Found.{Found}
use Rattle.core_state.specs.Core.{Core, Stands}
use Rattle.update_log.specs.Legal.{IsNext}
use Rattle.update_log.specs.Pasts.{AllFaults, is_fault_boot, past_of}
use Rattle.update_log.specs.Known.{Basis, Fate, rows, rows_by, rows_found, views}
use Rattle.update_log.specs.Legal.{IsLegal, Legal}
use Rattle.update_log.specs.Shows.{campaign_on, Campaign}
use Rattle.client_scripts.proofs.Pieces.{newest_first}
use Rattle.update_log.proofs.Unlimited.{unlimited}
use Rattle.report_text.specs.Report.{in_turn, lines_alone, lines_in, lines_over}
use Rattle.fw_facts.specs.declared.seen.Seen.{Seen}
use Rattle.update_log.specs.declared.facts.BootPlan.{BootPlan}

-- ---- an event adds at most one row

changed-few : (change : Change) (rows : List Row) → length (changed change rows) ≤ length rows + 1
changed-few (Change.Add row) rows = omega (arith, length_push rows row)
changed-few (Change.Advance entry state reason time) rows = omega (arith, length-map rows (with_state entry state reason time))

made-few : (fate : Fate) (change : Option Change) (rows : List Row) → length (rows_by fate change rows) ≤ length rows + 1
made-few Fate.Made (Some change) rows = changed-few change rows
made-few _ _ rows = omega arith

found-few : (found : Found) (doubt : Option Change) (rows : List Row) → length (rows_found found doubt rows) ≤ length rows + 1
found-few Found.Kept (Some change) rows = changed-few change rows
found-few _ _ rows = omega arith

pub rows-few : (basis : Basis) (past : List Event) (event : Event) → length (rows basis (event ∷ past)) ≤ length (rows basis past) + 1
rows-few basis past (Event.Boot number time limit found boards) = found-few found _ (rows basis past)
rows-few basis past (Event.Claim client request fetched answer) = made-few _ _ (rows basis past)
rows-few basis past (Event.Schedule client request answer) = made-few _ _ (rows basis past)
rows-few basis past (Event.Resume client entry fetched answer stored) = made-few _ _ (rows basis past)
rows-few basis past (Event.Finish client entry state stored) = made-few _ _ (rows basis past)
rows-few basis past (Event.Judge client entry version state stored) = made-few _ _ (rows basis past)
rows-few basis past _ = omega arith

-- A state with more room stands for the same log, and takes one row more.
pub stands-roomy : (basis : Basis) (old new : Core) (room row_room : ℕ) → new ≡ (record old { room = room; row_room = row_room }) → Stands basis old → Stands basis new
stands-roomy basis old new room row_room e s =
    rw e (record { history = s.history; rows = s.rows; views = s.views; boards = s.boards; traces = s.traces; doubt = s.doubt })

pub next-roomy : (basis : Basis) (old new : Core) (room row_room : ℕ) (event copy : Event) → new ≡ (record old { room = room; row_room = row_room }) → copy ≡ event
    → IsNext basis (past_of old.log) event → IsNext basis (past_of new.log) copy
next-roomy basis old new room row_room event copy e same next = rw (e, same) next

pub row-fits : (basis : Basis) (core : Core) (event : Event) → Stands basis core → 1 ≤ core.row_room
    → length (rows basis (event ∷ past_of core.log)) ≤ length core.rows + core.row_room
row-fits basis core event s room =
    let few : length (rows basis (event ∷ past_of core.log)) ≤ length (rows basis (past_of core.log)) + 1 = rows-few basis (past_of core.log) event in
    let same : length core.rows ≡ length (rows basis (past_of core.log)) = ap (length {A = Row}) s.rows in
    omega (arith, few, same, room)

-- ---- each front of a legal log is legal

legal-before : (c : Campaign) (later past : List Event) → IsLegal c (later ++ past) → IsLegal c past
legal-before c [] past h = h
legal-before c (event ∷ later) past h = legal-before c later past h.0

pub next-legal : (basis : Basis) (log : List Event) (i : ℕ) (event : Event) (so_far : List Event) → i < length log → event ≡ get_or log i event
    → so_far ≡ take i log → ((first : List Seen) × (plans : List BootPlan) × Legal (campaign_on basis first plans) log) → IsNext basis (past_of so_far) event
next-legal basis log i event so_far lt is here legal =
    let whole : reverse log ≡ reverse (drop (i + 1) log) ++ reverse (take (i + 1) log) =
    ap (reverse {A = Event}) (sym (take-append-drop (i + 1) log)) ∙ reverse-append (take (i + 1) log) (drop (i + 1) log) in
    let front : reverse (take (i + 1) log) ≡ event ∷ reverse (take i log) = newest_first log i event lt is in
    let P : List Event → Type 0 = IsLegal (campaign_on basis legal.0 legal.1) in
    let there : P (event ∷ reverse (take i log)) = subst P front (legal-before (campaign_on basis legal.0 legal.1) (reverse (drop (i + 1) log)) (reverse (take (i + 1) log)) (subst P whole legal.2)) in
    (legal.0, legal.1, unlimited (campaign_on basis legal.0 legal.1) (event ∷ past_of so_far) (subst (λ (l : List Event). P (event ∷ reverse l)) (sym here) there))

-- ---- the lines of an event are those over the state

pub lines-stand : (basis : Basis) (core : Core) (log : List Event) (i : ℕ) (event : Event) → Stands basis core → core.log ≡ take i log
    → lines_over basis.facts core.views core.rows event ≡ lines_in basis (reverse (take i log)) event
lines-stand basis core log i event s here =
    let past : past_of core.log ≡ reverse (take i log) = ap (reverse {A = Event}) here in
    ap (λ vs. lines_over basis.facts vs core.rows event) s.views ∙ ap (λ rs. lines_over basis.facts (views basis (past_of core.log)) rs event) s.rows
    ∙ ap (λ (p : List Event). lines_in basis p event) past

pub lines-took : (basis : Basis) (core : Core) (log : List Event) (i : ℕ) (event : Event) (a b : Option (List ℕ)) → Stands basis core → core.log ≡ take i log
    → Took (lines_over basis.facts core.views core.rows event) a b → Took (lines_in basis (reverse (take i log)) event) a b
lines-took basis core log i event a b s here took =
    subst (λ (t : List ℕ). Took t a b) (lines-stand basis core log i event s here) took

pub lines-front : (basis : Basis) (core : Core) (log : List Event) (i : ℕ) (event : Event) (a b : Option (List ℕ)) → Stands basis core → core.log ≡ take i log
    → TookFront (lines_over basis.facts core.views core.rows event) a b → TookFront (lines_in basis (reverse (take i log)) event) a b
lines-front basis core log i event a b s here took =
    subst (λ (t : List ℕ). TookFront t a b) (lines-stand basis core log i event s here) took

pub follow-log : (log : List Event) (i : ℕ) (event : Event) (old new : List Event) → i < length log → event ≡ get_or log i event → old ≡ take i log → new ≡ old ++ event ∷ [] → new ≡ take (i + 1) log
follow-log log i event old new lt is before after =
    after ∙ ap (λ (l : List Event). l ++ event ∷ []) before ∙ ap (λ (e : Event). take i log ++ e ∷ []) is ∙ sym (take_more log i event lt)

-- ---- boots that couldn't read the rows

boot-lines : (basis : Basis) (past : List Event) (event : Event) → is_fault_boot event ≡ true → lines_in basis past event ≡ lines_alone basis.facts.sheets past event
boot-lines basis past (Event.Boot number time limit found boards) h = append-nil _
boot-lines basis past _ h = cc

faults-before : (later past : List Event) → AllFaults (later ++ past) → AllFaults past
faults-before [] past h = h
faults-before (event ∷ later) past h = faults-before later past h.1

faults-later : (later past : List Event) → AllFaults (later ++ past) → AllFaults later
faults-later [] past h = tt
faults-later (event ∷ later) past h = (h.0, faults-later later past h.1)

boots-lines : (basis : Basis) (past log : List Event) → AllFaults (reverse log) → in_turn (lines_in basis) past log ≡ in_turn (lines_alone basis.facts.sheets) past log
boots-lines basis past [] h = refl
boots-lines basis past (event ∷ log) h =
    let turned : reverse (event ∷ log) ≡ reverse log ++ event ∷ [] = reverse-append (event ∷ []) log in
    let parts : AllFaults (reverse log ++ event ∷ []) = subst AllFaults turned h in
    let here : is_fault_boot event ≡ true = (faults-before (reverse log) (event ∷ []) parts).0 in
    let rest : in_turn (lines_in basis) (event ∷ past) log ≡ in_turn (lines_alone basis.facts.sheets) (event ∷ past) log = boots-lines basis (event ∷ past) log (faults-later (reverse log) (event ∷ []) parts) in
    ap (λ (t : List ℕ). t ++ in_turn (lines_in basis) (event ∷ past) log) (boot-lines basis past event here)
    ∙ ap (λ (t : List ℕ). lines_alone basis.facts.sheets past event ++ t) rest

pub faults-lines : (basis : Basis) (log : List Event) → AllFaults (past_of log) → in_turn (lines_in basis) [] log ≡ in_turn (lines_alone basis.facts.sheets) [] log
faults-lines basis log h = boots-lines basis [] log h

-- ---- a test of each event says whether all are such boots

both-true : (a b : Bool) → (a && b) ≡ true → (a ≡ true) × (b ≡ true)
both-true true b h = (refl, h)
both-true false b h = cc

faults-passed : (log : List Event) → list_all is_fault_boot log ≡ true → AllFaults log
faults-passed [] h = tt
faults-passed (event ∷ log) h =
    let parts = both-true (is_fault_boot event) (list_all is_fault_boot log) h in (parts.0, faults-passed log parts.1)

faults-pass : (log : List Event) → AllFaults log → list_all is_fault_boot log ≡ true
faults-pass [] h = refl
faults-pass (event ∷ log) h = rw h.0 (faults-pass log h.1)

faults-behind : (log : List Event) (event : Event) → AllFaults log → is_fault_boot event ≡ true → AllFaults (log ++ event ∷ [])
faults-behind [] event h last = (last, tt)
faults-behind (e ∷ log) event h last = (h.0, faults-behind log event h.1 last)

faults-turned : (log : List Event) → AllFaults log → AllFaults (reverse log)
faults-turned [] h = tt
faults-turned (event ∷ log) h =
    let turned : reverse (event ∷ log) ≡ reverse log ++ event ∷ [] = reverse-append (event ∷ []) log in
    subst AllFaults (sym turned) (faults-behind (reverse log) event (faults-turned log h.1) h.0)

pub fault-boots : (log : List Event) → true ≡ list_all is_fault_boot log → AllFaults (past_of log)
fault-boots log h = faults-turned log (faults-passed log (sym h))

-- Where another event is among them, the rows are a history.
pub other-event : (rows : List Row) (log : List Event) → false ≡ list_all is_fault_boot log → IsHistory rows ⊎ AllFaults (past_of log) → IsHistory rows
other-event rows log h (inl history) = history
other-event rows log h (inr faults) =
    let passed : list_all is_fault_boot log ≡ true = faults-pass log (subst AllFaults (reverse-reverse log) (faults-turned (reverse log) faults)) in
    absurd (let e : false ≡ true = h ∙ passed in cc)
