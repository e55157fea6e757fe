-- The exits of a resumption, over what each of its steps ensures.
use Rattle.std.proofs.Common.{◌≡◌, ℕ, ◌<◌, ◌≤◌, ◌+◌, ◌||◌, false, List, [], ◌∷◌, length, refl, ap, sym, ◌∙◌, subst, ◌⊎◌}
use Rattle.std.specs.Prelude.{Option, Some, None, IfSome, IsSome, is_some, unwrap_or, Result, Ok, Err}
use Rattle.history_keeper.specs.Keepers.{StillTold}
use Rattle.block_pool.specs.Views.{PoolCounts, SealedBytes}
use Rattle.emulated_boards.specs.Boards.{BoardState}
use Rattle.history_keeper.specs.Changes.{Suits}
use Rattle.history_keeper.specs.Signs.{KeeperSigns}
use Rattle.history_keeper.specs.declared.change.Change.{Change}
use Rattle.history_keeper.specs.declared.row.Row.{Row}
use Rattle.outer_traits.specs.Faults.{Rose}
use Rattle.release_catalogue.specs.declared.reference.ReleaseRef.{ReleaseRef}
use Rattle.update_log.proofs.Lists.{by_test}
use Rattle.update_log.proofs.RowsKept.{is_kept}
use Rattle.update_log.specs.Holding.{live_entry}
use Rattle.update_log.specs.Known.{Target, board_of, target}
use Rattle.update_log.specs.Legal.{ResumeStored}
use Rattle.update_log.specs.Pasts.{boots, is_fault, is_keeper_fault, meets_fault}
use Rattle.update_log.specs.Steps.{trace}
use Rattle.update_log.specs.Verdicts.{Case, case_of, first_refusal, is_that_release, need, on_found, on_present, present, refusals, refused_or}
use Rattle.update_log.specs.declared.answer.ResumeAnswer.{ResumeAnswer}
use Rattle.update_log.specs.declared.decision.Decision.{Decision}
use Rattle.update_log.specs.declared.decision.Stage.{Stage}
use Rattle.update_log.specs.declared.event.Event.{Event}
use Rattle.update_log.specs.declared.event.Stored.{Stored}
use Rattle.update_log.specs.declared.facts.Facts.{Facts}
use Rattle.update_log.specs.declared.refusal.FetchNote.{FetchNote}
use Rattle.update_log.specs.declared.refusal.Refusal.{Refusal}
use Rattle.daemon_core.specs.declared.claimed.Claimed.{Claimed}
use Rattle.daemon_core.specs.declared.claimed.Taken.{Taken}
use Rattle.daemon_core.specs.declared.fetched.Fetched.{Fetched}
use Rattle.daemon_core.specs.declared.hold.Ticket.{Ticket}
use Rattle.daemon_core.specs.declared.resumed.ResumeStop.{ResumeStop}
use Rattle.daemon_core.specs.declared.stop.Stop.{Stop}
use Rattle.daemon_core.specs.HouseLog.{Appended, Entered, IsHouseLog, Ready, roomier}
use Rattle.daemon_core.specs.Boards.{BoardStands}
use Rattle.daemon_core.specs.Claims.{RoomierBoard, RoomierPlaces, place_given, places_without, plugin_at}
use Rattle.daemon_core.specs.Commits.{StoredAs}
use Rattle.daemon_core.specs.Fetches.{block_count, is_payload, note_of, whole_note}
use Rattle.daemon_core.specs.House.{IsHouse}
use Rattle.daemon_core.specs.Housed.{basis_in, HouseLogView, Housed, Place, past, past_in}
use Rattle.daemon_core.specs.Keeping.{keeper_faults}
use Rattle.daemon_core.specs.PutOff.{IsAccept}
use Rattle.daemon_core.specs.Resumes.{ComesIn, IsOpenHold, IsPutOff, IsToResume, MayFail, MayResume, ResumeGave, ResumeTurned, StoppedBy, WasRefused, begun_event, blocks_in, doubt_event, failed_event, note_in, resume_verdict}
use Rattle.daemon_core.specs.Returns.{place_at}
use Rattle.daemon_core.specs.Turns.{KeeperFared, ToldBefore}
use Rattle.daemon_core.proofs.Fared.{calm-stored, counted-more, fared-quiet}
use Rattle.daemon_core.proofs.HouseLogKept.{appended-past}
use Rattle.daemon_core.proofs.Answered.{roomier-same, same-unchanged, stopped, unchanged-appended}
use Rattle.daemon_core.proofs.ClaimAnswers.{turned-after}
use Rattle.daemon_core.proofs.ClaimHouse.{IsReady}
use Rattle.daemon_core.proofs.ClaimRoom.{board-itself, board-on, places-same, room-at, room-on, room-out}
use Rattle.daemon_core.proofs.CommitKept.{house-clear, house-unstored}
use Rattle.daemon_core.proofs.PuttingOff.{quiet-faults, refusal-other}
use Rattle.daemon_core.proofs.ResumeHolds.{last-names_other, last-refused_by}
use Rattle.daemon_core.proofs.ResumeKept.{Answers, change_of, house-begun, house-refused, refused-fits, resume-ready, resume-suits, resumes}
use Rattle.daemon_core.proofs.ResumeTurns.{begins, doubt-answers, resume-answers, resume-board, resume-broken, resume-live, resume-refused, resume-same_held, resume-sheet, resume-taken, resume-takes_entry, resume-within, to-resume}

-- ---- after a turn began

pub entered-may : (old mid : HouseLogView) (entry : ℕ) → Ready 16 old mid → 0 < boots (past_in old) → IsPutOff old entry → MayResume mid entry
entered-may old mid entry r n p =
    let o : IsPutOff (roomier old mid) entry = record { row = p.row; row_is = p.row_is; pending = p.pending } in
    let m : MayResume (roomier old mid) entry = record { loaded = r.loaded; runs = record { on = r.runs.on; below = r.runs.below }; booted = n; put_off = o; room = r.room } in
    subst (λ (a : HouseLogView). MayResume a entry) (sym r.same) m

comes-roomier : (old mid : HouseLogView) (entry : ℕ) (held : Option (Ticket × Fetched)) → ComesIn old entry held → ComesIn (roomier old mid) entry held
comes-roomier old mid entry None h = let w = h.1 in (h.0, record { free = w.free; event = w.event; last = w.last; refused = w.refused })
comes-roomier old mid entry (Some x) h = record { held_is = h.held_is; pending_is = h.pending_is; whole = h.whole }

pub entered-in : (old mid : HouseLogView) (entry : ℕ) (held : Option (Ticket × Fetched)) → Ready 16 old mid → ComesIn old entry held → ComesIn mid entry held
entered-in old mid entry held r h = subst (λ (a : HouseLogView). ComesIn a entry held) (sym r.same) (comes-roomier old mid entry held h)

stopped-after : (stop : Stop) (old mid new : HouseLogView) → Ready 16 old mid → StoppedBy stop mid new → StoppedBy stop old new
stopped-after Stop.Off old mid new r t = turned-after {A = Unit {0}} 0 16 (λ u. Event.Cut) (Err Stop.Off) old mid new r t
stopped-after Stop.NoMemory old mid new r t = turned-after {A = Unit {0}} 0 16 (λ u. Event.Cut) (Err Stop.NoMemory) old mid new r t

-- What came of the turn since, came of all of it.
pub resumed-after : (entry : ℕ) (said : Option FetchNote) (result : Result Claimed ResumeStop) (old mid new : HouseLogView) → Ready 16 old mid → ResumeTurned entry said result mid new → ResumeTurned entry said result old new
resumed-after entry said (Ok (Claimed.Taken taken)) old mid new r t =
    (r.runs, unchanged-appended 0 (Event.Resume 0 entry said ResumeAnswer.Begun Stored.Yes) old mid new (roomier-same old mid r.same) t.1)
resumed-after entry said (Ok (Claimed.Kept kept state)) old mid new r t = absurd t
resumed-after entry said (Ok (Claimed.Refused refusal)) old mid new r t =
    (r.runs, (t.1.0, t.1.1, unchanged-appended 0 (Event.Resume 0 entry said (ResumeAnswer.Refused refusal) t.1.0) old mid new (roomier-same old mid r.same) t.1.2))
resumed-after entry said (Err x) old mid new r t = stopped-after x.stop old mid new r t

pub entered-stopped : (stop : Stop) (old new : HouseLogView) → Entered {A = Unit {0}} 0 16 (Err stop) old new → StoppedBy stop old new
entered-stopped Stop.Off old new e = stopped (Unit {0}) {B = Unit {0}} 0 16 (λ u. Event.Cut) Stop.Off old new e
entered-stopped Stop.NoMemory old new e = stopped (Unit {0}) {B = Unit {0}} 0 16 (λ u. Event.Cut) Stop.NoMemory old new e

-- Over a house log that is the same.
pub resumed-over : (entry : ℕ) (said : Option FetchNote) (result : Result Claimed ResumeStop) (a b new : HouseLogView) → a ≡ b → ResumeTurned entry said result a new → ResumeTurned entry said result b new
resumed-over entry said result a b new e t = subst (λ (x : HouseLogView). ResumeTurned entry said result x new) e t

-- ---- what became of the boards and the blocks

pub gave-after : {K : Type 0} (entry : ℕ) (held : Option (Ticket × Fetched)) (result : Result Claimed ResumeStop) (old mid new : Housed K) → RoomierPlaces old.places mid.places → mid.pool ≡ old.pool → ResumeGave entry held result mid new → ResumeGave entry held result old new
gave-after entry held (Ok (Claimed.Taken taken)) old mid new r p g =
    let n = g.3.0 in (
      g.0,
      g.1,
      g.2 ∙ p,
      (n, g.3.1, room-on (places_without old.places n) (places_without mid.places n) new.places (room-out old.places mid.places n r) g.3.2, board-on (place_at old.places n).board (place_at mid.places n).board (Some taken.board) (room-at old.places mid.places n r) g.3.3),
    )
gave-after entry held (Ok (Claimed.Kept kept state)) old mid new r p g = absurd g
gave-after entry held (Ok (Claimed.Refused refusal)) old mid new r p g = (g.0 ∙ ap (λ (x : PoolCounts). x.free + blocks_in held) p, room-on old.places mid.places new.places r g.1)
gave-after entry held (Err x) old mid new r p g = (g.0 ∙ p, room-on old.places mid.places new.places r g.1, g.2)

-- ---- a resumption that fails

stored-other : (refusal : Refusal) (stored : Stored) → is_keeper_fault refusal ≡ false → (stored ≡ Stored.Yes) ⊎ (stored ≡ Stored.Fault) → ResumeStored (ResumeAnswer.Refused refusal) stored
stored-other Refusal.KeeperFault stored f s = cc
stored-other _ stored f s = s

pub fail-answers : (a : HouseLogView) (entry : ℕ) (held : Option (Ticket × Fetched)) (refusal : Refusal) (stored : Stored) → MayFail a entry held refusal → (stored ≡ Stored.Yes) ⊎ (stored ≡ Stored.Fault) → Answers a entry (note_in held) (ResumeAnswer.Refused refusal) stored
fail-answers a entry held refusal stored m s = record { fetched = m.fetched; stored_is = stored-other refusal stored m.other s }

-- That it may, over the house log inside.
pub record Failing (a : HouseLogView) (entry : ℕ) (held : Option (Ticket × Fetched)) (refusal : Refusal) : Type 0 where
  pub may : MayResume a entry
  pub fails : MayFail a entry held refusal

pub failing : (a b : HouseLogView) (entry : ℕ) (held : Option (Ticket × Fetched)) (refusal : Refusal) → a ≡ b → MayResume b entry → MayFail b entry held refusal → Failing a entry held refusal
failing a b entry held refusal e m f = subst (λ (x : HouseLogView). Failing x entry held refusal) (sym e) (record { may = m; fails = f })

pub fail-clear : {K : Type 0} (signs : KeeperSigns K) (entry : ℕ) (h : Housed K) → IsHouse signs h → IsHouseLog h.house_log → MayResume h.house_log entry → signs.doubt h.keeper ≡ None
fail-clear signs entry h w k m = (house-clear signs h w k m.loaded m.runs.on).doubt_is

pub fail-suits : {K : Type 0} (signs : KeeperSigns K) (entry : ℕ) (answer : ResumeAnswer) (change : Change) (h : Housed K) → IsHouse signs h → IsHouseLog h.house_log → MayResume h.house_log entry → change ≡ change_of h.house_log entry answer → (all : List Row) → signs.tells h.keeper all → Suits change all
fail-suits signs entry answer change h w k m e = subst (λ (c : Change). (all : List Row) → signs.tells h.keeper all → Suits c all) (sym e) (resume-suits signs entry answer h w k m)

pub fail-ready : (a : HouseLogView) (entry : ℕ) (held : Option (Ticket × Fetched)) (said : Option FetchNote) (refusal : Refusal) (stored : Stored) (event : Event) → IsHouseLog a → Failing a entry held refusal → (stored ≡ Stored.Yes) ⊎ (stored ≡ Stored.Fault) → said ≡ note_in held → event ≡ failed_event entry said refusal stored → IsReady a event
fail-ready a entry held said refusal stored event k f s n e =
    subst (λ (x : Event). IsReady a x) (sym (e ∙ ap (λ (x : Option FetchNote). failed_event entry x refusal stored) n))
    (resume-ready a entry (note_in held) (ResumeAnswer.Refused refusal) stored k f.may (fail-answers a entry held refusal stored f.fails s))

fail-appended : (a new : HouseLogView) (entry : ℕ) (held : Option (Ticket × Fetched)) (said : Option FetchNote) (refusal : Refusal) (stored : Stored) (event : Event) → said ≡ note_in held → event ≡ failed_event entry said refusal stored → Appended 0 event a new → Appended 0 (resumes entry (note_in held) (ResumeAnswer.Refused refusal) stored) a new
fail-appended a new entry held said refusal stored event n e p = subst (λ (x : Event). Appended 0 x a new) (e ∙ ap (λ (x : Option FetchNote). failed_event entry x refusal stored) n) p

pub fail-fits : {K : Type 0} (signs : KeeperSigns K) (entry : ℕ) (held : Option (Ticket × Fetched)) (refusal : Refusal) (h : Housed K) → IsHouse signs h → IsHouseLog h.house_log → Failing h.house_log entry held refusal → h.pool.free + blocks_in held ≤ h.pool.capacity
fail-fits signs entry held refusal h w k f = refused-fits signs held h w k f.fails.hold_is

pub house-failed : {K : Type 0} (signs : KeeperSigns K) (entry : ℕ) (held : Option (Ticket × Fetched)) (said : Option FetchNote) (refusal : Refusal) (stored : Stored) (change : Change) (event : Event) (h : Housed K) (new : HouseLogView) (pool : PoolCounts) (keeper : K) → IsHouse signs h → IsHouseLog h.house_log → IsHouseLog new → Failing h.house_log entry held refusal
    → said ≡ note_in held → event ≡ failed_event entry said refusal stored → Appended 0 event h.house_log new → change ≡ change_of h.house_log entry (ResumeAnswer.Refused refusal) → StoredAs change stored (signs.tells h.keeper) (signs.tells keeper) (signs.doubt keeper)
    → pool.capacity ≡ h.pool.capacity → pool.free ≡ h.pool.free + blocks_in held → IsHouse signs (record { house_log = new; places = h.places; pool = pool; keeper = keeper })
house-failed signs entry held said refusal stored change event h new pool keeper w k k' f n e p c s cap free =
    house-refused signs entry held (note_in held) refusal stored h new pool keeper w k k'
    (fail-appended h.house_log new entry held said refusal stored event n e p) f.may f.fails.hold_is
    (subst (λ (x : Change). StoredAs x stored (signs.tells h.keeper) (signs.tells keeper) (signs.doubt keeper)) c s) cap free

pub turn-failed : (a b new : HouseLogView) (entry : ℕ) (held : Option (Ticket × Fetched)) (said : Option FetchNote) (refusal : Refusal) (stored : Stored) (event : Event) → a ≡ b → Failing a entry held refusal → (stored ≡ Stored.Yes) ⊎ (stored ≡ Stored.Fault) → said ≡ note_in held → event ≡ failed_event entry said refusal stored → Appended 0 event a new
    → ResumeTurned entry (note_in held) (Ok (Claimed.Refused refusal)) b new
turn-failed a b new entry held said refusal stored event same f s n e p =
    resumed-over entry (note_in held) (Ok (Claimed.Refused refusal)) a b new same
    (f.may.runs, (stored, stored-other refusal stored f.fails.other s, fail-appended a new entry held said refusal stored event n e p))

-- Where the keeper wanted memory, nothing changed.
pub house-left : {K : Type 0} (signs : KeeperSigns K) (entry : ℕ) (h : Housed K) (keeper : K) → IsHouse signs h → IsHouseLog h.house_log → MayResume h.house_log entry → StillTold (signs.tells h.keeper) (signs.tells keeper) × (signs.doubt keeper ≡ None) → IsHouse signs (record h { keeper = keeper })
house-left signs entry h keeper w k m c = house-unstored signs h h.house_log keeper refl w k m.loaded m.runs.on c

pub left-as : (change : Change) (stored : Stored) (old new : List Row → Type 0) (left : Option Change) → stored ≡ Stored.NoMemory → StoredAs change stored old new left → StillTold old new × (left ≡ None)
left-as change stored old new left e s = subst (λ (x : Stored). StoredAs change x old new left) e s

pub turn-left : (a b : HouseLogView) (entry : ℕ) (said : Option FetchNote) (held : Option (Ticket × Fetched)) → a ≡ b → MayResume b entry → ResumeTurned entry said (Err (record { stop = Stop.NoMemory; held = held })) b a
turn-left a b entry said held e m = (m.runs.on, same-unchanged b a e)

-- A resumption that was refused for another cause met a fault exactly where it stored one.
pub other-met : (refusal : Refusal) (stored : Stored) → is_keeper_fault refusal ≡ false → (is_keeper_fault refusal || is_fault stored) ≡ is_fault stored
other-met refusal stored f = rw f refl

pub faults-resumed : {K : Type 0} (signs : KeeperSigns K) (entry : ℕ) (said : Option FetchNote) (answer : ResumeAnswer) (stored : Stored) (event : Event) (old new : Housed K) → event ≡ resumes entry said answer stored → meets_fault (resumes entry said answer stored) ≡ is_fault stored → Appended 0 event old.house_log new.house_log
    → (stored ≡ Stored.Fault → Rose (signs.faults old.keeper) (signs.faults new.keeper)) → (stored ≡ Stored.Fault) ⊎ (signs.faults new.keeper ≡ signs.faults old.keeper) → ToldBefore signs.tells old.keeper new.keeper → KeeperFared signs old new
faults-resumed signs entry said answer Stored.Yes event old new e m p r q t =
    fared-quiet signs old new (quiet-faults 0 event old.house_log new.house_log p (ap meets_fault e ∙ m)) (calm-stored Stored.Yes refl q) t
faults-resumed signs entry said answer Stored.Fault event old new e m p r q t =
    let more : keeper_faults (past new) ≡ keeper_faults (past old) + 1 =
    ap keeper_faults (appended-past 0 event old.house_log new.house_log p ∙ ap (λ (x : Event). x ∷ past old) e) ∙ rw m refl in
    counted-more signs old new more (r refl) t
faults-resumed signs entry said answer Stored.NoMemory event old new e m p r q t =
    fared-quiet signs old new (quiet-faults 0 event old.house_log new.house_log p (ap meets_fault e ∙ m)) (calm-stored Stored.NoMemory refl q) t
faults-resumed signs entry said answer Stored.Unchanged event old new e m p r q t =
    fared-quiet signs old new (quiet-faults 0 event old.house_log new.house_log p (ap meets_fault e ∙ m)) (calm-stored Stored.Unchanged refl q) t

-- ---- which refusals there are

-- The ask's refusal may be answered again.
pub repeat-fails : (a : HouseLogView) (entry : ℕ) (refusal : Refusal) → IsHouseLog a → WasRefused a entry refusal → MayFail a entry None refusal
repeat-fails a entry refusal k w =
    record {
      hold_is = w.free.hold;
      fetched = (w.event, w.last, w.refused);
      other = last-names_other (basis_in a) a.first (past_in a) w.event k.legal w.last refusal (last-refused_by (past_in a) entry refusal w.event w.last w.refused);
    }

-- That which was decided.
pub verdict-fails : (a : HouseLogView) (entry : ℕ) (ticket : Ticket) (fetched : Fetched) (refusal : Refusal) → IsOpenHold a entry ticket fetched → resume_verdict a entry ticket ≡ Decision.Refused refusal → MayFail a entry (Some (ticket, fetched)) refusal
verdict-fails a entry ticket fetched refusal o d =
    record {
      hold_is = o.held_is;
      fetched = resume-refused a entry ticket (note_of fetched) refusal (block_count fetched) o.held_is o.pending_is d;
      other = refusal-other (case_of (basis_in a) (past_in a) 0 ticket.request (Stage.Resume entry ticket.release)) refusal d;
    }

-- A payload that isn't whole.
pub broken-fails : (a : HouseLogView) (entry : ℕ) (ticket : Ticket) (fetched : Fetched) (said : FetchNote) → IsOpenHold a entry ticket fetched → IsAccept (resume_verdict a entry ticket) → is_payload fetched ≡ false → said ≡ note_of fetched → MayFail a entry (Some (ticket, fetched)) (Refusal.Payload said)
broken-fails a entry ticket fetched said o w b n =
    subst (λ (x : FetchNote). MayFail a entry (Some (ticket, fetched)) (Refusal.Payload x)) (sym n)
    (record {
      hold_is = o.held_is;
      fetched = resume-broken a entry ticket fetched (block_count fetched) o.held_is o.pending_is w b;
      other = refl;
    })

-- A row that is put off is never answered by its tag.
found-not_kept : (c : Case) (o : Option Target) → is_kept (on_found c o) ≡ false
found-not_kept c None = refl
found-not_kept c (Some t) =
    by_test (is_that_release c t.chosen) _
    (λ b. rw b (refused-not_kept (first_refusal (refusals c t)) t.place (need t) t.chosen.at))
    (λ b. rw b refl)
  where
    refused-not_kept : (o : Option Refusal) (place needed : ℕ) (release : ReleaseRef) → is_kept (refused_or o (Decision.Accept place release needed)) ≡ false
    refused-not_kept None place needed release = refl
    refused-not_kept (Some refusal) place needed release = refl

present-not_kept : (c : Case) (o : Option ℕ) → is_kept (on_present c o) ≡ false
present-not_kept c None = refl
present-not_kept c (Some at) = found-not_kept c (target c.facts c.views c.request)

pub never-kept : (a : HouseLogView) (entry : ℕ) (ticket : Ticket) → is_kept (resume_verdict a entry ticket) ≡ false
never-kept a entry ticket =
    let c : Case = case_of (basis_in a) (past_in a) 0 ticket.request (Stage.Resume entry ticket.release) in
    present-not_kept c (present c)

-- ---- a resumption that takes its entry

-- It begins, over the house log inside.
pub resuming : (a b : HouseLogView) (entry : ℕ) (ticket : Ticket) (payload : SealedBytes) (number : ℕ) → a ≡ b → IsToResume b entry ticket payload number → IsToResume a entry ticket payload number
resuming a b entry ticket payload number e s = subst (λ (x : HouseLogView). IsToResume x entry ticket payload number) (sym e) s

pub begin-event : (entry : ℕ) (payload : SealedBytes) (said : FetchNote) (event : Event) → event ≡ begun_event entry said → said ≡ whole_note payload → event ≡ begins entry payload
begin-event entry payload said event e n = e ∙ ap (λ (x : FetchNote). begun_event entry x) n

abbrev pub doubts : ℕ → SealedBytes → Event
doubts entry payload = resumes entry (Some (whole_note payload)) (ResumeAnswer.Refused Refusal.KeeperFault) Stored.Fault

pub doubtful-event : (entry : ℕ) (payload : SealedBytes) (said : FetchNote) (event : Event) → event ≡ doubt_event entry said → said ≡ whole_note payload → event ≡ doubts entry payload
doubtful-event entry payload said event e n = e ∙ ap (λ (x : FetchNote). doubt_event entry x) n

pub begin-ready : (a : HouseLogView) (entry : ℕ) (ticket : Ticket) (payload : SealedBytes) (number : ℕ) (event : Event) → IsHouseLog a → IsToResume a entry ticket payload number → event ≡ begins entry payload → IsReady a event
begin-ready a entry ticket payload number event k s e =
    subst (λ (x : Event). IsReady a x) (sym e)
    (resume-ready a entry (Some (whole_note payload)) ResumeAnswer.Begun Stored.Yes k s.may (resume-answers a entry ticket payload number s))

pub doubt-ready : (a : HouseLogView) (entry : ℕ) (ticket : Ticket) (payload : SealedBytes) (number : ℕ) (event : Event) → IsHouseLog a → IsToResume a entry ticket payload number → event ≡ doubts entry payload → IsReady a event
doubt-ready a entry ticket payload number event k s e =
    subst (λ (x : Event). IsReady a x) (sym e)
    (resume-ready a entry (Some (whole_note payload)) (ResumeAnswer.Refused Refusal.KeeperFault) Stored.Fault k s.may (doubt-answers a entry ticket payload number s))

pub begin-live : (a new : HouseLogView) (entry : ℕ) (ticket : Ticket) (payload : SealedBytes) (number : ℕ) (event : Event) → IsHouseLog a → IsToResume a entry ticket payload number → event ≡ begins entry payload → Appended 0 event a new → IsSome (live_entry (past_in new) entry)
begin-live a new entry ticket payload number event k s e p =
    let q = appended-past 0 event a new p ∙ ap (λ (x : Event). x ∷ past_in a) e in
    ap is_some (ap (λ (es : List Event). live_entry es entry) q ∙ resume-live a entry payload k s.may)

pub begin-sheet : (a new : HouseLogView) (entry : ℕ) (ticket : Ticket) (payload : SealedBytes) (number : ℕ) (event : Event) → IsToResume a entry ticket payload number → Appended 0 event a new → number < length new.facts.sheets
begin-sheet a new entry ticket payload number event s p = subst (λ (f : Facts). number < length f.sheets) (sym p.same.facts) (resume-sheet a entry ticket payload number s)

pub begin-home : {K : Type 0} (signs : KeeperSigns K) (entry : ℕ) (ticket : Ticket) (payload : SealedBytes) (number : ℕ) (h : Housed K) → IsHouse signs h → IsHouseLog h.house_log → IsToResume h.house_log entry ticket payload number → IsSome (place_at h.places number).board
begin-home signs entry ticket payload number h w k s = let b = resume-board signs entry ticket payload number h w k s in ap is_some b.1

pub house-took : {K : Type 0} (signs : KeeperSigns K) (entry : ℕ) (ticket : Ticket) (payload : SealedBytes) (number : ℕ) (change : Change) (event : Event) (h : Housed K) (new : HouseLogView) (keeper : K) (places : List Place) → IsHouse signs h → IsHouseLog h.house_log → IsHouseLog new → IsToResume h.house_log entry ticket payload number
    → event ≡ begins entry payload → Appended 0 event h.house_log new → change ≡ change_of h.house_log entry ResumeAnswer.Begun → StoredAs change Stored.Yes (signs.tells h.keeper) (signs.tells keeper) (signs.doubt keeper) → places ≡ places_without h.places number
    → IsHouse signs (record { house_log = new; places = places; pool = h.pool; keeper = keeper })
house-took signs entry ticket payload number change event h new keeper places w k k' s e p c m q =
    subst (λ (ps : List Place). IsHouse signs (record { house_log = new; places = ps; pool = h.pool; keeper = keeper })) (sym q)
    (house-begun signs entry number (Some (whole_note payload)) h new keeper w k k'
    (subst (λ (x : Event). Appended 0 x h.house_log new) e p) s.may
    (subst (λ (x : Change). StoredAs x Stored.Yes (signs.tells h.keeper) (signs.tells keeper) (signs.doubt keeper)) c m)
    (resume-takes_entry h.house_log entry ticket payload number k s) (resume-within signs entry ticket payload number h w s)
    (resume-same_held h.house_log entry ticket payload k s.hold_is))

pub house-doubts : {K : Type 0} (signs : KeeperSigns K) (entry : ℕ) (ticket : Ticket) (payload : SealedBytes) (number : ℕ) (change : Change) (event : Event) (h : Housed K) (new : HouseLogView) (pool : PoolCounts) (keeper : K) → IsHouse signs h → IsHouseLog h.house_log → IsHouseLog new → IsToResume h.house_log entry ticket payload number
    → event ≡ doubts entry payload → Appended 0 event h.house_log new → change ≡ change_of h.house_log entry ResumeAnswer.Begun → StoredAs change Stored.Fault (signs.tells h.keeper) (signs.tells keeper) (signs.doubt keeper) → pool.capacity ≡ h.pool.capacity → pool.free ≡ h.pool.free + payload.count
    → IsHouse signs (record { house_log = new; places = h.places; pool = pool; keeper = keeper })
house-doubts signs entry ticket payload number change event h new pool keeper w k k' s e p c m cap free =
    house-refused signs entry (Some (ticket, Fetched.Whole payload)) (Some (whole_note payload)) Refusal.KeeperFault Stored.Fault h new pool keeper w k k'
    (subst (λ (x : Event). Appended 0 x h.house_log new) e p) s.may s.hold_is.held_is
    (subst (λ (x : Change). StoredAs x Stored.Fault (signs.tells h.keeper) (signs.tells keeper) (signs.doubt keeper)) c m) cap free

pub doubt-fits : {K : Type 0} (signs : KeeperSigns K) (entry : ℕ) (ticket : Ticket) (payload : SealedBytes) (number : ℕ) (h : Housed K) → IsHouse signs h → IsHouseLog h.house_log → IsToResume h.house_log entry ticket payload number → h.pool.free + payload.count ≤ h.pool.capacity
doubt-fits signs entry ticket payload number h w k s = refused-fits signs (Some (ticket, Fetched.Whole payload)) h w k s.hold_is.held_is

pub turn-took : (a b new : HouseLogView) (entry : ℕ) (payload : SealedBytes) (taken : Taken) (event : Event) → a ≡ b → MayResume a entry → event ≡ begins entry payload → Appended 0 event a new → ResumeTurned entry (Some (whole_note payload)) (Ok (Claimed.Taken taken)) b new
turn-took a b new entry payload taken event same m e p =
    resumed-over entry (Some (whole_note payload)) (Ok (Claimed.Taken taken)) a b new same (m.runs, subst (λ (x : Event). Appended 0 x a new) e p)

pub turn-doubts : (a b new : HouseLogView) (entry : ℕ) (payload : SealedBytes) (event : Event) → a ≡ b → MayResume a entry → event ≡ doubts entry payload → Appended 0 event a new → ResumeTurned entry (Some (whole_note payload)) (Ok (Claimed.Refused Refusal.KeeperFault)) b new
turn-doubts a b new entry payload event same m e p =
    resumed-over entry (Some (whole_note payload)) (Ok (Claimed.Refused Refusal.KeeperFault)) a b new same (m.runs, (Stored.Fault, refl, subst (λ (x : Event). Appended 0 x a new) e p))

-- What became of a resumption that took its entry.
pub gave-taken : {K : Type 0} (signs : KeeperSigns K) (entry : ℕ) (ticket : Ticket) (payload : SealedBytes) (number : ℕ) (taken : Taken) (event : Event) (old new : Housed K) → IsHouse signs old → IsHouseLog old.house_log → IsToResume old.house_log entry ticket payload number
    → IfSome (place_at old.places number).board (λ b. 8 ≤ b.room) → event ≡ begins entry payload → Appended 0 event old.house_log new.house_log → new.pool ≡ old.pool → new.places ≡ places_without old.places number → (place_at old.places number).board ≡ Some taken.board → taken.entry ≡ entry → taken.payload ≡ payload
    → taken.plugin ≡ place_given (unwrap_or (plugin_at new.house_log.facts number) 0) → trace (basis_in new.house_log) entry (past new) ≡ Some taken.trace
    → ResumeGave entry (Some (ticket, Fetched.Whole payload)) (Ok (Claimed.Taken taken)) old new
gave-taken signs entry ticket payload number taken event old new h k s marks ev a pool places board is same plugin traced =
    let b = resume-board signs entry ticket payload number old h k s in
    let e : Some b.0 ≡ Some taken.board = sym b.1 ∙ board in
    let own : b.0 ≡ taken.board = cc in
    let room : 8 ≤ taken.board.room = subst (λ (o : Option BoardState). IfSome o (λ x. 8 ≤ x.room)) board marks in
    let stands : BoardStands (basis_in old.house_log) old.house_log.first (past old) number taken.board [] = subst (λ (x : BoardState). BoardStands (basis_in old.house_log) old.house_log.first (past old) number x []) own b.2 in (
      is,
      (ticket, ap (λ (x : SealedBytes). Some (ticket, Fetched.Whole x)) (sym same)),
      pool,
      (number, resume-taken old.house_log new.house_log entry ticket payload number taken k s (subst (λ (x : Event). Appended 0 x old.house_log new.house_log) ev a) stands room is same plugin traced, places-same (places_without old.places number) new.places places, subst (λ (o : Option BoardState). RoomierBoard o (Some taken.board)) (sym board) (board-itself (Some taken.board))),
    )

-- ---- a resumption whose begin isn't stored yet

-- The place of its board, which is home.
pub record ResumePlan {K : Type 0} (h : Housed K) (entry : ℕ) (ticket : Ticket) (payload : SealedBytes) (number : ℕ) : Type 0 where
  pub within : number < length h.places
  pub home : IsSome (place_at h.places number).board
  pub begins_so : IsToResume h.house_log entry ticket payload number

-- What holds of a house that is to be resumed.
pub record IsAboutTo {K : Type 0} (h : Housed K) (entry : ℕ) (ticket : Ticket) (payload : SealedBytes) : Type 0 where
  pub may : MayResume h.house_log entry
  pub held : IsOpenHold h.house_log entry ticket (Fetched.Whole payload)
  pub accepted : IsAccept (resume_verdict h.house_log entry ticket)

pub resume-plan : {K : Type 0} (signs : KeeperSigns K) (entry : ℕ) (ticket : Ticket) (payload : SealedBytes) (number : ℕ) (h b : Housed K) → h ≡ b → IsHouse signs h → IsHouseLog h.house_log → IsAboutTo b entry ticket payload → number ≡ unwrap_or (board_of h.house_log.facts h.house_log.core.rows entry) 0 → ResumePlan b entry ticket payload number
resume-plan {K = K} signs entry ticket payload number h b e w k t n =
    let t' : IsAboutTo h entry ticket payload = subst (λ (x : Housed K). IsAboutTo x entry ticket payload) (sym e) t in
    let s = to-resume h.house_log entry ticket payload number t'.may k t'.held t'.accepted n in
    subst (λ (x : Housed K). ResumePlan x entry ticket payload number) e
    (record { within = resume-within signs entry ticket payload number h w s; home = begin-home signs entry ticket payload number h w k s; begins_so = s })

-- ---- an ask that was refused

-- It was, over the same house log; and what the code finds is why.
pub refused-over : (a b : HouseLogView) (entry : ℕ) (refusal : Refusal) → a ≡ b → WasRefused b entry refusal → WasRefused a entry refusal
refused-over a b entry refusal e w = subst (λ (x : HouseLogView). WasRefused x entry refusal) (sym e) w

pub found-fails : (a b : HouseLogView) (entry : ℕ) (found : Option Refusal) (refusal : Refusal) → a ≡ b → IsHouseLog a → ((refusal : Refusal) × WasRefused b entry refusal) → ((entry : ℕ) (refusal : Refusal) → WasRefused a entry refusal → found ≡ Some refusal) → found ≡ Some refusal → MayFail b entry None refusal
found-fails a b entry found refusal e k w f is =
    let w' = refused-over a b entry w.0 e w.1 in
    let s : Some w.0 ≡ Some refusal = sym (f entry w.0 w') ∙ is in
    let same : w.0 ≡ refusal = cc in
    subst (λ (x : HouseLogView). MayFail x entry None refusal) e
    (subst (λ (x : Refusal). MayFail a entry None x) same (repeat-fails a entry w.0 k w'))

pub found-some : (a b : HouseLogView) (entry : ℕ) (found : Option Refusal) → a ≡ b → ((refusal : Refusal) × WasRefused b entry refusal) → ((entry : ℕ) (refusal : Refusal) → WasRefused a entry refusal → found ≡ Some refusal) → found ≡ None → ⊥
found-some a b entry found e w f n =
    let s : None ≡ Some w.0 = sym n ∙ f entry w.0 (refused-over a b entry w.0 e w.1) in cc
