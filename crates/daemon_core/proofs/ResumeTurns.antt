-- The turn of a resumption.
use Rattle.std.proofs.Common.{◌≡◌, ℕ, ◌<◌, ◌≤◌, true, false, List, [], ◌∷◌, length, refl, ap, sym, ◌∙◌, subst, arith, ◌⊎◌, inl, inr}
use Rattle.std.specs.Prelude.{Option, Some, None, option_and_then, unwrap_or, ◌==◌}
use Rattle.std.proofs.lemmas.Bool.{eqb-true}
use Rattle.std.proofs.lemmas.Option.{slice_get_within}
use Rattle.block_pool.specs.Views.{SealedBytes}
use Rattle.emulated_boards.specs.Boards.{BoardState}
use Rattle.fw_facts.specs.declared.release.Release.{Release}
use Rattle.fw_facts.specs.declared.seen.Seen.{Seen}
use Rattle.history_keeper.specs.declared.row.Row.{Row}
use Rattle.history_keeper.specs.declared.row.RowState.{RowState}
use Rattle.history_keeper.specs.Signs.{KeeperSigns}
use Rattle.update_log.proofs.LegalOnce.{live-others}
use Rattle.update_log.proofs.Lists.{All-find, All-map, eqb-other, eqb-self, find-passes, find-push_new}
use Rattle.update_log.proofs.RowsKept.{board-fixed, goes_on-fixed}
use Rattle.update_log.specs.Boards.{board_with}
use Rattle.update_log.specs.Holding.{blocks_of, held, hold, is_live, live, live_entry, open_steps, step_open}
use Rattle.update_log.specs.Known.{basis_of, board_of, row_of, rows, target, views}
use Rattle.update_log.specs.Legal.{ResumeAnswered, ResumeFetched}
use Rattle.update_log.specs.Once.{is_pending}
use Rattle.update_log.specs.Steps.{first_trace, trace}
use Rattle.update_log.specs.declared.answer.ResumeAnswer.{ResumeAnswer}
use Rattle.update_log.specs.declared.decision.Decision.{Decision}
use Rattle.update_log.specs.declared.event.Event.{Event}
use Rattle.update_log.specs.declared.event.Stored.{Stored}
use Rattle.update_log.specs.declared.facts.Facts.{Facts}
use Rattle.update_log.specs.declared.live.LiveEntry.{LiveEntry}
use Rattle.update_log.specs.declared.live.OpenStep.{OpenStep}
use Rattle.update_log.specs.declared.refusal.FetchNote.{FetchNote}
use Rattle.update_log.specs.declared.refusal.Refusal.{Refusal}
use Rattle.update_log.specs.declared.trace.Trace.{Trace}
use Rattle.daemon_core.specs.declared.claimed.Taken.{Taken}
use Rattle.daemon_core.specs.declared.fetched.Fetched.{Fetched}
use Rattle.daemon_core.specs.declared.hold.Ticket.{Ticket}
use Rattle.daemon_core.specs.HouseLog.{Appended, IsHouseLog}
use Rattle.daemon_core.specs.Boards.{BoardStands}
use Rattle.daemon_core.specs.Claims.{DeviceHome, IsTaken, place_given, plugin_at}
use Rattle.daemon_core.specs.Fetches.{IsPayloadOf, is_payload, note_of, whole_note}
use Rattle.daemon_core.specs.Holds.{held_by}
use Rattle.daemon_core.specs.House.{IsHouse}
use Rattle.daemon_core.specs.Housed.{basis_in, campaign_in, HouseLogView, Housed, past, past_in, rows_before}
use Rattle.daemon_core.specs.PutOff.{IsAccept}
use Rattle.daemon_core.specs.Resumes.{IsOpenHold, IsToResume, MayResume, resume_verdict}
use Rattle.daemon_core.specs.Returns.{ComesHome, place_at}
use Rattle.daemon_core.proofs.HouseLogKept.{appended-before, appended-past}
use Rattle.daemon_core.proofs.Asking.{release-same}
use Rattle.daemon_core.proofs.BoardsQuiet.{goes-so, kept-so}
use Rattle.daemon_core.proofs.ClaimAlone.{on-board}
use Rattle.daemon_core.proofs.ClaimEnds.{place-found}
use Rattle.daemon_core.proofs.ClaimKept.{hold-sized}
use Rattle.daemon_core.proofs.ClaimOpen.{found-live, open-live}
use Rattle.daemon_core.proofs.ClaimRoom.{home-board}
use Rattle.daemon_core.proofs.ClaimTaking.{Takes, home-tail, takes-stands}
use Rattle.daemon_core.proofs.ClaimTurns.{claim-served, broken-fetched, find-nothing}
use Rattle.daemon_core.proofs.Held.{held-resumed}
use Rattle.daemon_core.proofs.HeldOnce.{out-once}
use Rattle.daemon_core.proofs.ResumeAccepted.{resumable, resumed-home, whole-resumed}
use Rattle.daemon_core.proofs.ResumeHolds.{hold-device}
use Rattle.update_log.proofs.HoldsMade.{row-within}
use Rattle.daemon_core.proofs.ResumeKept.{Answers, resume-legal, resumes}

-- ---- what may be answered

fetched-so : (a : HouseLogView) (entry : ℕ) (ticket : Ticket) (note : FetchNote) (answer : ResumeAnswer) (blocks : ℕ) → hold (past_in a) 0 ≡ Some (held_by ticket blocks) → ticket.pending ≡ Some entry
    → ResumeAnswered note (target a.facts (views (basis_in a) (past_in a)) ticket.request) (resume_verdict a entry ticket) answer → ResumeFetched (basis_in a) (past_in a) entry (Some note) answer
fetched-so a entry ticket note answer blocks h p w = (held_by ticket blocks, h, p, w)

-- One that isn't accepted is answered what was decided.
pub resume-refused : (a : HouseLogView) (entry : ℕ) (ticket : Ticket) (note : FetchNote) (refusal : Refusal) (blocks : ℕ) → hold (past_in a) 0 ≡ Some (held_by ticket blocks) → ticket.pending ≡ Some entry → resume_verdict a entry ticket ≡ Decision.Refused refusal
    → ResumeFetched (basis_in a) (past_in a) entry (Some note) (ResumeAnswer.Refused refusal)
resume-refused a entry ticket note refusal blocks h p e =
    fetched-so a entry ticket note (ResumeAnswer.Refused refusal) blocks h p
    (subst (λ (d : Decision). ResumeAnswered note (target a.facts (views (basis_in a) (past_in a)) ticket.request) d (ResumeAnswer.Refused refusal)) (sym e) refl)

-- One whose payload isn't whole is answered that.
pub resume-broken : (a : HouseLogView) (entry : ℕ) (ticket : Ticket) (fetched : Fetched) (blocks : ℕ) → hold (past_in a) 0 ≡ Some (held_by ticket blocks) → ticket.pending ≡ Some entry → IsAccept (resume_verdict a entry ticket) → is_payload fetched ≡ false
    → ResumeFetched (basis_in a) (past_in a) entry (Some (note_of fetched)) (ResumeAnswer.Refused (Refusal.Payload (note_of fetched)))
resume-broken a entry ticket fetched blocks h p w b =
    let f = broken-fetched fetched (target a.facts (views (basis_in a) (past_in a)) ticket.request) b in
    fetched-so a entry ticket (note_of fetched) (ResumeAnswer.Refused (Refusal.Payload (note_of fetched))) blocks h p
    (subst (λ (d : Decision). ResumeAnswered (note_of fetched) (target a.facts (views (basis_in a) (past_in a)) ticket.request) d (ResumeAnswer.Refused (Refusal.Payload (note_of fetched)))) (sym w.3) (rw f refl))

-- One whose payload is, is begun, or the keeper failed.
pub resume-whole : (a : HouseLogView) (entry : ℕ) (ticket : Ticket) (payload : SealedBytes) (answer : ResumeAnswer) → IsOpenHold a entry ticket (Fetched.Whole payload) → IsAccept (resume_verdict a entry ticket)
    → (answer ≡ ResumeAnswer.Begun) ⊎ (answer ≡ ResumeAnswer.Refused Refusal.KeeperFault) → ResumeFetched (basis_in a) (past_in a) entry (Some (whole_note payload)) answer
resume-whole a entry ticket payload answer o w e =
    let k = resumable (basis_in a) (past_in a) entry ticket.request ticket.release w in
    let f = whole-resumed (basis_in a) (past_in a) ticket.request ticket.release k.0 payload k.1 o.whole in
    fetched-so a entry ticket (whole_note payload) answer payload.count o.held_is o.pending_is
    (subst (λ (d : Decision). ResumeAnswered (whole_note payload) (target a.facts (views (basis_in a) (past_in a)) ticket.request) d answer) (sym w.3) (rw f e))

-- ---- the board

-- The device of the row's hold is home.
pub to-resume : (a : HouseLogView) (entry : ℕ) (ticket : Ticket) (payload : SealedBytes) (number : ℕ) (m : MayResume a entry) → IsHouseLog a → IsOpenHold a entry ticket (Fetched.Whole payload) → IsAccept (resume_verdict a entry ticket) → number ≡ unwrap_or (board_of a.facts a.core.rows entry) 0 → IsToResume a entry ticket payload number
to-resume a entry ticket payload number m k o w n =
    let row : Row = m.put_off.row in
    let found : row_of (rows (basis_in a) (past_in a)) entry ≡ Some row = subst (λ (x : List Row). row_of x entry ≡ Some row) k.stands.rows m.put_off.row_is in
    let d = hold-device (basis_in a) a.first (past_in a) entry (held_by ticket payload.count) row k.stands.history k.legal o.held_is o.pending_is found in
    let r = resumable (basis_in a) (past_in a) entry ticket.request ticket.release w in
    let h = resumed-home (basis_in a) (past_in a) ticket.request ticket.release r.0 row.device r.1 d in
    let own : board_of a.facts a.core.rows entry ≡ Some h.0 = ap (option_and_then (λ (x : Row). board_with a.facts x.device)) m.put_off.row_is ∙ h.1.board_is in
    let num : h.0 ≡ number = sym (n ∙ ap (λ (x : Option ℕ). unwrap_or x 0) own) in
    record { may = m; hold_is = o; accepted = w; board = subst (λ (x : ℕ). DeviceHome (basis_in a) (past_in a) row.device x) num h.1 }

-- Its number is a place.
pub resume-sheet : (a : HouseLogView) (entry : ℕ) (ticket : Ticket) (payload : SealedBytes) (number : ℕ) → IsToResume a entry ticket payload number → number < length a.facts.sheets
resume-sheet a entry ticket payload number s =
    let on = on-board a.facts s.may.put_off.row.device number s.board.board_is in
    slice_get_within a.facts.sheets number on.board.sheet on.sheet

pub resume-within : {K : Type 0} (signs : KeeperSigns K) (entry : ℕ) (ticket : Ticket) (payload : SealedBytes) (number : ℕ) (h : Housed K) → IsHouse signs h → IsToResume h.house_log entry ticket payload number → number < length h.places
resume-within signs entry ticket payload number h w s =
    let within = resume-sheet h.house_log entry ticket payload number s in
    let c = w.count in omega (arith, within, c)

-- It is home, and stands with no untold mark.
pub resume-board : {K : Type 0} (signs : KeeperSigns K) (entry : ℕ) (ticket : Ticket) (payload : SealedBytes) (number : ℕ) (h : Housed K) → IsHouse signs h → IsHouseLog h.house_log → IsToResume h.house_log entry ticket payload number
    → (b : BoardState) × ((place_at h.places number).board ≡ Some b) × BoardStands (basis_in h.house_log) h.house_log.first (past h) number b []
resume-board signs entry ticket payload number h w k s =
    let within = resume-within signs entry ticket payload number h w s in
    let p = w.places number (place_at h.places number) (place-found h.places number within) in
    let b = home-board (basis_in h.house_log) h.house_log.first (past h) number (place_at h.places number).board s.board.home p.home in
    (b.0, b.1, home-tail (basis_in h.house_log) h.house_log.first (past h) number b.0 b.2.0 k.legal s.may.runs.on s.board.home b.2.1)

-- ---- the entry that is taken

abbrev pub begins : ℕ → SealedBytes → Event
begins entry payload = resumes entry (Some (whole_note payload)) ResumeAnswer.Begun Stored.Yes

-- A row that is put off isn't live.
pub not-live : (a : HouseLogView) (entry : ℕ) → IsHouseLog a → MayResume a entry → live_entry (past_in a) entry ≡ None
not-live a entry k m =
    let w = kept-so (basis_in a) a.first (past_in a) k.stands.history k.legal in
    let row : Row = m.put_off.row in
    let found : row_of (rows (basis_in a) (past_in a)) entry ≡ Some row = subst (λ (x : List Row). row_of x entry ≡ Some row) k.stands.rows m.put_off.row_is in
    let pending : is_pending row.state ≡ true = (let p : row.state ≡ RowState.Pending = m.put_off.pending in rw p refl) in
    let none = w.waiting.untaken entry row found pending in
    find-nothing (λ (l : LiveEntry). l.entry == entry) (live (past_in a))
    (All-map (λ (l : LiveEntry). (entry == l.entry) ≡ false) (λ (l : LiveEntry). (l.entry == entry) ≡ false) (live (past_in a)) (live-others (basis_in a) (past_in a) entry none w.taken.live_taken)
    (λ l h. eqb-other l.entry entry (λ e. let t : (entry == l.entry) ≡ true = subst (λ (x : ℕ). (x == l.entry) ≡ true) e (eqb-self l.entry) in let bad : true ≡ false = sym t ∙ h in cc)))

-- So none of its steps is open.
pub none-open : (a : HouseLogView) (entry : ℕ) → IsHouseLog a → MayResume a entry → step_open (past_in a) entry ≡ None
none-open a entry k m = at (step_open (past_in a) entry) refl
  where
    at : (o : Option OpenStep) → step_open (past_in a) entry ≡ o → o ≡ None
    at None e = refl
    at (Some s) e =
        let w = k.legal in
        let l : is_live (live (past_in a)) s.entry ≡ true = All-find (λ (x : OpenStep). is_live (live (past_in a)) x.entry ≡ true) (λ (x : OpenStep). x.entry == entry) (open_steps (past_in a)) s (open-live (campaign_in a w.0) (past_in a) w.1 m.runs.on) e in
        let same : s.entry ≡ entry = eqb-true s.entry entry (find-passes (λ (x : OpenStep). x.entry == entry) (open_steps (past_in a)) s e) in
        let f = found-live (live (past_in a)) entry (subst (λ (n : ℕ). is_live (live (past_in a)) n ≡ true) same l) in
        let bad : Some f.0 ≡ None = sym f.1 ∙ not-live a entry k m in cc

pub resume-answers : (a : HouseLogView) (entry : ℕ) (ticket : Ticket) (payload : SealedBytes) (number : ℕ) → IsToResume a entry ticket payload number → Answers a entry (Some (whole_note payload)) ResumeAnswer.Begun Stored.Yes
resume-answers a entry ticket payload number s = record { fetched = resume-whole a entry ticket payload ResumeAnswer.Begun s.hold_is s.accepted (inl refl); stored_is = refl }

pub doubt-answers : (a : HouseLogView) (entry : ℕ) (ticket : Ticket) (payload : SealedBytes) (number : ℕ) → IsToResume a entry ticket payload number → Answers a entry (Some (whole_note payload)) (ResumeAnswer.Refused Refusal.KeeperFault) Stored.Fault
doubt-answers a entry ticket payload number s = record { fetched = resume-whole a entry ticket payload (ResumeAnswer.Refused Refusal.KeeperFault) s.hold_is s.accepted (inr refl); stored_is = refl }

pub resume-takes_entry : (a : HouseLogView) (entry : ℕ) (ticket : Ticket) (payload : SealedBytes) (number : ℕ) → IsHouseLog a → IsToResume a entry ticket payload number → Takes (basis_in a) (past_in a) (begins entry payload) entry number
resume-takes_entry a entry ticket payload number k s =
    let legal = resume-legal a entry (Some (whole_note payload)) ResumeAnswer.Begun Stored.Yes k s.may (resume-answers a entry ticket payload number s) in
    let w = kept-so (basis_in a) a.first (past_in a) k.stands.history k.legal in
    let goes = goes-so (basis_in a) a.first (past_in a) (begins entry payload) k.stands.history legal in
    let old : List Row = rows (basis_in a) (past_in a) in
    let found : row_of old entry ≡ Some s.may.put_off.row = subst (λ (x : List Row). row_of x entry ≡ Some s.may.put_off.row) k.stands.rows s.may.put_off.row_is in
    let le = row-within old entry s.may.put_off.row w.rows_kept.valid.entries found in
    let fixed = goes_on-fixed old (rows (basis_in a) (begins entry payload ∷ past_in a)) entry goes le in
    record {
      taken = record { client = 0; entry = entry; blocks = blocks_of (length payload.bytes) };
      taken_is = refl;
      lives = refl;
      steps = refl;
      board =
          board-fixed a.facts old (rows (basis_in a) (begins entry payload ∷ past_in a)) entry fixed
          ∙ ap (option_and_then (λ (r : Row). board_with a.facts r.device)) found ∙ s.board.board_is;
      told_none = λ n. refl;
      same_tells = λ n. refl;
      faulty = λ n. refl;
      booted = refl;
    }

-- The blocks of the payload are those of the hold.
pub resume-blocks : (a : HouseLogView) (entry : ℕ) (ticket : Ticket) (payload : SealedBytes) → IsHouseLog a → IsOpenHold a entry ticket (Fetched.Whole payload) → payload.count ≡ blocks_of (length payload.bytes)
resume-blocks a entry ticket payload k o =
    let s = hold-sized (basis_in a) a.first (past_in a) 0 (held_by ticket payload.count) k.legal o.held_is in
    let p : IsPayloadOf a.facts ticket.release payload = o.whole in
    let same : s.0 ≡ p.release = release-same a.facts.catalogue ticket.release s.0 p.release s.1 p.there in
    s.2 ∙ ap (λ (r : Release). blocks_of r.size) same ∙ sym (ap blocks_of p.size_is)

pub resume-same_held : (a : HouseLogView) (entry : ℕ) (ticket : Ticket) (payload : SealedBytes) → IsHouseLog a → IsOpenHold a entry ticket (Fetched.Whole payload) → held (begins entry payload ∷ past_in a) ≡ held (past_in a)
resume-same_held a entry ticket payload k o =
    let l = k.legal in
    let t = held-resumed (past_in a) 0 entry (Some (whole_note payload)) Stored.Yes (held_by ticket payload.count) (out-once (campaign_in a l.0) (past_in a) k.stands.history l.1) o.held_is in
    let e = resume-blocks a entry ticket payload k o in
    omega (arith, t, e)

-- ---- what was taken

-- the live entry
pub resume-live : (a : HouseLogView) (entry : ℕ) (payload : SealedBytes) → IsHouseLog a → MayResume a entry → live_entry (begins entry payload ∷ past_in a) entry ≡ Some (record { client = 0; entry = entry; blocks = blocks_of (length payload.bytes) })
resume-live a entry payload k m =
    find-push_new (λ (l : LiveEntry). l.entry == entry) (live (past_in a)) (record { client = 0; entry = entry; blocks = blocks_of (length payload.bytes) }) (not-live a entry k m) (eqb-self entry)

-- its trace, which has no step
resume-traced : (a : HouseLogView) (entry : ℕ) (ticket : Ticket) (payload : SealedBytes) (number : ℕ) (t : Trace) → IsToResume a entry ticket payload number → trace (basis_in a) entry (begins entry payload ∷ past_in a) ≡ Some t → t.steps ≡ []
resume-traced a entry ticket payload number t s e =
    let k = resumable (basis_in a) (past_in a) entry ticket.request ticket.release s.accepted in
    let h : hold (past_in a) 0 ≡ Some (held_by ticket payload.count) = s.hold_is.held_is in
    let f : trace (basis_in a) entry (begins entry payload ∷ past_in a) ≡ Some (first_trace k.0) = rw (eqb-self entry, h, k.1.found) refl in
    let g : Some (first_trace k.0) ≡ Some t = sym f ∙ e in
    let same : first_trace k.0 ≡ t = cc in
    ap (λ (x : Trace). x.steps) (sym same)

-- What the taken entry is made of.
pub record IsMadeOf (a : HouseLogView) (entry : ℕ) (payload : SealedBytes) (number : ℕ) (taken : Taken) : Type 0 where
  pub room : 8 ≤ taken.board.room
  pub entry_is : taken.entry ≡ entry
  pub payload_is : taken.payload ≡ payload
  pub plugin_is : taken.plugin ≡ place_given (unwrap_or (plugin_at a.facts number) 0)
  pub traced : trace (basis_in a) entry (begins entry payload ∷ past_in a) ≡ Some taken.trace

-- over the log with the resumption
taken-there : (a : HouseLogView) (entry : ℕ) (ticket : Ticket) (payload : SealedBytes) (number : ℕ) (taken : Taken) → IsHouseLog a → IsToResume a entry ticket payload number → BoardStands (basis_in a) a.first (past_in a) number taken.board [] → IsMadeOf a entry payload number taken
    → IsTaken (basis_in a) a.first (begins entry payload ∷ past_in a) 0 taken number
taken-there a entry ticket payload number taken k s b q =
    let z = resume-takes_entry a entry ticket payload number k s in
    let l = resume-legal a entry (Some (whole_note payload)) ResumeAnswer.Begun Stored.Yes k s.may (resume-answers a entry ticket payload number s) in
    let stands : BoardStands (basis_in a) a.first (begins entry payload ∷ past_in a) number taken.board [] = takes-stands (basis_in a) a.first (past_in a) (begins entry payload) k.stands.history l entry number z taken.board [] b in
    let live : LiveEntry = record { client = 0; entry = entry; blocks = blocks_of (length payload.bytes) } in
    let comes : ComesHome (basis_in a) a.first (begins entry payload ∷ past_in a) 0 entry number live [] taken.board payload.count =
    record { live = resume-live a entry payload k s.may; client_is = refl; board = z.board; stands = stands; blocks_are = resume-blocks a entry ticket payload k s.hold_is } in
    let comes' = subst (λ (x : ℕ). ComesHome (basis_in a) a.first (begins entry payload ∷ past_in a) 0 x number live [] taken.board payload.count) (sym q.entry_is) comes in
    record {
      l = live;
      comes = subst (λ (x : SealedBytes). ComesHome (basis_in a) a.first (begins entry payload ∷ past_in a) 0 taken.entry number live [] taken.board x.count) (sym q.payload_is) comes';
      closed = ap (step_open (begins entry payload ∷ past_in a)) q.entry_is ∙ none-open a entry k s.may;
      traced = ap (λ (x : ℕ). trace (basis_in a) x (begins entry payload ∷ past_in a)) q.entry_is ∙ q.traced;
      no_steps = resume-traced a entry ticket payload number taken.trace s q.traced;
      marks = q.room;
      served = claim-served a.facts s.may.put_off.row.device number taken.plugin s.board.board_is q.plugin_is;
    }

-- over the house log with it
pub resume-taken : (a new : HouseLogView) (entry : ℕ) (ticket : Ticket) (payload : SealedBytes) (number : ℕ) (taken : Taken) → IsHouseLog a → IsToResume a entry ticket payload number → Appended 0 (begins entry payload) a new
    → BoardStands (basis_in a) a.first (past_in a) number taken.board [] → 8 ≤ taken.board.room → taken.entry ≡ entry → taken.payload ≡ payload → taken.plugin ≡ place_given (unwrap_or (plugin_at new.facts number) 0)
    → trace (basis_in new) entry (past_in new) ≡ Some taken.trace → IsTaken (basis_in new) new.first (past_in new) 0 taken number
resume-taken a new entry ticket payload number taken k s p b r e q g t =
    let past : past_in new ≡ begins entry payload ∷ past_in a = appended-past 0 (begins entry payload) a new p in
    let before : rows_before new ≡ rows_before a = appended-before 0 (begins entry payload) a new p in
    let t' : trace (basis_in a) entry (begins entry payload ∷ past_in a) ≡ Some taken.trace =
    ap (λ (es : List Event). trace (basis_in a) entry es) (sym past) ∙ ap (λ (o : List Row). trace (basis_of a.facts o) entry (past_in new)) (sym before) ∙ ap (λ (f : Facts). trace (basis_of f (rows_before new)) entry (past_in new)) (sym p.same.facts) ∙ t in
    let g' : taken.plugin ≡ place_given (unwrap_or (plugin_at a.facts number) 0) = g ∙ ap (λ (f : Facts). place_given (unwrap_or (plugin_at f number) 0)) p.same.facts in
    subst (λ (f : Facts). IsTaken (basis_of f (rows_before new)) new.first (past_in new) 0 taken number) (sym p.same.facts)
    (subst (λ (x : List Seen). IsTaken (basis_of a.facts (rows_before new)) x (past_in new) 0 taken number) (sym p.same.first)
    (subst (λ (o : List Row). IsTaken (basis_of a.facts o) a.first (past_in new) 0 taken number) (sym before)
    (subst (λ (es : List Event). IsTaken (basis_in a) a.first es 0 taken number) (sym past)
    (taken-there a entry ticket payload number taken k s b (record { room = r; entry_is = e; payload_is = q; plugin_is = g'; traced = t' })))))
