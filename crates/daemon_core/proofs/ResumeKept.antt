-- A house after a resumption.
use Rattle.std.proofs.Common.{◌≡◌, ℕ, ◌<◌, ◌≤◌, ◌+◌, List, ◌∷◌, length, refl, ap, sym, ◌∙◌, subst, arith}
use Rattle.std.proofs.lemmas.List.{length-map}
use Rattle.std.specs.Prelude.{Option, Some, None}
use Rattle.block_pool.specs.Views.{PoolCounts}
use Rattle.daemon_core.proofs.PuttingOff.{no-doubt, suits-told}
use Rattle.history_keeper.specs.Changes.{Suits, with_state}
use Rattle.history_keeper.specs.Signs.{KeeperSigns}
use Rattle.history_keeper.specs.declared.change.Change.{Change}
use Rattle.history_keeper.specs.declared.row.Row.{Row}
use Rattle.history_keeper.specs.declared.row.RowState.{RowState}
use Rattle.update_log.proofs.Lists.{by_test}
use Rattle.core_state.specs.CoreSteps.{resumption_on}
use Rattle.update_log.specs.Holding.{held}
use Rattle.update_log.specs.Known.{Basis, Fate, doubt, doubt_by, fate_stored, reason_of, refusal_number, row_of, rows, rows_by}
use Rattle.update_log.specs.Legal.{BootTakes, ResumeAllowed, ResumeFetched, ResumeStored}
use Rattle.update_log.specs.Pasts.{is_keeper_fault, time_of}
use Rattle.update_log.specs.declared.answer.ResumeAnswer.{ResumeAnswer}
use Rattle.update_log.specs.declared.event.Event.{Event}
use Rattle.update_log.specs.declared.event.Stored.{Stored}
use Rattle.update_log.specs.declared.refusal.FetchNote.{FetchNote}
use Rattle.update_log.specs.declared.refusal.Refusal.{Refusal}
use Rattle.daemon_core.specs.declared.fetched.Fetched.{Fetched}
use Rattle.daemon_core.specs.declared.hold.Ticket.{Ticket}
use Rattle.daemon_core.specs.HouseLog.{Appended, IsAllowedSo, IsHouseLog, IsLegalSo}
use Rattle.daemon_core.specs.Claims.{places_without}
use Rattle.daemon_core.specs.Commits.{StoredAs}
use Rattle.daemon_core.specs.Fetches.{block_count}
use Rattle.daemon_core.specs.Holds.{held_by}
use Rattle.daemon_core.specs.House.{IsHouse}
use Rattle.daemon_core.specs.Housed.{basis_in, campaign_in, HouseLogView, Housed, past, past_in}
use Rattle.daemon_core.specs.Keeping.{HasRows}
use Rattle.daemon_core.specs.Resumes.{HoldIs, MayResume, blocks_in}
use Rattle.daemon_core.specs.Returns.{place_at}
use Rattle.daemon_core.proofs.HouseLogKept.{legal-next}
use Rattle.daemon_core.proofs.BoardsQuiet.{quiet-board}
use Rattle.daemon_core.proofs.ClaimEnds.{length-set}
use Rattle.daemon_core.proofs.ClaimHouse.{IsReady, runs-takes}
use Rattle.daemon_core.proofs.ClaimTaking.{Takes, takes-places}
use Rattle.daemon_core.proofs.CommitKept.{house-clear, legal-after, stored-keeps}
use Rattle.daemon_core.proofs.Held.{held-not_resumed, held-repeated}
use Rattle.daemon_core.proofs.HeldOnce.{out-once}
use Rattle.daemon_core.proofs.HouseKept.{house-next}
use Rattle.daemon_core.proofs.JudgeKept.{judge-suits}
use Rattle.daemon_core.proofs.Owed.{adds, adds-legal}
use Rattle.daemon_core.proofs.PlacesKept.{place-same}
use Rattle.daemon_core.proofs.KeptSo.{so-has}

abbrev pub resumes : ℕ → Option FetchNote → ResumeAnswer → Stored → Event
resumes entry said answer stored = Event.Resume 0 entry said answer stored

-- ---- the change

-- The rows and the doubt after the event are those with the change that it asks for.
pub resumed-rows : (basis : Basis) (past : List Event) (entry : ℕ) (said : Option FetchNote) (answer : ResumeAnswer) (stored : Stored)
    → rows basis (resumes entry said answer stored ∷ past) ≡ rows_by (fate_stored stored) (Some (resumption_on (time_of past) (rows basis past) entry answer)) (rows basis past)
resumed-rows basis past entry said ResumeAnswer.Begun stored = refl
resumed-rows basis past entry said (ResumeAnswer.Refused refusal) stored = by_test (is_keeper_fault refusal) _ (λ t. rw t refl) (λ t. rw t refl)

pub resumed-doubt : (basis : Basis) (past : List Event) (entry : ℕ) (said : Option FetchNote) (answer : ResumeAnswer) (stored : Stored)
    → doubt basis (resumes entry said answer stored ∷ past) ≡ doubt_by (fate_stored stored) (Some (resumption_on (time_of past) (rows basis past) entry answer)) (doubt basis past)
resumed-doubt basis past entry said ResumeAnswer.Begun stored = refl
resumed-doubt basis past entry said (ResumeAnswer.Refused refusal) stored = by_test (is_keeper_fault refusal) _ (λ t. rw t refl) (λ t. rw t refl)

-- The change suits the rows.
pub resumed-suits : (all : List Row) (time entry : ℕ) (answer : ResumeAnswer) (row : Row) → row_of all entry ≡ Some row → Suits (resumption_on time all entry answer) all
resumed-suits all time entry ResumeAnswer.Begun row f = judge-suits all time entry RowState.Begun row f
resumed-suits all time entry (ResumeAnswer.Refused refusal) row f =
    by_test (is_keeper_fault refusal) _
    (λ t. rw t (judge-suits all time entry RowState.Begun row f))
    (λ t. rw t (judge-suits all time entry RowState.Failed row f))

-- It adds none.
advanced-many : (fate : Fate) (entry : ℕ) (state : RowState) (reason time : ℕ) (all : List Row) → length (rows_by fate (Some (Change.Advance entry state reason time)) all) ≤ length all
advanced-many Fate.Made entry state reason time all = let e = length-map all (with_state entry state reason time) in omega (arith, e)
advanced-many Fate.Doubtful entry state reason time all = omega arith
advanced-many Fate.Dropped entry state reason time all = omega arith

resumed-many : (fate : Fate) (time entry : ℕ) (answer : ResumeAnswer) (all : List Row) → length (rows_by fate (Some (resumption_on time all entry answer)) all) ≤ length all
resumed-many fate time entry ResumeAnswer.Begun all = advanced-many fate entry RowState.Begun (reason_of all entry) time all
resumed-many fate time entry (ResumeAnswer.Refused refusal) all =
    by_test (is_keeper_fault refusal) _
    (λ t. rw t (advanced-many fate entry RowState.Begun (reason_of all entry) time all))
    (λ t. rw t (advanced-many fate entry RowState.Failed (refusal_number refusal) time all))

-- ---- what may be put behind the log

-- What the log says of the answer.
pub record Answers (a : HouseLogView) (entry : ℕ) (said : Option FetchNote) (answer : ResumeAnswer) (stored : Stored) : Type 0 where
  pub fetched : ResumeFetched (basis_in a) (past_in a) entry said answer
  pub stored_is : ResumeStored answer stored

pub resume-allowed : (a : HouseLogView) (entry : ℕ) (said : Option FetchNote) (answer : ResumeAnswer) (stored : Stored) → IsHouseLog a → MayResume a entry → Answers a entry said answer stored → IsAllowedSo (basis_in a) a.first (past_in a) (resumes entry said answer stored)
resume-allowed a entry said answer stored k m w =
    let row : Row = m.put_off.row in
    let r : ResumeAllowed (basis_in a) (past_in a) 0 entry said answer stored row =
    record { client_is = refl; row_is = subst (λ (x : List Row). row_of x entry ≡ Some row) k.stands.rows m.put_off.row_is; pending = m.put_off.pending; fetched_is = w.fetched; stored_is = w.stored_is } in
    λ plans. (row, r)

pub resume-takes : (a : HouseLogView) (entry : ℕ) (said : Option FetchNote) (answer : ResumeAnswer) (stored : Stored) → MayResume a entry → BootTakes (past_in a) (resumes entry said answer stored)
resume-takes a entry said answer stored m = runs-takes a (resumes entry said answer stored) m.runs m.booted refl

pub resume-legal : (a : HouseLogView) (entry : ℕ) (said : Option FetchNote) (answer : ResumeAnswer) (stored : Stored) → IsHouseLog a → MayResume a entry → Answers a entry said answer stored → IsLegalSo (basis_in a) a.first (resumes entry said answer stored ∷ past_in a)
resume-legal a entry said answer stored k m w =
    legal-next (basis_in a) a.first (past_in a) (resumes entry said answer stored) k.legal (resume-takes a entry said answer stored m) (resume-allowed a entry said answer stored k m w)

adds-few : (entry : ℕ) (said : Option FetchNote) (answer : ResumeAnswer) (stored : Stored) → adds (resumes entry said answer stored) ≤ 15
adds-few entry said ResumeAnswer.Begun stored = omega arith
adds-few entry said (ResumeAnswer.Refused refusal) stored = omega arith

pub resume-ready : (a : HouseLogView) (entry : ℕ) (said : Option FetchNote) (answer : ResumeAnswer) (stored : Stored) → IsHouseLog a → MayResume a entry → Answers a entry said answer stored → IsReady a (resumes entry said answer stored)
resume-ready a entry said answer stored k m w =
    let l = resume-legal a entry said answer stored k m w in
    let more = adds-legal (campaign_in a l.0) (past_in a) (resumes entry said answer stored) l.1 refl in
    let few = adds-few entry said answer stored in
    let room = m.room in
    let all = ap length (resumed-rows (basis_in a) (past_in a) entry said answer stored) in
    let many = resumed-many (fate_stored stored) (time_of (past_in a)) entry answer (rows (basis_in a) (past_in a)) in
    let same = ap length k.stands.rows in
    record {
      takes = resume-takes a entry said answer stored m;
      allowed = resume-allowed a entry said answer stored k m w;
      room = omega (arith, more, few, room);
      row = omega (arith, all, many, same);
    }

-- ---- the keeper

-- What the change is.
abbrev pub change_of : HouseLogView → ℕ → ResumeAnswer → Change
change_of a entry answer = resumption_on (time_of (past_in a)) a.core.rows entry answer

pub resume-keeps : {K : Type 0} (signs : KeeperSigns K) (entry : ℕ) (said : Option FetchNote) (answer : ResumeAnswer) (stored : Stored) (h : Housed K) (keeper : K) → IsHouse signs h → IsHouseLog h.house_log → MayResume h.house_log entry → StoredAs (change_of h.house_log entry answer) stored (signs.tells h.keeper) (signs.tells keeper) (signs.doubt keeper)
    → HasRows signs keeper (rows (basis_in h.house_log) (resumes entry said answer stored ∷ past h)) (doubt (basis_in h.house_log) (resumes entry said answer stored ∷ past h))
resume-keeps signs entry said answer stored h keeper w k m s =
    let g : Basis = basis_in h.house_log in
    let clear = house-clear signs h w k m.loaded m.runs.on in
    let kept = stored-keeps signs h.keeper keeper h.house_log.core.rows (change_of h.house_log entry answer) stored clear s in
    let r : rows_by (fate_stored stored) (Some (change_of h.house_log entry answer)) h.house_log.core.rows ≡ rows g (resumes entry said answer stored ∷ past h) =
    ap (λ (x : List Row). rows_by (fate_stored stored) (Some (resumption_on (time_of (past h)) x entry answer)) x) k.stands.rows ∙ sym (resumed-rows g (past h) entry said answer stored) in
    let d : doubt_by (fate_stored stored) (Some (change_of h.house_log entry answer)) None ≡ doubt g (resumes entry said answer stored ∷ past h) =
    ap (λ (x : List Row). doubt_by (fate_stored stored) (Some (resumption_on (time_of (past h)) x entry answer)) None) k.stands.rows
    ∙ ap (λ (x : Option Change). doubt_by (fate_stored stored) (Some (resumption_on (time_of (past h)) (rows g (past h)) entry answer)) x) (sym (no-doubt h.house_log k m.runs.on))
    ∙ sym (resumed-doubt g (past h) entry said answer stored) in
    subst (λ (x : List Row). HasRows signs keeper x (doubt g (resumes entry said answer stored ∷ past h))) r
    (subst (λ (x : Option Change). HasRows signs keeper (rows_by (fate_stored stored) (Some (change_of h.house_log entry answer)) h.house_log.core.rows) x) d kept)

-- The keeper may be asked for it.
pub resume-suits : {K : Type 0} (signs : KeeperSigns K) (entry : ℕ) (answer : ResumeAnswer) (h : Housed K) → IsHouse signs h → IsHouseLog h.house_log → MayResume h.house_log entry → (all : List Row) → signs.tells h.keeper all → Suits (change_of h.house_log entry answer) all
resume-suits signs entry answer h w k m =
    let clear = house-clear signs h w k m.loaded m.runs.on in
    suits-told (signs.tells h.keeper) h.house_log.core.rows (change_of h.house_log entry answer) clear.rows_are
    (resumed-suits h.house_log.core.rows (time_of (past h)) entry answer m.put_off.row m.put_off.row_is)

-- ---- a resumption that was refused

-- The blocks that came in aren't held any more.
pub refused-held : (a : HouseLogView) (entry : ℕ) (held' : Option (Ticket × Fetched)) (said : Option FetchNote) (refusal : Refusal) (stored : Stored) → IsHouseLog a → HoldIs a held' → held (resumes entry said (ResumeAnswer.Refused refusal) stored ∷ past_in a) + blocks_in held' ≡ held (past_in a)
refused-held a entry None said refusal stored k h = let e = held-repeated (past_in a) 0 entry said refusal stored h in omega (arith, e)
refused-held a entry (Some x) said refusal stored k h =
    let w = k.legal in
    held-not_resumed (past_in a) 0 entry said refusal stored (held_by x.0 (block_count x.1)) (out-once (campaign_in a w.0) (past_in a) k.stands.history w.1) h

-- They fit into the pool.
pub refused-fits : {K : Type 0} (signs : KeeperSigns K) (held' : Option (Ticket × Fetched)) (h : Housed K) → IsHouse signs h → IsHouseLog h.house_log → HoldIs h.house_log held' → h.pool.free + blocks_in held' ≤ h.pool.capacity
refused-fits signs held' h w k m =
    let e = refused-held h.house_log 0 held' None Refusal.KeeperFault Stored.Fault k m in
    let f = w.free in let c = w.capacity in omega (arith, e, f, c)

pub house-refused : {K : Type 0} (signs : KeeperSigns K) (entry : ℕ) (held' : Option (Ticket × Fetched)) (said : Option FetchNote) (refusal : Refusal) (stored : Stored) (old : Housed K) (new : HouseLogView) (pool : PoolCounts) (keeper : K) → IsHouse signs old → IsHouseLog old.house_log → IsHouseLog new
    → Appended 0 (resumes entry said (ResumeAnswer.Refused refusal) stored) old.house_log new → MayResume old.house_log entry → HoldIs old.house_log held' → StoredAs (change_of old.house_log entry (ResumeAnswer.Refused refusal)) stored (signs.tells old.keeper) (signs.tells keeper) (signs.doubt keeper)
    → pool.capacity ≡ old.pool.capacity → pool.free ≡ old.pool.free + blocks_in held' → IsHouse signs (record { house_log = new; places = old.places; pool = pool; keeper = keeper })
house-refused signs entry held' said refusal stored old new pool keeper h o k a m hold s cap free =
    let event : Event = resumes entry said (ResumeAnswer.Refused refusal) stored in
    let legal = legal-after 0 event old.house_log new a k in
    let out = refused-held old.house_log entry held' said refusal stored o hold in
    let was = h.free in
    house-next signs 0 event old (record { house_log = new; places = old.places; pool = pool; keeper = keeper }) h a k
    (record {
      count = refl;
      places = λ number place e.
          place-same (basis_in old.house_log) old.house_log.first (past old) (event ∷ past old) number place
          (quiet-board (basis_in old.house_log) old.house_log.first (past old) event o.stands.history legal number refl refl refl refl refl refl) (h.places number place e);
      loaded = m.loaded;
      kept = so-has old.house_log.reopened signs keeper _ _ (resume-keeps signs entry said (ResumeAnswer.Refused refusal) stored old keeper h o m s);
      capacity = cap;
      free = omega (arith, out, was, free);
    })

-- ---- a resumption that took its entry

pub house-begun : {K : Type 0} (signs : KeeperSigns K) (entry number : ℕ) (said : Option FetchNote) (old : Housed K) (new : HouseLogView) (keeper : K) → IsHouse signs old → IsHouseLog old.house_log → IsHouseLog new
    → Appended 0 (resumes entry said ResumeAnswer.Begun Stored.Yes) old.house_log new → MayResume old.house_log entry → StoredAs (change_of old.house_log entry ResumeAnswer.Begun) Stored.Yes (signs.tells old.keeper) (signs.tells keeper) (signs.doubt keeper)
    → Takes (basis_in old.house_log) (past old) (resumes entry said ResumeAnswer.Begun Stored.Yes) entry number → number < length old.places → held (resumes entry said ResumeAnswer.Begun Stored.Yes ∷ past old) ≡ held (past old)
    → IsHouse signs (record { house_log = new; places = places_without old.places number; pool = old.pool; keeper = keeper })
house-begun signs entry number said old new keeper h o k a m s t within same =
    let event : Event = resumes entry said ResumeAnswer.Begun Stored.Yes in
    let legal = legal-after 0 event old.house_log new a k in
    let was = h.free in
    house-next signs 0 event old (record { house_log = new; places = places_without old.places number; pool = old.pool; keeper = keeper }) h a k
    (record {
      count = length-set old.places number (record (place_at old.places number) { board = None });
      places = takes-places (basis_in old.house_log) old.house_log.first (past old) event o.stands.history legal entry number t old.places within h.places;
      loaded = m.loaded;
      kept = so-has old.house_log.reopened signs keeper _ _ (resume-keeps signs entry said ResumeAnswer.Begun Stored.Yes old keeper h o m s);
      capacity = refl;
      free = omega (arith, same, was);
    })
