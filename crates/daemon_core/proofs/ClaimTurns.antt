-- The turn of a claim.
use Rattle.std.proofs.Common.{◌≡◌, ℕ, ◌<◌, ◌≤◌, ◌+◌, Bool, false, List, [], ◌∷◌, ◌++◌, length, refl, ap, sym, ◌∙◌, subst, arith, ◌⊎◌, inl}
use Rattle.std.specs.Prelude.{Option, Some, None, find, option_and_then, unwrap_or, ◌==◌}
use Rattle.std.specs.List.{AllByRecursion}
use Rattle.std.proofs.lemmas.Option.{slice_get_within}
use Rattle.block_pool.specs.Views.{SealedBytes}
use Rattle.emulated_boards.specs.Boards.{BoardState}
use Rattle.fw_facts.specs.declared.release.Release.{Release}
use Rattle.fw_facts.specs.declared.seen.Seen.{Seen}
use Rattle.history_keeper.specs.Changes.{IsTimely, Suits}
use Rattle.history_keeper.specs.Signs.{KeeperSigns}
use Rattle.history_keeper.specs.declared.change.Change.{Change}
use Rattle.history_keeper.specs.declared.row.Row.{Row}
use Rattle.history_keeper.specs.declared.row.RowState.{RowState}
use Rattle.update_log.proofs.Lists.{All-map, eqb-other, eqb-self, find-push_new}
use Rattle.update_log.proofs.RowsKept.{row_of-past}
use Rattle.update_log.proofs.StepsKept.{LiveKept, fresh-closed}
use Rattle.update_log.specs.Boards.{board_with}
use Rattle.update_log.specs.Holding.{blocks_of, held, live, live_entry, step_open}
use Rattle.update_log.specs.Known.{Basis, basis_of, Fate, Target, addition, board_of, known, new_row, row_of, rows, rows_by, target, views}
use Rattle.update_log.specs.Legal.{ClaimAnswered, is_fetched, next_entry}
use Rattle.update_log.specs.Pasts.{time_of}
use Rattle.update_log.specs.Steps.{first_trace, trace}
use Rattle.update_log.specs.declared.answer.ClaimAnswer.{ClaimAnswer}
use Rattle.update_log.specs.declared.decision.Decision.{Decision}
use Rattle.update_log.specs.declared.event.Event.{Event}
use Rattle.update_log.specs.declared.facts.Facts.{Facts}
use Rattle.update_log.specs.declared.live.LiveEntry.{LiveEntry}
use Rattle.update_log.specs.declared.refusal.FetchNote.{FetchNote}
use Rattle.update_log.specs.declared.refusal.Refusal.{Refusal}
use Rattle.update_log.specs.declared.request.Request.{Request}
use Rattle.update_log.specs.declared.trace.Trace.{Trace}
use Rattle.daemon_core.specs.declared.claimed.Taken.{Taken}
use Rattle.daemon_core.specs.declared.fetched.Fetched.{Fetched}
use Rattle.daemon_core.specs.declared.hold.Ticket.{Ticket}
use Rattle.daemon_core.specs.HouseLog.{Appended, IsHouseLog}
use Rattle.daemon_core.specs.Boards.{BoardStands}
use Rattle.daemon_core.specs.Claims.{DeviceHome, IsServedBy, IsTaken, IsToStore, MayAnswer, MayClaim, claim_verdict, place_given, plugin_at}
use Rattle.daemon_core.specs.Fetches.{IsPayloadOf, note_of, is_payload, whole_note}
use Rattle.daemon_core.specs.Holds.{held_by}
use Rattle.daemon_core.specs.House.{IsHouse}
use Rattle.daemon_core.specs.Housed.{basis_in, campaign_in, HouseLogView, Housed, past, past_in, rows_before}
use Rattle.daemon_core.specs.PutOff.{IsAccept}
use Rattle.daemon_core.specs.Returns.{ComesHome, place_at}
use Rattle.daemon_core.proofs.HouseLogKept.{appended-before, appended-past}
use Rattle.daemon_core.proofs.Asking.{release-same}
use Rattle.daemon_core.proofs.BoardsQuiet.{kept-so}
use Rattle.daemon_core.proofs.ClaimAccepted.{claimable, device-served, target-seen, view-home, whole-fetched}
use Rattle.daemon_core.proofs.ClaimAlone.{on-board}
use Rattle.daemon_core.proofs.ClaimEnds.{place-found}
use Rattle.daemon_core.proofs.ClaimKept.{AddsRow, claim-legal, claims, hold-sized}
use Rattle.daemon_core.proofs.ClaimRoom.{home-board}
use Rattle.daemon_core.proofs.ClaimTaking.{Takes, home-tail, takes-stands}
use Rattle.daemon_core.proofs.Held.{held-taken}
use Rattle.daemon_core.proofs.HeldOnce.{out-once}

-- ---- what may be answered

-- A claim that isn't accepted is answered what was decided.
pub answers-kept : (a : HouseLogView) (client : ℕ) (ticket : Ticket) (note : FetchNote) (entry : ℕ) (state : RowState) → claim_verdict a client ticket ≡ Decision.Kept entry state → MayAnswer a client ticket note (ClaimAnswer.Kept entry state)
answers-kept a client ticket note entry state e = subst (λ (d : Decision). ClaimAnswered note (target a.facts (views (basis_in a) (past_in a)) ticket.request) (next_entry (basis_in a) (past_in a)) d (ClaimAnswer.Kept entry state)) (sym e) refl

pub answers-refused : (a : HouseLogView) (client : ℕ) (ticket : Ticket) (note : FetchNote) (refusal : Refusal) → claim_verdict a client ticket ≡ Decision.Refused refusal → MayAnswer a client ticket note (ClaimAnswer.Refused refusal)
answers-refused a client ticket note refusal e = subst (λ (d : Decision). ClaimAnswered note (target a.facts (views (basis_in a) (past_in a)) ticket.request) (next_entry (basis_in a) (past_in a)) d (ClaimAnswer.Refused refusal)) (sym e) refl

-- One whose payload isn't whole is answered that.
pub broken-fetched : (fetched : Fetched) (o : Option Target) → is_payload fetched ≡ false → is_fetched (note_of fetched) o ≡ false
broken-fetched (Fetched.Whole payload) o h = cc
broken-fetched (Fetched.Missing blocks) None h = refl
broken-fetched (Fetched.Missing blocks) (Some t) h = refl
broken-fetched (Fetched.Length found blocks) None h = refl
broken-fetched (Fetched.Length found blocks) (Some t) h = refl
broken-fetched (Fetched.Mismatch found blocks) None h = refl
broken-fetched (Fetched.Mismatch found blocks) (Some t) h = refl
broken-fetched (Fetched.ShelfFault blocks) None h = refl
broken-fetched (Fetched.ShelfFault blocks) (Some t) h = refl

pub answers-broken : (a : HouseLogView) (client : ℕ) (ticket : Ticket) (fetched : Fetched) → IsAccept (claim_verdict a client ticket) → is_payload fetched ≡ false → MayAnswer a client ticket (note_of fetched) (ClaimAnswer.Refused (Refusal.Payload (note_of fetched)))
answers-broken a client ticket fetched w h =
    let f = broken-fetched fetched (target a.facts (views (basis_in a) (past_in a)) ticket.request) h in
    subst (λ (d : Decision). ClaimAnswered (note_of fetched) (target a.facts (views (basis_in a) (past_in a)) ticket.request) (next_entry (basis_in a) (past_in a)) d (ClaimAnswer.Refused (Refusal.Payload (note_of fetched)))) (sym w.3)
    (rw f refl)

-- One whose payload is, is answered the next entry, or that the keeper failed.
pub answers-whole : (a : HouseLogView) (client : ℕ) (ticket : Ticket) (payload : SealedBytes) (answer : ClaimAnswer) → IsAccept (claim_verdict a client ticket) → IsPayloadOf a.facts ticket.release payload
    → (answer ≡ ClaimAnswer.Entry (next_entry (basis_in a) (past_in a))) ⊎ (answer ≡ ClaimAnswer.Refused Refusal.KeeperFault) → MayAnswer a client ticket (whole_note payload) answer
answers-whole a client ticket payload answer w p e =
    let k = claimable (basis_in a) (past_in a) client ticket.request ticket.release w in
    let f = whole-fetched (basis_in a) (past_in a) client ticket.request ticket.release k.0 payload k.1 p in
    subst (λ (d : Decision). ClaimAnswered (whole_note payload) (target a.facts (views (basis_in a) (past_in a)) ticket.request) (next_entry (basis_in a) (past_in a)) d answer) (sym w.3)
    (rw f e)

-- ---- the row and its board

addition-begun : (basis : Basis) (past : List Event) (client : ℕ) (request : Request) (t : Target) → target basis.facts (views basis past) request ≡ Some t
    → addition basis.facts (time_of past) (live past) (known basis past) client request RowState.Begun ≡ Some (Change.Add (new_row (length (rows basis past) + 1) (time_of past) client request RowState.Begun t))
addition-begun basis past client request t e = rw e refl

some-added : (a b : Row) → Some (Change.Add a) ≡ Some (Change.Add b) → a ≡ b
some-added a b h = cc

-- The row is that of the target.
pub row-is : (a : HouseLogView) (client : ℕ) (ticket : Ticket) (row : Row) (t : Target) → target a.facts (views (basis_in a) (past_in a)) ticket.request ≡ Some t → AddsRow a client ticket row
    → new_row (length (rows (basis_in a) (past_in a)) + 1) (time_of (past_in a)) client ticket.request RowState.Begun t ≡ row
row-is a client ticket row t f e = some-added _ row (sym (addition-begun (basis_in a) (past_in a) client ticket.request t f) ∙ e)

-- What is to be stored.
pub record StorePlan (a : HouseLogView) (client : ℕ) (ticket : Ticket) (row : Row) (number : ℕ) : Type 0 where
  pub within : number < length a.facts.sheets
  pub store : IsToStore a client ticket row number

pub store-plan : (a : HouseLogView) (client : ℕ) (ticket : Ticket) (row : Row) (number : ℕ) → IsAccept (claim_verdict a client ticket) → AddsRow a client ticket row → row.entry ≡ length a.core.rows + 1 → Suits (Change.Add row) a.core.rows → IsTimely (Change.Add row)
    → number ≡ unwrap_or (board_with a.facts row.device) 0 → StorePlan a client ticket row number
store-plan a client ticket row number w e n s t b =
    let k = claimable (basis_in a) (past_in a) client ticket.request ticket.release w in
    let same = row-is a client ticket row k.0 k.1.found e in
    let device : k.0.view.sheet.device ≡ row.device = ap (λ (r : Row). r.device) same in
    let v = target-seen a.facts (views (basis_in a) (past_in a)) ticket.request k.0 k.1.found in
    let h = view-home (basis_in a) (past_in a) v.0 k.0.view v.1 k.1.unclaimed in
    let home : DeviceHome (basis_in a) (past_in a) row.device h.0 = subst (λ (d : List ℕ). DeviceHome (basis_in a) (past_in a) d h.0) device h.1 in
    let num : h.0 ≡ number = sym (b ∙ ap (λ (o : Option ℕ). unwrap_or o 0) home.board_is) in
    let on = on-board a.facts row.device h.0 home.board_is in
    let within : h.0 < length a.facts.sheets = slice_get_within a.facts.sheets h.0 on.board.sheet on.sheet in
    record {
      within = subst (λ (m : ℕ). m < length a.facts.sheets) num within;
      store = record {
        accepted = w;
        added = e;
        entry_is = n;
        suits = s;
        timely = t;
        board = subst (λ (m : ℕ). DeviceHome (basis_in a) (past_in a) row.device m) num home;
      };
    }

-- ---- the entry that is taken

pub find-nothing : {X : Type 0} (p : X → Bool) (xs : List X) → AllByRecursion (λ x. p x ≡ false) xs → find p xs ≡ None
find-nothing p [] a = refl
find-nothing p (x ∷ xs) a = let h : p x ≡ false = a.0 in rw h (find-nothing p xs a.1)

abbrev pub takes_event : ℕ → Ticket → SealedBytes → Row → Event
takes_event client ticket payload row = claims client ticket (whole_note payload) (ClaimAnswer.Entry row.entry)

-- The entry is the next one.
pub entry-next : (a : HouseLogView) (client : ℕ) (ticket : Ticket) (row : Row) (number : ℕ) → IsHouseLog a → IsToStore a client ticket row number → row.entry ≡ next_entry (basis_in a) (past_in a)
entry-next a client ticket row number k s = s.entry_is ∙ ap (λ (rs : List Row). length rs + 1) k.stands.rows

pub claim-takes_entry : (a : HouseLogView) (client : ℕ) (ticket : Ticket) (payload : SealedBytes) (row : Row) (number : ℕ) → IsHouseLog a → IsToStore a client ticket row number → Takes (basis_in a) (past_in a) (takes_event client ticket payload row) row.entry number
claim-takes_entry a client ticket payload row number k s =
    let w = kept-so (basis_in a) a.first (past_in a) k.stands.history k.legal in
    let all : List Row = rows (basis_in a) (past_in a) in
    let new : rows (basis_in a) (takes_event client ticket payload row ∷ past_in a) ≡ all ++ row ∷ [] = ap (λ (x : Option Change). rows_by Fate.Made x all) s.added in
    let n : row.entry ≡ length (rows (basis_in a) (past_in a)) + 1 = entry-next a client ticket row number k s in
    let none : row_of all row.entry ≡ None = row_of-past 1 all row.entry w.rows_kept.valid.entries (omega (arith, n)) in
    let found : row_of (all ++ row ∷ []) row.entry ≡ Some row = find-push_new (λ (r : Row). r.entry == row.entry) all row none (eqb-self row.entry) in
    record {
      taken = record { client = client; entry = row.entry; blocks = blocks_of (length payload.bytes) };
      taken_is = refl;
      lives = refl;
      steps = refl;
      board = ap (λ (rs : List Row). board_of a.facts rs row.entry) new ∙ ap (option_and_then (λ (r : Row). board_with a.facts r.device)) found ∙ s.board.board_is;
      told_none = λ n. refl;
      same_tells = λ n. refl;
      faulty = λ n. refl;
      booted = refl;
    }

-- The blocks of the payload are those of the hold.
pub claim-blocks : (a : HouseLogView) (client : ℕ) (ticket : Ticket) (payload : SealedBytes) → IsHouseLog a → MayClaim a client ticket payload.count → IsPayloadOf a.facts ticket.release payload → payload.count ≡ blocks_of (length payload.bytes)
claim-blocks a client ticket payload k m p =
    let s = hold-sized (basis_in a) a.first (past_in a) client (held_by ticket payload.count) k.legal m.held_is in
    let same : s.0 ≡ p.release = release-same a.facts.catalogue ticket.release s.0 p.release s.1 p.there in
    s.2 ∙ ap (λ (r : Release). blocks_of r.size) same ∙ sym (ap blocks_of p.size_is)

pub claim-same_held : (a : HouseLogView) (client : ℕ) (ticket : Ticket) (payload : SealedBytes) (row : Row) → IsHouseLog a → MayClaim a client ticket payload.count → IsPayloadOf a.facts ticket.release payload → held (takes_event client ticket payload row ∷ past_in a) ≡ held (past_in a)
claim-same_held a client ticket payload row k m p =
    let l = k.legal in
    let t = held-taken (past_in a) client ticket.request (whole_note payload) row.entry (held_by ticket payload.count) (out-once (campaign_in a l.0) (past_in a) k.stands.history l.1) m.held_is in
    let e = claim-blocks a client ticket payload k m p in
    omega (arith, t, e)

-- ---- what was taken

-- its plugin
pub claim-served : (facts : Facts) (device : List ℕ) (number plugin : ℕ) → board_with facts device ≡ Some number → plugin ≡ place_given (unwrap_or (plugin_at facts number) 0) → IsServedBy facts number plugin
claim-served facts device number plugin b e =
    let p = device-served facts device number b in
    record { place = p.0; place_is = p.1; plugin_is = e ∙ ap (λ (o : Option ℕ). place_given (unwrap_or o 0)) p.1 }

-- its trace, which has no step
claim-traced : (a : HouseLogView) (client : ℕ) (ticket : Ticket) (payload : SealedBytes) (row : Row) (number : ℕ) (t : Trace) → IsToStore a client ticket row number → trace (basis_in a) row.entry (takes_event client ticket payload row ∷ past_in a) ≡ Some t → t.steps ≡ []
claim-traced a client ticket payload row number t s e =
    let k = claimable (basis_in a) (past_in a) client ticket.request ticket.release s.accepted in
    let f : trace (basis_in a) row.entry (takes_event client ticket payload row ∷ past_in a) ≡ Some (first_trace k.0) = rw (eqb-self row.entry, k.1.found) refl in
    let g : Some (first_trace k.0) ≡ Some t = sym f ∙ e in
    let h : first_trace k.0 ≡ t = cc in
    ap (λ (x : Trace). x.steps) (sym h)

-- the live entry
pub claim-live : (a : HouseLogView) (client : ℕ) (ticket : Ticket) (payload : SealedBytes) (row : Row) (number : ℕ) → IsHouseLog a → IsToStore a client ticket row number
    → live_entry (takes_event client ticket payload row ∷ past_in a) row.entry ≡ Some (record { client = client; entry = row.entry; blocks = blocks_of (length payload.bytes) })
claim-live a client ticket payload row number k s =
    let w = kept-so (basis_in a) a.first (past_in a) k.stands.history k.legal in
    let n : row.entry ≡ length (rows (basis_in a) (past_in a)) + 1 = entry-next a client ticket row number k s in
    find-push_new (λ (l : LiveEntry). l.entry == row.entry) (live (past_in a)) (record { client = client; entry = row.entry; blocks = blocks_of (length payload.bytes) })
    (find-nothing (λ (l : LiveEntry). l.entry == row.entry) (live (past_in a))
    (All-map (LiveKept (basis_in a) (past_in a)) (λ (l : LiveEntry). (l.entry == row.entry) ≡ false) (live (past_in a)) w.steps.live_is
    (λ l u. eqb-other l.entry row.entry (λ e. let le : l.entry ≤ length (rows (basis_in a) (past_in a)) = u.known in omega (arith, n, e, le)))))
    (eqb-self row.entry)

-- over the log with the claim
taken-there : (a : HouseLogView) (client : ℕ) (ticket : Ticket) (payload : SealedBytes) (row : Row) (number : ℕ) (taken : Taken) → IsHouseLog a → MayClaim a client ticket payload.count → IsPayloadOf a.facts ticket.release payload → IsToStore a client ticket row number
    → BoardStands (basis_in a) a.first (past_in a) number taken.board [] → 8 ≤ taken.board.room → taken.entry ≡ row.entry → taken.payload ≡ payload → taken.plugin ≡ place_given (unwrap_or (plugin_at a.facts number) 0)
    → trace (basis_in a) row.entry (takes_event client ticket payload row ∷ past_in a) ≡ Some taken.trace → IsTaken (basis_in a) a.first (takes_event client ticket payload row ∷ past_in a) client taken number
taken-there a client ticket payload row number taken k m p s b r e q g t =
    let w = kept-so (basis_in a) a.first (past_in a) k.stands.history k.legal in
    let n : row.entry ≡ length (rows (basis_in a) (past_in a)) + 1 = entry-next a client ticket row number k s in
    let z = claim-takes_entry a client ticket payload row number k s in
    let l = claim-legal a client payload.count ticket (whole_note payload) (ClaimAnswer.Entry row.entry) k m (answers-whole a client ticket payload (ClaimAnswer.Entry row.entry) s.accepted p (inl (ap ClaimAnswer.Entry n))) in
    let stands : BoardStands (basis_in a) a.first (takes_event client ticket payload row ∷ past_in a) number taken.board [] = takes-stands (basis_in a) a.first (past_in a) (takes_event client ticket payload row) k.stands.history l row.entry number z taken.board [] b in
    let live : LiveEntry = record { client = client; entry = row.entry; blocks = blocks_of (length payload.bytes) } in
    let comes : ComesHome (basis_in a) a.first (takes_event client ticket payload row ∷ past_in a) client row.entry number live [] taken.board payload.count =
    record {
      live = claim-live a client ticket payload row number k s;
      client_is = refl;
      board = z.board;
      stands = stands;
      blocks_are = claim-blocks a client ticket payload k m p;
    } in
    let comes' = subst (λ (x : ℕ). ComesHome (basis_in a) a.first (takes_event client ticket payload row ∷ past_in a) client x number live [] taken.board payload.count) (sym e) comes in
    record {
      l = live;
      comes = subst (λ (x : SealedBytes). ComesHome (basis_in a) a.first (takes_event client ticket payload row ∷ past_in a) client taken.entry number live [] taken.board x.count) (sym q) comes';
      closed = ap (step_open (takes_event client ticket payload row ∷ past_in a)) e ∙ fresh-closed (basis_in a) (past_in a) row.entry w.steps (omega (arith, n));
      traced = ap (λ (x : ℕ). trace (basis_in a) x (takes_event client ticket payload row ∷ past_in a)) e ∙ t;
      no_steps = claim-traced a client ticket payload row number taken.trace s t;
      marks = r;
      served = claim-served a.facts row.device number taken.plugin s.board.board_is g;
    }

-- over the house log with it
abbrev pub TakenIn : HouseLogView → ℕ → Taken → ℕ → Type 0
TakenIn a client taken number = IsTaken (basis_in a) a.first (past_in a) client taken number

pub claim-taken : (a new : HouseLogView) (client : ℕ) (ticket : Ticket) (payload : SealedBytes) (row : Row) (number : ℕ) (taken : Taken) → IsHouseLog a → MayClaim a client ticket payload.count → IsPayloadOf a.facts ticket.release payload → IsToStore a client ticket row number → Appended client (takes_event client ticket payload row) a new
    → BoardStands (basis_in a) a.first (past_in a) number taken.board [] → 8 ≤ taken.board.room → taken.entry ≡ row.entry → taken.payload ≡ payload → taken.plugin ≡ place_given (unwrap_or (plugin_at new.facts number) 0)
    → trace (basis_in new) row.entry (past_in new) ≡ Some taken.trace → TakenIn new client taken number
claim-taken a new client ticket payload row number taken k m p s ap' b r e q g t =
    let past : past_in new ≡ takes_event client ticket payload row ∷ past_in a = appended-past client (takes_event client ticket payload row) a new ap' in
    let before : rows_before new ≡ rows_before a = appended-before client (takes_event client ticket payload row) a new ap' in
    let t' : trace (basis_in a) row.entry (takes_event client ticket payload row ∷ past_in a) ≡ Some taken.trace =
    ap (λ (es : List Event). trace (basis_in a) row.entry es) (sym past) ∙ ap (λ (o : List Row). trace (basis_of a.facts o) row.entry (past_in new)) (sym before) ∙ ap (λ (f : Facts). trace (basis_of f (rows_before new)) row.entry (past_in new)) (sym ap'.same.facts) ∙ t in
    let g' : taken.plugin ≡ place_given (unwrap_or (plugin_at a.facts number) 0) = g ∙ ap (λ (f : Facts). place_given (unwrap_or (plugin_at f number) 0)) ap'.same.facts in
    subst (λ (f : Facts). IsTaken (basis_of f (rows_before new)) new.first (past_in new) client taken number) (sym ap'.same.facts)
    (subst (λ (x : List Seen). IsTaken (basis_of a.facts (rows_before new)) x (past_in new) client taken number) (sym ap'.same.first)
    (subst (λ (o : List Row). IsTaken (basis_of a.facts o) a.first (past_in new) client taken number) (sym before)
    (subst (λ (es : List Event). IsTaken (basis_in a) a.first es client taken number) (sym past)
    (taken-there a client ticket payload row number taken k m p s b r e q g' t'))))

-- ---- the board that goes out

-- It is home, and stands with no untold mark.
pub claim-board : {K : Type 0} (signs : KeeperSigns K) (client blocks : ℕ) (ticket : Ticket) (row : Row) (number : ℕ) (h : Housed K) → IsHouse signs h → IsHouseLog h.house_log → MayClaim h.house_log client ticket blocks → IsToStore h.house_log client ticket row number → number < length h.places
    → (b : BoardState) × ((place_at h.places number).board ≡ Some b) × BoardStands (basis_in h.house_log) h.house_log.first (past h) number b []
claim-board signs client blocks ticket row number h w k m s within =
    let p = w.places number (place_at h.places number) (place-found h.places number within) in
    let b = home-board (basis_in h.house_log) h.house_log.first (past h) number (place_at h.places number).board s.board.home p.home in
    (b.0, b.1, home-tail (basis_in h.house_log) h.house_log.first (past h) number b.0 b.2.0 k.legal m.runs.on s.board.home b.2.1)

-- Its number is a place.
pub store-within : {K : Type 0} (signs : KeeperSigns K) (client : ℕ) (ticket : Ticket) (row : Row) (number : ℕ) (h : Housed K) → IsHouse signs h → IsToStore h.house_log client ticket row number → number < length h.places
store-within signs client ticket row number h w s =
    let on = on-board h.house_log.facts row.device number s.board.board_is in
    let within = slice_get_within h.house_log.facts.sheets number on.board.sheet on.sheet in
    let c = w.count in omega (arith, within, c)
