-- The exits of a claim, over what each of its steps ensures.
use Rattle.std.proofs.Common.{◌≡◌, ℕ, ◌<◌, ◌≤◌, ◌+◌, false, List, ◌∷◌, length, refl, ap, sym, ◌∙◌, subst, arith, inl, inr}
use Rattle.std.specs.Prelude.{Some, None, IsSome, is_some, unwrap_or, Result, Ok, Err}
use Rattle.history_keeper.specs.Keepers.{StillTold}
use Rattle.block_pool.specs.Views.{PoolCounts, SealedBytes}
use Rattle.history_keeper.specs.Changes.{IsTimely, Suits, changed}
use Rattle.history_keeper.specs.Signs.{KeeperSigns}
use Rattle.history_keeper.specs.declared.change.Change.{Change}
use Rattle.history_keeper.specs.declared.row.Row.{Row}
use Rattle.update_log.specs.Boards.{board_with}
use Rattle.core_state.specs.CoreSteps.{is_taken}
use Rattle.update_log.specs.Holding.{live_entry}
use Rattle.update_log.specs.declared.answer.ClaimAnswer.{ClaimAnswer}
use Rattle.update_log.specs.Verdicts.{case_of}
use Rattle.update_log.specs.declared.decision.Decision.{Decision}
use Rattle.update_log.specs.declared.decision.Stage.{Stage}
use Rattle.update_log.specs.declared.event.Event.{Event}
use Rattle.update_log.specs.declared.refusal.FetchNote.{FetchNote}
use Rattle.update_log.specs.declared.refusal.Refusal.{Refusal}
use Rattle.outer_traits.specs.Faults.{Rose}
use Rattle.daemon_core.specs.declared.claimed.Claimed.{Claimed}
use Rattle.daemon_core.specs.declared.claimed.Taken.{Taken}
use Rattle.daemon_core.specs.declared.fetched.Fetched.{Fetched}
use Rattle.daemon_core.specs.declared.hold.Ticket.{Ticket}
use Rattle.daemon_core.specs.declared.stop.Stop.{Stop}
use Rattle.daemon_core.specs.HouseLog.{Appended, Entered, IsHouseLog, Runs}
use Rattle.daemon_core.specs.Claims.{IsToStore, MayAnswer, MayClaim, claim_event, claim_verdict, places_without}
use Rattle.daemon_core.specs.Fetches.{IsPayloadOf, is_payload, note_of, whole_note}
use Rattle.daemon_core.specs.House.{IsHouse}
use Rattle.daemon_core.specs.Housed.{basis_in, HouseLogView, Housed, Place, past, past_in}
use Rattle.daemon_core.specs.Keeping.{HasRows, keeper_faults}
use Rattle.daemon_core.specs.Turns.{KeeperFared, ToldBefore, Turned}
use Rattle.daemon_core.proofs.Fared.{counted-more, fared-quiet, fared-same}
use Rattle.daemon_core.proofs.Answered.{same-unchanged}
use Rattle.daemon_core.specs.PutOff.{IsAccept}
use Rattle.daemon_core.specs.Returns.{place_at}
use Rattle.std.proofs.lemmas.Option.{slice_get_within}
use Rattle.update_log.specs.declared.facts.Facts.{Facts}
use Rattle.update_log.specs.Pasts.{meets_fault}
use Rattle.daemon_core.proofs.HouseLogKept.{appended-past}
use Rattle.daemon_core.proofs.ClaimAlone.{on-board}
use Rattle.daemon_core.proofs.ClaimHouse.{IsReady}
use Rattle.daemon_core.proofs.ClaimKept.{AddsRow, claim-doubted, claim-fits, claim-keeps, claim-made, claim-ready, claims, house-claimed, house-unclaimed, not-taken}
use Rattle.daemon_core.proofs.ClaimTurns.{answers-broken, answers-refused, answers-whole, claim-board, claim-live, claim-same_held, claim-takes_entry, entry-next, store-plan, store-within, takes_event}
use Rattle.daemon_core.proofs.CommitKept.{house-unstored}
use Rattle.daemon_core.proofs.PuttingOff.{house-plain, quiet-faults, refusal-other, suits-told}
use Rattle.daemon_core.proofs.KeptSo.{so-has}

-- What holds of the house log of the call holds of the one inside.
pub may-over : (a b : HouseLogView) (client blocks : ℕ) (ticket : Ticket) → a ≡ b → MayClaim b client ticket blocks → MayClaim a client ticket blocks
may-over a b client blocks ticket e m = subst (λ (x : HouseLogView). MayClaim x client ticket blocks) (sym e) m

-- ---- a claim that took no entry

pub end-event : (client : ℕ) (ticket : Ticket) (note note' : FetchNote) (answer : ClaimAnswer) (event : Event) → event ≡ claims client ticket note' answer → note' ≡ note → claims client ticket note answer ≡ event
end-event client ticket note note' answer event e n = sym (e ∙ ap (λ (x : FetchNote). claims client ticket x answer) n)

pub end-ready : (a b : HouseLogView) (client blocks : ℕ) (ticket : Ticket) (note note' : FetchNote) (answer : ClaimAnswer) (event : Event) → a ≡ b → IsHouseLog a → MayClaim b client ticket blocks → MayAnswer b client ticket note answer → event ≡ claims client ticket note' answer → note' ≡ note → IsReady a event
end-ready a b client blocks ticket note note' answer event same k m w e n =
    subst (λ (x : Event). IsReady a x) (end-event client ticket note note' answer event e n)
    (claim-ready a client blocks ticket note answer k (may-over a b client blocks ticket same m) (subst (λ (x : HouseLogView). MayAnswer x client ticket note answer) (sym same) w))

pub end-fits : {K : Type 0} (signs : KeeperSigns K) (client blocks count : ℕ) (ticket : Ticket) (h : Housed K) (b : HouseLogView) → h.house_log ≡ b → IsHouse signs h → IsHouseLog h.house_log → MayClaim b client ticket blocks → count ≡ blocks → h.pool.free + count ≤ h.pool.capacity
end-fits signs client blocks count ticket h b same w k m e =
    let f = claim-fits signs client blocks ticket h w k (may-over h.house_log b client blocks ticket same m) in omega (arith, f, e)

pub end-house : {K : Type 0} (signs : KeeperSigns K) (client blocks : ℕ) (ticket : Ticket) (note note' : FetchNote) (answer : ClaimAnswer) (event : Event) (h : Housed K) (b new : HouseLogView) (pool : PoolCounts) → h.house_log ≡ b → IsHouse signs h → IsHouseLog h.house_log → IsHouseLog new → MayClaim b client ticket blocks → MayAnswer b client ticket note answer → is_taken answer ≡ false
    → event ≡ claims client ticket note' answer → note' ≡ note → Appended client event h.house_log new → pool.capacity ≡ h.pool.capacity → pool.free ≡ h.pool.free + blocks → IsHouse signs (record { house_log = new; places = h.places; pool = pool; keeper = h.keeper })
end-house signs client blocks ticket note note' answer event h b new pool same w k k' m v n e f a cap free =
    let m' = may-over h.house_log b client blocks ticket same m in
    house-unclaimed signs client blocks ticket note answer h new pool h.keeper w k k'
    (subst (λ (x : Event). Appended client x h.house_log new) (sym (end-event client ticket note note' answer event e f)) a)
    m' (subst (λ (x : HouseLogView). MayAnswer x client ticket note answer) (sym same) v) (not-taken answer n)
    (claim-keeps signs client ticket note answer h w k m'.loaded n) cap free

-- ---- a claim whose row is to be stored

-- Where it is stored, over the house log inside.
pub record Storing (a : HouseLogView) (client : ℕ) (ticket : Ticket) (payload : SealedBytes) (row : Row) (number : ℕ) : Type 0 where
  pub may : MayClaim a client ticket payload.count
  pub whole : IsPayloadOf a.facts ticket.release payload
  pub store : IsToStore a client ticket row number

pub storing : (a b : HouseLogView) (client : ℕ) (ticket : Ticket) (payload : SealedBytes) (row : Row) (number : ℕ) → a ≡ b → MayClaim b client ticket payload.count → IsPayloadOf b.facts ticket.release payload → IsToStore b client ticket row number → Storing a client ticket payload row number
storing a b client ticket payload row number e m p s =
    subst (λ (x : HouseLogView). Storing x client ticket payload row number) (sym e) (record { may = m; whole = p; store = s })

-- The keeper has the rows of the log, without a doubt.
pub store-plain : {K : Type 0} (signs : KeeperSigns K) (client : ℕ) (ticket : Ticket) (payload : SealedBytes) (row : Row) (number : ℕ) (h : Housed K) → IsHouse signs h → IsHouseLog h.house_log → Storing h.house_log client ticket payload row number → HasRows signs h.keeper h.house_log.core.rows None
store-plain signs client ticket payload row number h w k s = house-plain signs h h.house_log refl w k s.may.loaded s.may.runs.on

pub store-suits : {K : Type 0} (signs : KeeperSigns K) (client : ℕ) (ticket : Ticket) (payload : SealedBytes) (row : Row) (number : ℕ) (h : Housed K) → IsHouse signs h → IsHouseLog h.house_log → Storing h.house_log client ticket payload row number → (all : List Row) → signs.tells h.keeper all → Suits (Change.Add row) all
store-suits signs client ticket payload row number h w k s =
    suits-told (signs.tells h.keeper) h.house_log.core.rows (Change.Add row) (store-plain signs client ticket payload row number h w k s).rows_are s.store.suits

-- The event that takes the entry, as it is made.
pub made-event : (client entry : ℕ) (ticket : Ticket) (payload : SealedBytes) (row : Row) (note : FetchNote) (event : Event) → event ≡ claims client ticket note (ClaimAnswer.Entry entry) → note ≡ whole_note payload → entry ≡ row.entry → takes_event client ticket payload row ≡ event
made-event client entry ticket payload row note event e n f =
    sym (e ∙ ap (λ (x : FetchNote). claims client ticket x (ClaimAnswer.Entry entry)) n ∙ ap (λ (x : ℕ). claims client ticket (whole_note payload) (ClaimAnswer.Entry x)) f)

pub fault-event : (client : ℕ) (ticket : Ticket) (payload : SealedBytes) (note : FetchNote) (event : Event) → event ≡ claims client ticket note (ClaimAnswer.Refused Refusal.KeeperFault) → note ≡ whole_note payload → claims client ticket (whole_note payload) (ClaimAnswer.Refused Refusal.KeeperFault) ≡ event
fault-event client ticket payload note event e n = sym (e ∙ ap (λ (x : FetchNote). claims client ticket x (ClaimAnswer.Refused Refusal.KeeperFault)) n)

may-take : (a : HouseLogView) (client : ℕ) (ticket : Ticket) (payload : SealedBytes) (row : Row) (number : ℕ) → IsHouseLog a → Storing a client ticket payload row number → MayAnswer a client ticket (whole_note payload) (ClaimAnswer.Entry row.entry)
may-take a client ticket payload row number k s = answers-whole a client ticket payload (ClaimAnswer.Entry row.entry) s.store.accepted s.whole (inl (ap ClaimAnswer.Entry (entry-next a client ticket row number k s.store)))

may-fault : (a : HouseLogView) (client : ℕ) (ticket : Ticket) (payload : SealedBytes) (row : Row) (number : ℕ) → Storing a client ticket payload row number → MayAnswer a client ticket (whole_note payload) (ClaimAnswer.Refused Refusal.KeeperFault)
may-fault a client ticket payload row number s = answers-whole a client ticket payload (ClaimAnswer.Refused Refusal.KeeperFault) s.store.accepted s.whole (inr refl)

pub take-ready : (a : HouseLogView) (client : ℕ) (ticket : Ticket) (payload : SealedBytes) (row : Row) (number : ℕ) (event : Event) → IsHouseLog a → Storing a client ticket payload row number → takes_event client ticket payload row ≡ event → IsReady a event
take-ready a client ticket payload row number event k s e =
    subst (λ (x : Event). IsReady a x) e (claim-ready a client payload.count ticket (whole_note payload) (ClaimAnswer.Entry row.entry) k s.may (may-take a client ticket payload row number k s))

pub fault-ready : (a : HouseLogView) (client : ℕ) (ticket : Ticket) (payload : SealedBytes) (row : Row) (number : ℕ) (event : Event) → IsHouseLog a → Storing a client ticket payload row number → claims client ticket (whole_note payload) (ClaimAnswer.Refused Refusal.KeeperFault) ≡ event → IsReady a event
fault-ready a client ticket payload row number event k s e =
    subst (λ (x : Event). IsReady a x) e (claim-ready a client payload.count ticket (whole_note payload) (ClaimAnswer.Refused Refusal.KeeperFault) k s.may (may-fault a client ticket payload row number s))

-- The house, where the row was stored.
pub house-took : {K : Type 0} (signs : KeeperSigns K) (client : ℕ) (ticket : Ticket) (payload : SealedBytes) (row : Row) (number : ℕ) (event : Event) (h : Housed K) (new : HouseLogView) (keeper : K) (places : List Place) → IsHouse signs h → IsHouseLog h.house_log → IsHouseLog new → Storing h.house_log client ticket payload row number
    → takes_event client ticket payload row ≡ event → Appended client event h.house_log new → HasRows signs keeper (changed (Change.Add row) h.house_log.core.rows) None → places ≡ places_without h.places number → IsHouse signs (record { house_log = new; places = places; pool = h.pool; keeper = keeper })
house-took signs client ticket payload row number event h new keeper places w k k' s e a made p =
    subst (λ (ps : List Place). IsHouse signs (record { house_log = new; places = ps; pool = h.pool; keeper = keeper })) (sym p)
    (house-claimed signs client payload.count ticket (whole_note payload) row.entry number h new keeper w k k'
    (subst (λ (x : Event). Appended client x h.house_log new) (sym e) a) s.may (may-take h.house_log client ticket payload row number k s)
    (claim-made signs h.house_log client ticket (whole_note payload) row.entry row keeper k s.may.runs.on s.store.added made)
    (claim-takes_entry h.house_log client ticket payload row number k s.store) (store-within signs client ticket row number h w s.store)
    (claim-same_held h.house_log client ticket payload row k s.may s.whole))

-- And where that failed.
pub house-failed : {K : Type 0} (signs : KeeperSigns K) (client : ℕ) (ticket : Ticket) (payload : SealedBytes) (row : Row) (number : ℕ) (event : Event) (h : Housed K) (new : HouseLogView) (keeper : K) (pool : PoolCounts) → IsHouse signs h → IsHouseLog h.house_log → IsHouseLog new → Storing h.house_log client ticket payload row number
    → claims client ticket (whole_note payload) (ClaimAnswer.Refused Refusal.KeeperFault) ≡ event → Appended client event h.house_log new → HasRows signs keeper h.house_log.core.rows (Some (Change.Add row)) → pool.capacity ≡ h.pool.capacity → pool.free ≡ h.pool.free + payload.count → IsHouse signs (record { house_log = new; places = h.places; pool = pool; keeper = keeper })
house-failed signs client ticket payload row number event h new keeper pool w k k' s e a kept cap free =
    house-unclaimed signs client payload.count ticket (whole_note payload) (ClaimAnswer.Refused Refusal.KeeperFault) h new pool keeper w k k'
    (subst (λ (x : Event). Appended client x h.house_log new) (sym e) a) s.may (may-fault h.house_log client ticket payload row number s) refl
    (so-has h.house_log.reopened signs keeper _ _ (claim-doubted signs h.house_log client ticket (whole_note payload) row keeper k s.store.added kept)) cap free

-- The entry is live then.
pub took-live : (a new : HouseLogView) (client entry : ℕ) (ticket : Ticket) (payload : SealedBytes) (row : Row) (number : ℕ) (event : Event) → IsHouseLog a → Storing a client ticket payload row number → takes_event client ticket payload row ≡ event → Appended client event a new → entry ≡ row.entry → IsSome (live_entry (past_in new) entry)
took-live a new client entry ticket payload row number event k s e ap' n =
    let p = appended-past client event a new ap' in
    let l = claim-live a client ticket payload row number k s.store in
    let f = ap (λ (x : Event). live_entry (x ∷ past_in a) row.entry) (sym e) ∙ l in
    let g = ap (λ (es : List Event). live_entry es row.entry) p ∙ f in
    ap is_some (ap (λ (x : ℕ). live_entry (past_in new) x) n ∙ g)

-- And its board's number is that of a sheet.
pub took-within : (a new : HouseLogView) (client : ℕ) (ticket : Ticket) (payload : SealedBytes) (row : Row) (number : ℕ) (event : Event) → Storing a client ticket payload row number → Appended client event a new → number < length new.facts.sheets
took-within a new client ticket payload row number event s p =
    let on = on-board a.facts row.device number s.store.board.board_is in
    let w : number < length a.facts.sheets = slice_get_within a.facts.sheets number on.board.sheet on.sheet in
    subst (λ (f : Facts). number < length f.sheets) (sym p.same.facts) w

-- ---- what the turn was

turned-over : {A : Type 0} (a b new : HouseLogView) (client : ℕ) (event : A → Event) (answer : A) → a ≡ b → Runs a → Appended client (event answer) a new → Turned client event (Ok answer) b new
turned-over {A = A} a b new client event answer e r p = subst (λ (x : HouseLogView). Turned {A = A} client event (Ok answer) x new) e (r, p)

pub turn-took : (a b new : HouseLogView) (client : ℕ) (ticket : Ticket) (payload : SealedBytes) (row : Row) (number : ℕ) (taken : Taken) (event : Event) → a ≡ b → Storing a client ticket payload row number → takes_event client ticket payload row ≡ event → Appended client event a new → taken.entry ≡ row.entry
    → Turned client (claim_event client ticket.request (Fetched.Whole payload)) (Ok (Claimed.Taken taken)) b new
turn-took a b new client ticket payload row number taken event same s e p n =
    let f : claim_event client ticket.request (Fetched.Whole payload) (Claimed.Taken taken) ≡ event = ap (λ (x : ℕ). claims client ticket (whole_note payload) (ClaimAnswer.Entry x)) n ∙ e in
    turned-over a b new client (claim_event client ticket.request (Fetched.Whole payload)) (Claimed.Taken taken) same s.may.runs (subst (λ (x : Event). Appended client x a new) (sym f) p)

pub turn-failed : (a b new : HouseLogView) (client : ℕ) (ticket : Ticket) (payload : SealedBytes) (row : Row) (number : ℕ) (event : Event) → a ≡ b → Storing a client ticket payload row number → claims client ticket (whole_note payload) (ClaimAnswer.Refused Refusal.KeeperFault) ≡ event → Appended client event a new
    → Turned client (claim_event client ticket.request (Fetched.Whole payload)) (Ok (Claimed.Refused Refusal.KeeperFault)) b new
turn-failed a b new client ticket payload row number event same s e p =
    turned-over a b new client (claim_event client ticket.request (Fetched.Whole payload)) (Claimed.Refused Refusal.KeeperFault) same s.may.runs (subst (λ (x : Event). Appended client x a new) (sym e) p)

-- ---- faults of the keeper

pub faults-took : {K : Type 0} (signs : KeeperSigns K) (client : ℕ) (ticket : Ticket) (payload : SealedBytes) (row : Row) (event : Event) (old new : Housed K) → takes_event client ticket payload row ≡ event → Appended client event old.house_log new.house_log → signs.faults new.keeper ≡ signs.faults old.keeper → ToldBefore signs.tells old.keeper new.keeper → KeeperFared signs old new
faults-took signs client ticket payload row event old new e p h t =
    fared-quiet signs old new (quiet-faults client event old.house_log new.house_log p (ap meets_fault (sym e))) h t

pub faults-failed : {K : Type 0} (signs : KeeperSigns K) (client : ℕ) (ticket : Ticket) (payload : SealedBytes) (event : Event) (old new : Housed K) → claims client ticket (whole_note payload) (ClaimAnswer.Refused Refusal.KeeperFault) ≡ event → Appended client event old.house_log new.house_log → Rose (signs.faults old.keeper) (signs.faults new.keeper) → ToldBefore signs.tells old.keeper new.keeper → KeeperFared signs old new
faults-failed signs client ticket payload event old new e p h t =
    let q : keeper_faults (past new) ≡ keeper_faults (claims client ticket (whole_note payload) (ClaimAnswer.Refused Refusal.KeeperFault) ∷ past old) = ap keeper_faults (appended-past client event old.house_log new.house_log p ∙ ap (λ (x : Event). x ∷ past old) (sym e)) in
    counted-more signs old new q h t

unmet : (client : ℕ) (ticket : Ticket) (note : FetchNote) (answer : ClaimAnswer) → is_taken answer ≡ false → meets_fault (claims client ticket note answer) ≡ false
unmet client ticket note (ClaimAnswer.Entry entry) h = cc
unmet client ticket note (ClaimAnswer.Kept entry state) h = refl
unmet client ticket note (ClaimAnswer.Refused refusal) h = h

pub faults-unclaimed : {K : Type 0} (signs : KeeperSigns K) (client : ℕ) (ticket : Ticket) (note : FetchNote) (answer : ClaimAnswer) (old new : Housed K) → Appended client (claims client ticket note answer) old.house_log new.house_log → is_taken answer ≡ false → new.keeper ≡ old.keeper → KeeperFared signs old new
faults-unclaimed signs client ticket note answer old new p h k =
    fared-same signs old new (quiet-faults client (claims client ticket note answer) old.house_log new.house_log p (unmet client ticket note answer h)) k

-- ---- the answers of a claim that isn't accepted

pub refused-none : (a : HouseLogView) (client : ℕ) (ticket : Ticket) (refusal : Refusal) (answer : ClaimAnswer) → answer ≡ ClaimAnswer.Refused refusal → claim_verdict a client ticket ≡ Decision.Refused refusal → is_taken answer ≡ false
refused-none a client ticket refusal answer e d =
    ap is_taken e ∙ refusal-other (case_of (basis_in a) (past_in a) client ticket.request (Stage.Claim ticket.release)) refusal d

pub refused-answers : (a : HouseLogView) (client : ℕ) (ticket : Ticket) (note : FetchNote) (refusal : Refusal) (answer : ClaimAnswer) → answer ≡ ClaimAnswer.Refused refusal → claim_verdict a client ticket ≡ Decision.Refused refusal → MayAnswer a client ticket note answer
refused-answers a client ticket note refusal answer e d = subst (λ (x : ClaimAnswer). MayAnswer a client ticket note x) (sym e) (answers-refused a client ticket note refusal d)

pub broken-answers : (a : HouseLogView) (client : ℕ) (ticket : Ticket) (fetched : Fetched) (note : FetchNote) (answer : ClaimAnswer) → answer ≡ ClaimAnswer.Refused (Refusal.Payload note) → note ≡ note_of fetched → IsAccept (claim_verdict a client ticket) → is_payload fetched ≡ false → MayAnswer a client ticket (note_of fetched) answer
broken-answers a client ticket fetched note answer e n w h =
    subst (λ (x : ClaimAnswer). MayAnswer a client ticket (note_of fetched) x) (sym (e ∙ ap (λ (x : FetchNote). ClaimAnswer.Refused (Refusal.Payload x)) n)) (answers-broken a client ticket fetched w h)

-- ---- a claim for which the keeper wanted memory

pub house-left : {K : Type 0} (signs : KeeperSigns K) (client : ℕ) (ticket : Ticket) (payload : SealedBytes) (row : Row) (number : ℕ) (h : Housed K) (keeper : K) → IsHouse signs h → IsHouseLog h.house_log → Storing h.house_log client ticket payload row number → StillTold (signs.tells h.keeper) (signs.tells keeper) × (signs.doubt keeper ≡ None) → IsHouse signs (record h { keeper = keeper })
house-left signs client ticket payload row number h keeper w k s c = house-unstored signs h h.house_log keeper refl w k s.may.loaded s.may.runs.on c

pub turn-left : (a b : HouseLogView) (client blocks : ℕ) (ticket : Ticket) (event : Claimed → Event) → a ≡ b → MayClaim b client ticket blocks → Turned client event (Err Stop.NoMemory) b a
turn-left a b client blocks ticket event e m = (m.runs.on, same-unchanged b a e)

-- ---- a claim whose row isn't stored yet

-- The row, and the place of its board, which is home.
pub record TakePlan {K : Type 0} (h : Housed K) (client : ℕ) (ticket : Ticket) (row : Row) (number : ℕ) : Type 0 where
  pub within : number < length h.places
  pub home : IsSome (place_at h.places number).board
  pub store : IsToStore h.house_log client ticket row number

pub take-plan : {K : Type 0} (signs : KeeperSigns K) (client blocks : ℕ) (ticket : Ticket) (row : Row) (number : ℕ) (h b : Housed K) → h ≡ b → IsHouse signs h → IsHouseLog h.house_log → MayClaim b.house_log client ticket blocks → IsAccept (claim_verdict b.house_log client ticket) → AddsRow h.house_log client ticket row
    → row.entry ≡ length h.house_log.core.rows + 1 → Suits (Change.Add row) h.house_log.core.rows → IsTimely (Change.Add row) → number ≡ unwrap_or (board_with h.house_log.facts row.device) 0 → TakePlan b client ticket row number
take-plan {K = K} signs client blocks ticket row number h b e w k m v added entry suits timely num =
    let m' : MayClaim h.house_log client ticket blocks = subst (λ (x : Housed K). MayClaim x.house_log client ticket blocks) (sym e) m in
    let v' : IsAccept (claim_verdict h.house_log client ticket) = subst (λ (x : Housed K). IsAccept (claim_verdict x.house_log client ticket)) (sym e) v in
    let s = (store-plan h.house_log client ticket row number v' added entry suits timely num).store in
    let within = store-within signs client ticket row number h w s in
    let board = claim-board signs client blocks ticket row number h w k m' s within in
    subst (λ (x : Housed K). TakePlan x client ticket row number) e (record { within = within; home = ap is_some board.1; store = s })

-- What holds of a house log holds of an equal one.
pub store-over : (a b : HouseLogView) (client : ℕ) (ticket : Ticket) (row : Row) (number : ℕ) → a ≡ b → IsToStore b client ticket row number → IsToStore a client ticket row number
store-over a b client ticket row number e s = subst (λ (x : HouseLogView). IsToStore x client ticket row number) (sym e) s

pub payload-over : (a b : HouseLogView) (ticket : Ticket) (payload : SealedBytes) → a ≡ b → IsPayloadOf b.facts ticket.release payload → IsPayloadOf a.facts ticket.release payload
payload-over a b ticket payload e p = subst (λ (x : HouseLogView). IsPayloadOf x.facts ticket.release payload) (sym e) p

pub turn-over : {A : Type 0} (a b new : HouseLogView) (client : ℕ) (event : A → Event) (result : Result A Stop) → a ≡ b → Turned client event result a new → Turned client event result b new
turn-over {A = A} a b new client event result e t = subst (λ (x : HouseLogView). Turned {A = A} client event result x new) e t

-- A turn that didn't begin met no fault.
pub stopped-faults : (A : Type 0) (client events : ℕ) (stop : Stop) (old new : HouseLogView) → Entered {A = A} client events (Err stop) old new → keeper_faults (past_in new) ≡ keeper_faults (past_in old)
stopped-faults A client events Stop.Off old new (inl e) = ap (λ (a : HouseLogView). keeper_faults (past_in a)) e.1
stopped-faults A client events Stop.Off old new (inr e) = quiet-faults client Event.Cut old new e.2 refl
stopped-faults A client events Stop.NoMemory old new e = ap (λ (a : HouseLogView). keeper_faults (past_in a)) e.1

pub same-faults : {K : Type 0} (faults : K → ℕ) (old new : Housed K) → new.keeper ≡ old.keeper → faults old.keeper ≤ faults new.keeper
same-faults faults old new k = let e = ap faults k in omega (arith, e)
