-- A house after a claim.
use Rattle.std.proofs.Common.{◌≡◌, ℕ, ◌<◌, ◌≤◌, ◌+◌, Bool, true, false, not, List, [], ◌∷◌, length, refl, ap, sym, ◌∙◌, subst, arith}
use Rattle.std.proofs.lemmas.List.{length_push}
use Rattle.std.specs.Prelude.{Option, Some, None, option_map, ◌==◌}
use Rattle.std.specs.List.{AllByRecursion}
use Rattle.block_pool.specs.Views.{PoolCounts}
use Rattle.fw_facts.specs.declared.release.Release.{Release}
use Rattle.fw_facts.specs.declared.seen.Seen.{Seen}
use Rattle.history_keeper.specs.Changes.{changed}
use Rattle.history_keeper.specs.Signs.{KeeperSigns}
use Rattle.history_keeper.specs.declared.change.Change.{Change}
use Rattle.history_keeper.specs.declared.row.Row.{Row}
use Rattle.history_keeper.specs.declared.row.RowState.{RowState}
use Rattle.release_catalogue.specs.declared.reference.ReleaseRef.{ReleaseRef}
use Rattle.update_log.proofs.Lists.{All-filter, All-find, All-push}
use Rattle.core_state.specs.CoreSteps.{is_taken}
use Rattle.update_log.specs.Holding.{blocks_of, held, hold, holds, live, without_client}
use Rattle.update_log.specs.Known.{Basis, Fate, Target, addition, doubt, fate, known, new_row, rows, rows_by, target, views}
use Rattle.update_log.specs.Legal.{Allowed, BootTakes, ClaimAllowed, IsLegal, ask_answer}
use Rattle.update_log.specs.Pasts.{is_keeper_fault, off, time_of}
use Rattle.update_log.specs.Shows.{campaign_on, Campaign}
use Rattle.update_log.specs.declared.answer.AskAnswer.{AskAnswer}
use Rattle.update_log.specs.declared.answer.ClaimAnswer.{ClaimAnswer}
use Rattle.update_log.specs.declared.decision.Decision.{Decision}
use Rattle.update_log.specs.declared.event.Event.{Event}
use Rattle.update_log.specs.declared.facts.Facts.{Facts}
use Rattle.update_log.specs.declared.live.Held.{Held}
use Rattle.update_log.specs.declared.refusal.FetchNote.{FetchNote}
use Rattle.update_log.specs.declared.refusal.Refusal.{Refusal}
use Rattle.update_log.specs.declared.request.Request.{Request}
use Rattle.daemon_core.specs.declared.hold.Ticket.{Ticket}
use Rattle.daemon_core.specs.HouseLog.{Appended, IsAllowedSo, IsHouseLog, IsLegalSo}
use Rattle.daemon_core.specs.Claims.{MayAnswer, MayClaim, places_without}
use Rattle.daemon_core.specs.Holds.{IsReleaseAt, held_by}
use Rattle.daemon_core.specs.House.{IsHouse}
use Rattle.daemon_core.specs.Housed.{basis_in, campaign_in, HouseLogView, Housed, past, past_in}
use Rattle.daemon_core.specs.Keeping.{HasRows, KeepsSo}
use Rattle.daemon_core.specs.Returns.{place_at}
use Rattle.daemon_core.proofs.HouseLogKept.{legal-next}
use Rattle.daemon_core.proofs.Asking.{ask-found}
use Rattle.daemon_core.proofs.BoardsQuiet.{quiet-board}
use Rattle.daemon_core.proofs.ClaimEnds.{length-set}
use Rattle.daemon_core.proofs.ClaimHouse.{IsReady, runs-takes}
use Rattle.daemon_core.proofs.ClaimTaking.{Takes, takes-places}
use Rattle.daemon_core.proofs.Held.{held-kept, held-refused}
use Rattle.daemon_core.proofs.HeldOnce.{out-once}
use Rattle.daemon_core.proofs.HouseKept.{house-next}
use Rattle.daemon_core.proofs.Owed.{adds, adds-legal}
use Rattle.daemon_core.proofs.PlacesKept.{place-same}
use Rattle.daemon_core.proofs.PuttingOff.{no-doubt}
use Rattle.daemon_core.proofs.KeptSo.{so-has}

-- ---- the blocks of a hold

-- They are those of its release's size.
abbrev pub IsSized : Facts → Held → Type 0
IsSized facts h = (release : Release) × IsReleaseAt facts.catalogue h.release release × (h.blocks ≡ blocks_of release.size)

hold-accept : (d : Decision) (blocks : ℕ) (release : ReleaseRef) → AskAnswer.Hold blocks release ≡ ask_answer d → (device : ℕ) × (d ≡ Decision.Accept device release blocks)
hold-accept (Decision.Accept device release' blocks') blocks release e = (device, cc)
hold-accept (Decision.Kept entry state) blocks release e = cc
hold-accept (Decision.Refused refusal) blocks release e = cc

fewer-sized : (facts : Facts) (client : ℕ) (hs : List Held) → AllByRecursion (IsSized facts) hs → AllByRecursion (IsSized facts) (without_client client hs)
fewer-sized facts client hs k = All-filter (IsSized facts) (IsSized facts) (λ (h : Held). not (h.client == client)) hs k (λ h s _. s)

sized-step : (c : Campaign) (past : List Event) (event : Event) → Allowed c past event → AllByRecursion (IsSized c.basis.facts) (holds past) → AllByRecursion (IsSized c.basis.facts) (holds (event ∷ past))
sized-step c past (Event.Boot number time limit found boards) a k = tt
sized-step c past (Event.Ask client request pending (AskAnswer.Hold blocks release)) a k =
    let h : Held = record { client = client; request = request; pending = pending; blocks = blocks; release = release } in
    let d = hold-accept _ blocks release a.answer_is in
    let f = ask-found c.basis past client request pending d.0 blocks release d.1 in
    All-push (IsSized c.basis.facts) (without_client client (holds past)) h (fewer-sized c.basis.facts client (holds past) k) (f.release, f.there, f.blocks_are)
sized-step c past (Event.Claim client request fetched answer) a k = fewer-sized c.basis.facts client (holds past) k
sized-step c past (Event.Resume client entry fetched answer stored) a k = fewer-sized c.basis.facts client (holds past) k
sized-step c past (Event.GiveBack client what) a k = fewer-sized c.basis.facts client (holds past) k
sized-step c past _ a k = k

pub holds-sized : (c : Campaign) (past : List Event) → IsLegal c past → AllByRecursion (IsSized c.basis.facts) (holds past)
holds-sized c [] l = tt
holds-sized c (event ∷ past) l = sized-step c past event l.2 (holds-sized c past l.0)

pub hold-sized : (basis : Basis) (first : List Seen) (past : List Event) (client : ℕ) (h : Held) → IsLegalSo basis first past → hold past client ≡ Some h → IsSized basis.facts h
hold-sized basis first past client h l e =
    All-find (IsSized basis.facts) (λ (x : Held). x.client == client) (holds past) h (holds-sized (campaign_on basis first l.0) past l.1) e

-- ---- what may be put behind the log

abbrev pub claims : ℕ → Ticket → FetchNote → ClaimAnswer → Event
claims client ticket note answer = Event.Claim client ticket.request note answer

pub claim-takes : (a : HouseLogView) (client blocks : ℕ) (ticket : Ticket) (note : FetchNote) (answer : ClaimAnswer) → MayClaim a client ticket blocks → BootTakes (past_in a) (claims client ticket note answer)
claim-takes a client blocks ticket note answer m = runs-takes a (claims client ticket note answer) m.runs m.booted refl

pub claim-allowed : (a : HouseLogView) (client blocks : ℕ) (ticket : Ticket) (note : FetchNote) (answer : ClaimAnswer) → MayClaim a client ticket blocks → MayAnswer a client ticket note answer → IsAllowedSo (basis_in a) a.first (past_in a) (claims client ticket note answer)
claim-allowed a client blocks ticket note answer m w =
    let k : ClaimAllowed (basis_in a) (past_in a) client ticket.request note answer (held_by ticket blocks) =
    record { held_is = m.held_is; request_is = refl; pending = m.asked; answer_is = w } in
    λ plans. (held_by ticket blocks, k)

pub claim-legal : (a : HouseLogView) (client blocks : ℕ) (ticket : Ticket) (note : FetchNote) (answer : ClaimAnswer) → IsHouseLog a → MayClaim a client ticket blocks → MayAnswer a client ticket note answer → IsLegalSo (basis_in a) a.first (claims client ticket note answer ∷ past_in a)
claim-legal a client blocks ticket note answer k m w =
    legal-next (basis_in a) a.first (past_in a) (claims client ticket note answer) k.legal (claim-takes a client blocks ticket note answer m) (claim-allowed a client blocks ticket note answer m w)

adds-few : (client : ℕ) (ticket : Ticket) (note : FetchNote) (answer : ClaimAnswer) → adds (claims client ticket note answer) ≤ 15
adds-few client ticket note (ClaimAnswer.Entry entry) = omega arith
adds-few client ticket note (ClaimAnswer.Kept entry state) = omega arith
adds-few client ticket note (ClaimAnswer.Refused refusal) = omega arith

made-few : {X : Type 0} (fate : Fate) (f : X → Row) (o : Option X) (all : List Row) → length (rows_by fate (option_map (λ x. Change.Add (f x)) o) all) ≤ length all + 1
made-few Fate.Made f (Some x) all = let e = length_push all (f x) in omega (arith, e)
made-few _ f _ all = omega arith

pub claim-ready : (a : HouseLogView) (client blocks : ℕ) (ticket : Ticket) (note : FetchNote) (answer : ClaimAnswer) → IsHouseLog a → MayClaim a client ticket blocks → MayAnswer a client ticket note answer → IsReady a (claims client ticket note answer)
claim-ready a client blocks ticket note answer k m w =
    let l = claim-legal a client blocks ticket note answer k m w in
    let more = adds-legal (campaign_in a l.0) (past_in a) (claims client ticket note answer) l.1 refl in
    let few = adds-few client ticket note answer in
    let room = m.room in
    let grows : length (rows (basis_in a) (claims client ticket note answer ∷ past_in a)) ≤ length (rows (basis_in a) (past_in a)) + 1 =
    made-few (fate (claims client ticket note answer)) (λ (t : Target). new_row (length (rows (basis_in a) (past_in a)) + 1) (time_of (past_in a)) client ticket.request RowState.Begun t) (target a.facts (views (basis_in a) (past_in a)) ticket.request) (rows (basis_in a) (past_in a)) in
    let same = ap length k.stands.rows in
    let row = m.row_room in
    record {
      takes = claim-takes a client blocks ticket note answer m;
      allowed = claim-allowed a client blocks ticket note answer m w;
      room = omega (arith, more, few, room);
      row = omega (arith, grows, same, row);
    }

-- ---- a claim that took no entry

-- It leaves the rows, and no new change is in doubt.
pub claim-rows_same : (basis : Basis) (past : List Event) (client : ℕ) (request : Request) (note : FetchNote) (answer : ClaimAnswer) → is_taken answer ≡ false
    → (rows basis (Event.Claim client request note answer ∷ past) ≡ rows basis past) × (doubt basis (Event.Claim client request note answer ∷ past) ≡ doubt basis past)
claim-rows_same basis past client request note (ClaimAnswer.Entry entry) h = cc
claim-rows_same basis past client request note (ClaimAnswer.Kept entry state) h = (refl, refl)
claim-rows_same basis past client request note (ClaimAnswer.Refused refusal) h = let f : is_keeper_fault refusal ≡ false = h in (rw f refl, rw f refl)

-- The answer gives no entry.
abbrev pub gives_entry : ClaimAnswer → Bool
gives_entry (ClaimAnswer.Entry entry) = true
gives_entry (ClaimAnswer.Kept entry state) = false
gives_entry (ClaimAnswer.Refused refusal) = false

pub not-taken : (answer : ClaimAnswer) → is_taken answer ≡ false → gives_entry answer ≡ false
not-taken (ClaimAnswer.Entry entry) h = cc
not-taken (ClaimAnswer.Kept entry state) h = refl
not-taken (ClaimAnswer.Refused refusal) h = refl

claim-live_same : (past : List Event) (client : ℕ) (request : Request) (note : FetchNote) (answer : ClaimAnswer) → gives_entry answer ≡ false → live (Event.Claim client request note answer ∷ past) ≡ live past
claim-live_same past client request note (ClaimAnswer.Entry entry) h = cc
claim-live_same past client request note (ClaimAnswer.Kept entry state) h = refl
claim-live_same past client request note (ClaimAnswer.Refused refusal) h = refl

claim-held : (a : HouseLogView) (client blocks : ℕ) (ticket : Ticket) (note : FetchNote) (answer : ClaimAnswer) → IsHouseLog a → MayClaim a client ticket blocks → gives_entry answer ≡ false → held (claims client ticket note answer ∷ past_in a) + blocks ≡ held (past_in a)
claim-held a client blocks ticket note (ClaimAnswer.Entry entry) k m h = cc
claim-held a client blocks ticket note (ClaimAnswer.Kept entry state) k m h =
    let w = k.legal in held-kept (past_in a) client ticket.request note entry state (held_by ticket blocks) (out-once (campaign_in a w.0) (past_in a) k.stands.history w.1) m.held_is
claim-held a client blocks ticket note (ClaimAnswer.Refused refusal) k m h =
    let w = k.legal in held-refused (past_in a) client ticket.request note refusal (held_by ticket blocks) (out-once (campaign_in a w.0) (past_in a) k.stands.history w.1) m.held_is

-- The blocks fit into the pool.
pub claim-fits : {K : Type 0} (signs : KeeperSigns K) (client blocks : ℕ) (ticket : Ticket) (h : Housed K) → IsHouse signs h → IsHouseLog h.house_log → MayClaim h.house_log client ticket blocks → h.pool.free + blocks ≤ h.pool.capacity
claim-fits signs client blocks ticket h w k m =
    let e = claim-held h.house_log client blocks ticket FetchNote.Missing (ClaimAnswer.Refused Refusal.KeeperFault) k m refl in
    let f = w.free in let c = w.capacity in omega (arith, e, f, c)

-- The keeper, where nothing was asked of it.
pub claim-keeps : {K : Type 0} (signs : KeeperSigns K) (client : ℕ) (ticket : Ticket) (note : FetchNote) (answer : ClaimAnswer) (h : Housed K) → IsHouse signs h → IsHouseLog h.house_log → h.house_log.loaded ≡ true → is_taken answer ≡ false
    → KeepsSo h.house_log.reopened signs h.keeper (rows (basis_in h.house_log) (claims client ticket note answer ∷ past h)) (doubt (basis_in h.house_log) (claims client ticket note answer ∷ past h))
claim-keeps signs client ticket note answer h w k l n =
    let s = claim-rows_same (basis_in h.house_log) (past h) client ticket.request note answer n in
    subst (λ (x : List Row). KeepsSo h.house_log.reopened signs h.keeper x (doubt (basis_in h.house_log) (claims client ticket note answer ∷ past h))) (sym (s.0 ∙ sym k.stands.rows))
    (subst (λ (x : Option Change). KeepsSo h.house_log.reopened signs h.keeper h.house_log.core.rows x) (sym (s.1 ∙ sym k.stands.doubt)) (w.kept l))

pub house-unclaimed : {K : Type 0} (signs : KeeperSigns K) (client blocks : ℕ) (ticket : Ticket) (note : FetchNote) (answer : ClaimAnswer) (old : Housed K) (new : HouseLogView) (pool : PoolCounts) (keeper : K) → IsHouse signs old → IsHouseLog old.house_log → IsHouseLog new
    → Appended client (claims client ticket note answer) old.house_log new → MayClaim old.house_log client ticket blocks → MayAnswer old.house_log client ticket note answer → gives_entry answer ≡ false
    → KeepsSo old.house_log.reopened signs keeper (rows (basis_in old.house_log) (claims client ticket note answer ∷ past old)) (doubt (basis_in old.house_log) (claims client ticket note answer ∷ past old))
    → pool.capacity ≡ old.pool.capacity → pool.free ≡ old.pool.free + blocks → IsHouse signs (record { house_log = new; places = old.places; pool = pool; keeper = keeper })
house-unclaimed signs client blocks ticket note answer old new pool keeper h o k a m w n kept cap free =
    let l = claim-legal old.house_log client blocks ticket note answer o m w in
    let out = claim-held old.house_log client blocks ticket note answer o m n in
    let was = h.free in
    house-next signs client (claims client ticket note answer) old (record { house_log = new; places = old.places; pool = pool; keeper = keeper }) h a k
    (record {
      count = refl;
      places = λ number place e.
          place-same (basis_in old.house_log) old.house_log.first (past old) (claims client ticket note answer ∷ past old) number place
          (quiet-board (basis_in old.house_log) old.house_log.first (past old) (claims client ticket note answer) o.stands.history l number refl refl refl refl (claim-live_same (past old) client ticket.request note answer n) refl) (h.places number place e);
      loaded = m.loaded;
      kept = kept;
      capacity = cap;
      free = omega (arith, out, was, free);
    })

-- ---- the keeper, after it was asked

-- The row that is added.
abbrev pub AddsRow : HouseLogView → ℕ → Ticket → Row → Type 0
AddsRow a client ticket row = addition a.facts (time_of (past_in a)) (live (past_in a)) (known (basis_in a) (past_in a)) client ticket.request RowState.Begun ≡ Some (Change.Add row)

pub claim-made : {K : Type 0} (signs : KeeperSigns K) (a : HouseLogView) (client : ℕ) (ticket : Ticket) (note : FetchNote) (entry : ℕ) (row : Row) (keeper : K) → IsHouseLog a → off (past_in a) ≡ false → AddsRow a client ticket row → HasRows signs keeper (changed (Change.Add row) a.core.rows) None
    → HasRows signs keeper (rows (basis_in a) (claims client ticket note (ClaimAnswer.Entry entry) ∷ past_in a)) (doubt (basis_in a) (claims client ticket note (ClaimAnswer.Entry entry) ∷ past_in a))
claim-made signs a client ticket note entry row keeper k o e h =
    let all : List Row = rows (basis_in a) (past_in a) in
    let r : changed (Change.Add row) a.core.rows ≡ rows (basis_in a) (claims client ticket note (ClaimAnswer.Entry entry) ∷ past_in a) =
    ap (λ (x : List Row). changed (Change.Add row) x) k.stands.rows ∙ sym (ap (λ (x : Option Change). rows_by Fate.Made x all) e) in
    record { rows_are = subst (λ (x : List Row). (y : List Row) → signs.tells keeper y → y ≡ x) r h.rows_are; doubt_is = h.doubt_is ∙ sym (no-doubt a k o) }

pub claim-doubted : {K : Type 0} (signs : KeeperSigns K) (a : HouseLogView) (client : ℕ) (ticket : Ticket) (note : FetchNote) (row : Row) (keeper : K) → IsHouseLog a → AddsRow a client ticket row → HasRows signs keeper a.core.rows (Some (Change.Add row))
    → HasRows signs keeper (rows (basis_in a) (claims client ticket note (ClaimAnswer.Refused Refusal.KeeperFault) ∷ past_in a)) (doubt (basis_in a) (claims client ticket note (ClaimAnswer.Refused Refusal.KeeperFault) ∷ past_in a))
claim-doubted signs a client ticket note row keeper k e h =
    record { rows_are = subst (λ (x : List Row). (y : List Row) → signs.tells keeper y → y ≡ x) k.stands.rows h.rows_are; doubt_is = h.doubt_is ∙ sym e }

-- ---- a claim that took an entry

pub house-claimed : {K : Type 0} (signs : KeeperSigns K) (client blocks : ℕ) (ticket : Ticket) (note : FetchNote) (entry number : ℕ) (old : Housed K) (new : HouseLogView) (keeper : K) → IsHouse signs old → IsHouseLog old.house_log → IsHouseLog new
    → Appended client (claims client ticket note (ClaimAnswer.Entry entry)) old.house_log new → MayClaim old.house_log client ticket blocks → MayAnswer old.house_log client ticket note (ClaimAnswer.Entry entry)
    → HasRows signs keeper (rows (basis_in old.house_log) (claims client ticket note (ClaimAnswer.Entry entry) ∷ past old)) (doubt (basis_in old.house_log) (claims client ticket note (ClaimAnswer.Entry entry) ∷ past old))
    → Takes (basis_in old.house_log) (past old) (claims client ticket note (ClaimAnswer.Entry entry)) entry number → number < length old.places → held (claims client ticket note (ClaimAnswer.Entry entry) ∷ past old) ≡ held (past old)
    → IsHouse signs (record { house_log = new; places = places_without old.places number; pool = old.pool; keeper = keeper })
house-claimed signs client blocks ticket note entry number old new keeper h o k a m w kept t within same =
    let l = claim-legal old.house_log client blocks ticket note (ClaimAnswer.Entry entry) o m w in
    let was = h.free in
    house-next signs client (claims client ticket note (ClaimAnswer.Entry entry)) old (record { house_log = new; places = places_without old.places number; pool = old.pool; keeper = keeper }) h a k
    (record {
      count = length-set old.places number (record (place_at old.places number) { board = None });
      places = takes-places (basis_in old.house_log) old.house_log.first (past old) (claims client ticket note (ClaimAnswer.Entry entry)) o.stands.history l entry number t old.places within h.places;
      loaded = m.loaded;
      kept = so-has old.house_log.reopened signs keeper (rows (basis_in old.house_log) (claims client ticket note (ClaimAnswer.Entry entry) ∷ past old)) (doubt (basis_in old.house_log) (claims client ticket note (ClaimAnswer.Entry entry) ∷ past old)) kept;
      capacity = refl;
      free = omega (arith, same, was);
    })
