-- What a claim reads of the log.
use Rattle.std.proofs.Common.{◌≡◌, ◌<◌, ◌+◌, ℕ, suc, true, false, List, [], ◌∷◌, map, length, refl, ap, sym, ◌∙◌, subst, arith}
use Rattle.std.proofs.lemmas.List.{length-map}
use Rattle.std.specs.Prelude.{Some, find, option_map, slice_get}
use Rattle.std.specs.Str.{bytes_eq}
use Rattle.std.specs.List.{position_or_len}
use Rattle.device_list.proofs.GuidLaws.{bytes_eq-symm}
use Rattle.device_list.specs.Lists.{names}
use Rattle.device_list.specs.declared.selector.Selector.{Selector}
use Rattle.fw_facts.specs.declared.view.DeviceView.{DeviceView}
use Rattle.history_keeper.specs.Changes.{Suits}
use Rattle.history_keeper.specs.declared.change.Change.{Change}
use Rattle.history_keeper.specs.declared.row.Row.{Row}
use Rattle.history_keeper.specs.declared.row.RowState.{RowState}
use Rattle.release_catalogue.specs.declared.reference.ReleaseRef.{ReleaseRef}
use Rattle.core_state.proofs.CoreTells.{looked-up}
use Rattle.update_log.proofs.Lists.{by_test}
use Rattle.update_log.specs.Boards.{Board, board_with, devices}
use Rattle.core_state.specs.Core.{Core, Stands}
use Rattle.core_state.specs.CoreSteps.{addition_on, board_on}
use Rattle.update_log.specs.Holding.{live}
use Rattle.update_log.specs.Known.{Basis, Known, Target, known, new_row, rows, target, view_of, views}
use Rattle.update_log.specs.Pasts.{past_of, time_of}
use Rattle.update_log.specs.Verdicts.{verdict}
use Rattle.update_log.specs.declared.decision.Stage.{Stage}
use Rattle.update_log.specs.declared.facts.Facts.{Facts}
use Rattle.update_log.specs.declared.live.LiveEntry.{LiveEntry}
use Rattle.update_log.specs.declared.request.Request.{Request}
use Rattle.daemon_core.specs.HouseLog.{IsHouseLog}
use Rattle.daemon_core.specs.Housed.{basis_in, HouseLogView, past_in}
use Rattle.daemon_core.specs.PutOff.{IsAccept}
use Rattle.daemon_core.proofs.ClaimAccepted.{claimable}

-- ---- the board of a device's ID

abbrev numbers : List Board → List ℕ
numbers boards = map (λ b. b.number) boards

-- the place of the first view of a device is that of the first board with its ID
at-place : (entries : List LiveEntry) (known : Known) (device : List ℕ) (boards : List Board)
    → slice_get (numbers boards) (position_or_len (names (Selector.Id device)) (map (view_of entries known) boards))
    ≡ option_map (λ b. b.number) (find (λ b. bytes_eq b.sheet.device device) boards)
at-place entries known device [] = refl
at-place entries known device (b ∷ boards) =
    by_test (bytes_eq device b.sheet.device) _
    (λ t. let u : bytes_eq b.sheet.device device ≡ true = bytes_eq-symm b.sheet.device device ∙ t in rw (t, u) refl)
    (λ t. let u : bytes_eq b.sheet.device device ≡ false = bytes_eq-symm b.sheet.device device ∙ t in
    let n : ℕ = position_or_len (names (Selector.Id device)) (map (view_of entries known) boards) in
    let e : 1 + n ≡ suc n = omega arith in
    rw (t, u) (ap (λ (k : ℕ). slice_get (numbers (b ∷ boards)) k) e ∙ at-place entries known device boards))

pub board-found : (basis : Basis) (core : Core) (device : List ℕ) → Stands basis core → board_on core.boards core.views (Selector.Id device) ≡ board_with basis.facts device
board-found basis core device s =
    let past = past_of core.log in
    ap (λ (bs : List ℕ). board_on bs core.views (Selector.Id device)) s.boards
    ∙ ap (λ (vs : List DeviceView). board_on (map (λ b. b.number) (devices basis.facts)) vs (Selector.Id device)) s.views
    ∙ looked-up (numbers (devices basis.facts)) (position_or_len (names (Selector.Id device)) (map (view_of (live past) (known basis past)) (devices basis.facts))) (length (map (view_of (live past) (known basis past)) (devices basis.facts)))
    (length-map (devices basis.facts) (λ (b : Board). b.number) ∙ sym (length-map (devices basis.facts) (view_of (live past) (known basis past))))
    ∙ at-place (live past) (known basis past) device (devices basis.facts)

-- ---- the row of a claim

abbrev pub accept_in : HouseLogView → ℕ → Request → ReleaseRef → Type 0
accept_in a client request release = IsAccept (verdict (basis_in a) (past_in a) client request (Stage.Claim release))

pub accept-over_claim : (a b : HouseLogView) (client : ℕ) (request : Request) (release : ReleaseRef) → a ≡ b → accept_in b client request release → accept_in a client request release
accept-over_claim a b client request release e h = subst (λ (x : HouseLogView). accept_in x client request release) (sym e) h

pub few-begun : (a : HouseLogView) (client : ℕ) (request : Request) (release : ReleaseRef) → IsHouseLog a → accept_in a client request release → length a.core.rows < 65536
few-begun a client request release k h =
    let f = (claimable (basis_in a) (past_in a) client request release h).1.few in
    let e = ap length k.stands.rows in
    omega (arith, f, e)

same-begun : (facts : Facts) (core : Core) (time : ℕ) (all : List Row) (seen : List DeviceView) (client : ℕ) (request : Request) (t : Target) → core.rows ≡ all → core.views ≡ seen → target facts seen request ≡ Some t
    → addition_on facts time core.views core.rows client request RowState.Begun ≡ Some (Change.Add (new_row (length all + 1) time client request RowState.Begun t))
same-begun facts core time all seen client request t r v e = rw (r, v, e) refl

pub suits-begun : (a : HouseLogView) (client : ℕ) (request : Request) (release : ReleaseRef) (row : Row) → IsHouseLog a → accept_in a client request release
    → addition_on a.facts (time_of (past_in a)) a.core.views a.core.rows client request RowState.Begun ≡ Some (Change.Add row) → Suits (Change.Add row) a.core.rows
suits-begun a client request release row k h e =
    let o = claimable (basis_in a) (past_in a) client request release h in
    let t : Target = o.0 in
    let new : Row = new_row (length (rows (basis_in a) (past_in a)) + 1) (time_of (past_in a)) client request RowState.Begun t in
    let s : Some (Change.Add new) ≡ Some (Change.Add row) =
    sym (same-begun a.facts a.core (time_of (past_in a)) (rows (basis_in a) (past_in a)) (views (basis_in a) (past_in a)) client request t k.stands.rows k.stands.views o.1.found) ∙ e in
    let r : new ≡ row = cc in
    subst (λ (x : List Row). Suits (Change.Add row) x) (sym k.stands.rows) (subst (λ (x : Row). Suits (Change.Add x) (rows (basis_in a) (past_in a))) r o.1.suits)
