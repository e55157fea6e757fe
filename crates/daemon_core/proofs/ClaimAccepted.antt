-- What a claim has whose request is accepted.
use Rattle.std.proofs.Common.{◌≡◌, ℕ, zero, suc, ◌<◌, ◌+◌, true, false, List, [], ◌∷◌, length, map, refl, ap, sym, ◌∙◌}
use Rattle.std.proofs.lemmas.Bool.{eq-eqb, eqb-true, and_parts}
use Rattle.std.proofs.lemmas.Option.{same_Some}
use Rattle.std.specs.Prelude.{Option, Some, None, slice_get, option_map, option_and_then, unwrap_or, find, position, is_some, ◌==◌}
use Rattle.std.specs.List.{AllByRecursion, list_any}
use Rattle.std.specs.Str.{bytes_eq}
use Rattle.block_pool.specs.Views.{SealedBytes}
use Rattle.device_list.specs.Lists.{place}
use Rattle.fw_facts.specs.Views.{guids_of}
use Rattle.fw_facts.specs.declared.release.Component.{Component}
use Rattle.fw_facts.specs.declared.release.Release.{Release}
use Rattle.fw_facts.specs.declared.sheet.Sheet.{Sheet}
use Rattle.fw_facts.specs.declared.view.DeviceView.{DeviceView}
use Rattle.history_keeper.specs.Changes.{Suits}
use Rattle.history_keeper.specs.declared.change.Change.{Change}
use Rattle.history_keeper.specs.declared.row.Row.{Row}
use Rattle.history_keeper.specs.declared.row.RowState.{RowState}
use Rattle.release_catalogue.specs.Lookup.{Chosen, chosen}
use Rattle.release_catalogue.specs.declared.reference.ReleaseRef.{ReleaseRef}
use Rattle.update_log.proofs.Accepts.{accepts-target}
use Rattle.update_log.proofs.Lists.{All-filter, All-find, by_test, map-none}
use Rattle.update_log.proofs.Openings.{bytes-self}
use Rattle.update_log.proofs.RowsKept.{is_kept, no-tag, not_kept}
use Rattle.update_log.specs.Boards.{Board, all_boards, board_with, devices, is_device, is_served, plugin_place}
use Rattle.update_log.specs.Holding.{live}
use Rattle.update_log.specs.Known.{Basis, Target, is_board_of, is_on, known, new_row, row_with_tag, rows, target, target_at, target_of, view_of, views}
use Rattle.update_log.specs.Legal.{is_fetched}
use Rattle.update_log.specs.Pasts.{time_of}
use Rattle.update_log.specs.Verdicts.{Case, case_of, is_release, verdict}
use Rattle.update_log.specs.declared.decision.Stage.{Stage}
use Rattle.update_log.specs.declared.event.Event.{Event}
use Rattle.update_log.specs.declared.facts.Facts.{Facts}
use Rattle.update_log.specs.declared.live.LiveEntry.{LiveEntry}
use Rattle.update_log.specs.declared.refusal.Refusal.{Refusal}
use Rattle.update_log.specs.declared.request.Request.{Request}
use Rattle.daemon_core.proofs.Asking.{release-same, target-placed}
use Rattle.daemon_core.proofs.ClaimAlone.{HasSheet, device-sheet, row-on, same-device}
use Rattle.daemon_core.proofs.PuttingOff.{fits-rows, new-tag}
use Rattle.daemon_core.specs.Boards.{is_out}
use Rattle.daemon_core.specs.Claims.{DeviceHome, plugin_at}
use Rattle.daemon_core.specs.Fetches.{IsPayloadOf, whole_note}
use Rattle.daemon_core.specs.Holds.{IsReleaseAt}
use Rattle.daemon_core.specs.PutOff.{IsAccept}

-- ---- the board of a view

-- A view is a board's, and some board has its device's ID.
pub record BoardSeen (f : Board → DeviceView) (boards : List Board) (v : DeviceView) : Type 0 where
  pub board : Board
  pub view_is : f board ≡ v
  pub other : Board
  pub found : find (λ b. bytes_eq b.sheet.device board.sheet.device) boards ≡ Some other

pub board-seen : (f : Board → DeviceView) (boards : List Board) (n : ℕ) (v : DeviceView) → slice_get (map f boards) n ≡ Some v → BoardSeen f boards v
board-seen f [] n v e = cc
board-seen f (b ∷ bs) zero v e = record { board = b; view_is = same_Some (f b) v e; other = b; found = rw (bytes-self b.sheet.device) refl }
board-seen f (b ∷ bs) (suc n) v e =
    let r = board-seen f bs n v e in
    by_test (bytes_eq b.sheet.device r.board.sheet.device) (BoardSeen f (b ∷ bs) v)
    (λ t. record { board = r.board; view_is = r.view_is; other = b; found = rw t refl })
    (λ t. record { board = r.board; view_is = r.view_is; other = r.other; found = rw t r.found })

-- A target's view is one of the views.
pub target-seen : (facts : Facts) (all : List DeviceView) (request : Request) (t : Target) → target facts all request ≡ Some t → (n : ℕ) × (slice_get all n ≡ Some t.view)
target-seen facts all request t h = at (place request.device all) h
  where
    at-chosen : (n : ℕ) (view : DeviceView) (o : Option Chosen) → slice_get all n ≡ Some view → option_map (λ c. let u : Target = record { place = n; view = view; chosen = c } in u) o ≡ Some t → (n : ℕ) × (slice_get all n ≡ Some t.view)
    at-chosen n view None s g = cc
    at-chosen n view (Some c) s g =
        let same : record { place = n; view = view; chosen = c } ≡ t = same_Some (record { place = n; view = view; chosen = c }) t g in
        (n, s ∙ ap (λ (u : Target). Some u.view) same)

    at-view : (n : ℕ) (o : Option DeviceView) → slice_get all n ≡ o → option_and_then (target_of facts request.version n) o ≡ Some t → (n : ℕ) × (slice_get all n ≡ Some t.view)
    at-view n None s g = cc
    at-view n (Some view) s g = at-chosen n view (chosen facts.catalogue (guids_of view) request.version) s g

    at : (o : Option ℕ) → option_and_then (target_at facts all request.version) o ≡ Some t → (n : ℕ) × (slice_get all n ≡ Some t.view)
    at None g = cc
    at (Some n) g = at-view n (slice_get all n) refl g

-- No live entry is on the board of a device that isn't claimed.
none-on : (facts : Facts) (all : List Row) (device : List ℕ) (number : ℕ) (entries : List LiveEntry) → board_with facts device ≡ Some number → find (is_on all device) entries ≡ None → list_any (λ l. is_board_of facts all l.entry number) entries ≡ false
none-on facts all device number [] b h = refl
none-on facts all device number (x ∷ xs) b h =
    by_test (is_on all device x) _
    (λ t. let bad : Some x ≡ None = rw t at h in cc)
    (λ t. let rest : list_any (λ l. is_board_of facts all l.entry number) xs ≡ false = none-on facts all device number xs b (rw t at h) in
    by_test (is_board_of facts all x.entry number) _
    (λ u. let r = row-on facts all x.entry number u in
    let same : r.row.device ≡ device = same-device facts r.row.device device number r.board_is b in
    let bad : is_on all device x ≡ true = ap (λ (o : Option Row). unwrap_or (option_map (λ y. bytes_eq y.device device) o) false) r.row_is ∙ ap (λ (d : List ℕ). bytes_eq d device) same ∙ bytes-self device in
    let no : true ≡ false = sym bad ∙ t in cc)
    (λ u. rw (u, rest) refl))

-- The board of a device that isn't claimed is home.
pub view-home : (basis : Basis) (past : List Event) (n : ℕ) (v : DeviceView) → slice_get (views basis past) n ≡ Some v → v.claim ≡ None → (number : ℕ) × DeviceHome basis past v.sheet.device number
view-home basis past n v e c =
    let s = board-seen (view_of (live past) (known basis past)) (devices basis.facts) n v e in
    let device : s.board.sheet.device ≡ v.sheet.device = ap (λ (x : DeviceView). x.sheet.device) s.view_is in
    let claim : option_map (λ l. l.entry) (find (is_on (rows basis past) s.board.sheet.device) (live past)) ≡ None = ap (λ (x : DeviceView). x.claim) s.view_is ∙ c in
    let none : find (is_on (rows basis past) s.board.sheet.device) (live past) ≡ None = map-none (λ (l : LiveEntry). l.entry) _ claim in
    let board : board_with basis.facts s.board.sheet.device ≡ Some s.other.number = ap (option_map (λ (b : Board). b.number)) s.found in
    let out : is_out basis past s.other.number ≡ false = none-on basis.facts (rows basis past) s.board.sheet.device s.other.number (live past) board none in
    (s.other.number, record { board_is = ap (board_with basis.facts) (sym device) ∙ board; home = out })

-- Each device's board is served.
pub device-served : (facts : Facts) (device : List ℕ) (number : ℕ) → board_with facts device ≡ Some number → (place : ℕ) × (plugin_at facts number ≡ Some place)
device-served facts device number h = at (find (λ b. bytes_eq b.sheet.device device) (devices facts)) refl h
  where
    all-true : (xs : List Board) → AllByRecursion (λ (b : Board). Unit {0}) xs
    all-true [] = tt
    all-true (x ∷ xs) = (tt, all-true xs)

    is-some : (o : Option ℕ) → is_some o ≡ true → (place : ℕ) × (o ≡ Some place)
    is-some None e = cc
    is-some (Some n) e = (n, refl)

    at : (o : Option Board) → find (λ b. bytes_eq b.sheet.device device) (devices facts) ≡ o → option_map (λ b. b.number) o ≡ Some number → (place : ℕ) × (plugin_at facts number ≡ Some place)
    at None f e = cc
    at (Some b) f e =
        let n : b.number ≡ number = cc in
        let served : is_served facts b ≡ true = All-find (λ (x : Board). is_served facts x ≡ true) (λ (x : Board). bytes_eq x.sheet.device device) (devices facts) b
        (All-filter (λ (x : Board). Unit {0}) (λ (x : Board). is_served facts x ≡ true) (is_device facts) (all_boards facts) (all-true (all_boards facts)) (λ x _ d. (and_parts (is_served facts x) _ d).0)) f in
        let p = is-some (plugin_place facts b) served in
        let sheet : slice_get facts.sheets number ≡ Some b.sheet = ap (slice_get facts.sheets) (sym n) ∙ All-find (HasSheet facts.sheets) (λ (x : Board). bytes_eq x.sheet.device device) (devices facts) b (device-sheet facts) f in
        (p.0, ap (option_and_then (λ (s : Sheet). position (λ vetoes. bytes_eq vetoes.plugin s.plugin) facts.vetoes)) sheet ∙ p.1)

-- ---- an accepted claim

-- one release is at two places that are the same
pub release-there : (catalogue : List Component) (a b : ReleaseRef) (release : Release) → is_release a b ≡ true → IsReleaseAt catalogue b release → IsReleaseAt catalogue a release
release-there catalogue a b release h k =
    let p = and_parts (a.component == b.component) _ h in
    record {
      component = k.component;
      component_is = ap (slice_get catalogue) (eqb-true a.component b.component p.0) ∙ k.component_is;
      release_is = ap (slice_get k.component.releases) (eqb-true a.release b.release p.1) ∙ k.release_is;
    }

-- What there is where a claim is accepted.
pub record Claimable (basis : Basis) (past : List Event) (client : ℕ) (request : Request) (release : ReleaseRef) (t : Target) : Type 0 where
  pub found : target basis.facts (views basis past) request ≡ Some t
  pub that : is_release release t.chosen.at ≡ true
  pub unclaimed : t.view.claim ≡ None
  pub few : length (rows basis past) < 65536
  pub suits : Suits (Change.Add (new_row (length (rows basis past) + 1) (time_of past) client request RowState.Begun t)) (rows basis past)

pub claimable : (basis : Basis) (past : List Event) (client : ℕ) (request : Request) (release : ReleaseRef) → IsAccept (verdict basis past client request (Stage.Claim release)) → (t : Target) × Claimable basis past client request release t
claimable basis past client request release a =
    let c : Case = case_of basis past client request (Stage.Claim release) in
    let h = accepts-target c a.0 a.2 a.1 a.3 in
    let t : Target = h.0 in
    let k : row_with_tag (rows basis past) request.tag ≡ None = not_kept c (ap is_kept a.3) in (
      t,
      record {
        found = h.1.found;
        that = (and_parts (is_release release t.chosen.at) _ h.1.that).0;
        unclaimed = map-none (λ entry. Refusal.Busy entry) t.view.claim h.1.none.is_busy;
        few = fits-rows (length (rows basis past)) h.1.none.is_rows_full;
        suits = (refl, new-tag (rows basis past) (new_row (length (rows basis past) + 1) (time_of past) client request RowState.Begun t) (no-tag (rows basis past) request.tag k));
      },
    )

-- A whole payload is that of the release that was found.
pub whole-fetched : (basis : Basis) (past : List Event) (client : ℕ) (request : Request) (release : ReleaseRef) (t : Target) (payload : SealedBytes) → Claimable basis past client request release t → IsPayloadOf basis.facts release payload → is_fetched (whole_note payload) (target basis.facts (views basis past) request) ≡ true
whole-fetched basis past client request release t payload k p =
    let there : IsReleaseAt basis.facts.catalogue release t.chosen.release = release-there basis.facts.catalogue release t.chosen.at t.chosen.release k.that (target-placed basis.facts (views basis past) request t k.found) in
    let same : p.release ≡ t.chosen.release = release-same basis.facts.catalogue release p.release t.chosen.release p.there there in
    let digest : bytes_eq payload.digest t.chosen.release.digest ≡ true = ap (λ (d : List ℕ). bytes_eq d t.chosen.release.digest) (p.digest_is ∙ ap (λ (r : Release). r.digest) same) ∙ bytes-self t.chosen.release.digest in
    let size : (length payload.bytes == t.chosen.release.size) ≡ true = eq-eqb (length payload.bytes) t.chosen.release.size (p.size_is ∙ ap (λ (r : Release). r.size) same) in
    rw (k.found, digest, size) refl
