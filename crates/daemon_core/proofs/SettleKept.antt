-- Devices that a client settles.
use Rattle.std.proofs.Common.{◌≡◌, ◌≢◌, ℕ, zero, suc, ◌<◌, Bool, true, false, List, [], ◌∷◌, length, refl, ap, sym, ◌∙◌, subst, arith, ◌⊎◌, inl, inr}
use Rattle.std.specs.Prelude.{Option, Some, None, IfSome, IsSome, if◌then◌else◌, ◌&&◌, ◌==◌, find, map, slice_get, option_map, option_and_then, AllPairs, slice_index_or}
use Rattle.std.specs.List.{AllByRecursion, list_any}
use Rattle.std.specs.Str.{bytes_eq}
use Rattle.std.proofs.lemmas.Bool.{eqb-true, and_parts, and_right}
use Rattle.std.proofs.lemmas.Option.{same_Some}
use Rattle.device_list.specs.Lists.{place}
use Rattle.device_list.specs.declared.selector.Selector.{Selector}
use Rattle.fw_facts.specs.Views.{is_home, version_of, version_shown}
use Rattle.fw_facts.specs.declared.seen.Seen.{Seen}
use Rattle.fw_facts.specs.declared.sheet.Sheet.{Sheet}
use Rattle.fw_facts.specs.declared.view.DeviceView.{DeviceView}
use Rattle.history_keeper.specs.Histories.{BothUnsettled, is_unsettled}
use Rattle.history_keeper.specs.declared.row.Row.{Row}
use Rattle.history_keeper.specs.declared.row.RowState.{RowState}
use Rattle.update_log.proofs.Devices.{devices-differ}
use Rattle.update_log.proofs.HistoryKept.{rows-history}
use Rattle.update_log.proofs.LegalOnce.{past-kept}
use Rattle.update_log.proofs.Lists.{All-find, by_test, find-passes}
use Rattle.update_log.proofs.Openings.{bytes-same, bytes-self}
use Rattle.update_log.proofs.WaitsOnce.{found-own, state_of}
use Rattle.update_log.proofs.WaitsKept.{AllBegun, wait-kept}
use Rattle.update_log.specs.Boards.{Board, devices}
use Rattle.update_log.specs.Holding.{is_live, live}
use Rattle.update_log.specs.Known.{Known, known, row_of, rows, view_of, views}
use Rattle.update_log.specs.Legal.{can_judge, found_view, may_judge}
use Rattle.core_state.specs.Core.{Core}
use Rattle.update_log.specs.Pasts.{finished, past_of}
use Rattle.update_log.specs.Steps.{view_of_row}
use Rattle.update_log.specs.declared.event.Event.{Event}
use Rattle.update_log.specs.declared.event.Query.{Query}
use Rattle.update_log.specs.declared.facts.Facts.{Facts}
use Rattle.update_log.specs.declared.live.LiveEntry.{LiveEntry}
use Rattle.daemon_core.specs.HouseLog.{IsAllowedSo, IsHouseLog}
use Rattle.daemon_core.specs.Housed.{basis_in, campaign_in, HouseLogView, past_in}
use Rattle.daemon_core.specs.Judging.{judged_by, judged_on, must_wait, standing, standing_of}
use Rattle.daemon_core.specs.Settling.{device_row, row_found, row_on, row_to_settle, waiting_row}
use Rattle.daemon_core.specs.declared.judged.DeviceRow.{DeviceRow}
use Rattle.daemon_core.specs.declared.judged.Standing.{Standing}

-- What was found, where a row waits.
pub record IsWaiting (views : List DeviceView) (rows : List Row) (selector : Selector) (entry : ℕ) : Type 0 where
  pub row : Row
  pub view : DeviceView
  pub view_is : found_view views selector ≡ Some view
  pub home : is_home view.seen ≡ true
  pub row_is : waiting_row rows view.sheet.device ≡ Some row
  pub entry_is : row.entry ≡ entry

pub is-waiting : (views : List DeviceView) (rows : List Row) (selector : Selector) (entry : ℕ) → device_row views rows selector ≡ DeviceRow.Waiting entry → IsWaiting views rows selector entry
is-waiting views rows selector entry h = at (found_view views selector) refl h
  where
    at-row : (view : DeviceView) → found_view views selector ≡ Some view → is_home view.seen ≡ true → (o : Option Row) → waiting_row rows view.sheet.device ≡ o → row_found o ≡ DeviceRow.Waiting entry → IsWaiting views rows selector entry
    at-row view v t None r g = cc
    at-row view v t (Some row) r g = record { row = row; view = view; view_is = v; home = t; row_is = r; entry_is = cc }

    at-home : (view : DeviceView) → found_view views selector ≡ Some view → (b : Bool) → is_home view.seen ≡ b → (if b then row_found (waiting_row rows view.sheet.device) else DeviceRow.NoDevice) ≡ DeviceRow.Waiting entry → IsWaiting views rows selector entry
    at-home view v false t g = cc
    at-home view v true t g = at-row view v t (waiting_row rows view.sheet.device) refl g

    at : (o : Option DeviceView) → found_view views selector ≡ o → row_on rows o ≡ DeviceRow.Waiting entry → IsWaiting views rows selector entry
    at None v g = cc
    at (Some view) v g = at-home view v (is_home view.seen) refl g

-- Devices differ in their IDs, so a row's device is the one that was found.

others : (b : Board) (bs : List Board) → ((j : ℕ) (d : Board) → j < length bs → b.sheet.device ≢ (slice_index_or bs j d).sheet.device) → AllByRecursion (λ (c : Board). b.sheet.device ≢ c.sheet.device) bs
others b [] h = tt
others b (c ∷ bs) h = (h zero c (omega arith), others b bs (λ j d l. h (suc j) d (omega (arith, l))))

got : (P : Board → Type 0) (f : Board → DeviceView) (bs : List Board) (at : ℕ) (view : DeviceView) → AllByRecursion P bs → slice_get (map f bs) at ≡ Some view → (c : Board) × P c × (f c ≡ view)
got P f [] at view a h = cc
got P f (c ∷ bs) zero view a h = (c, a.0, same_Some (f c) view h)
got P f (c ∷ bs) (suc at) view a h = got P f bs at view a.1 h

unique-view : (entries : List LiveEntry) (k : Known) (bs : List Board) (at : ℕ) (view : DeviceView) (device : List ℕ) → ((i j : ℕ) (d : Board) → i < j → j < length bs → (slice_index_or bs i d).sheet.device ≢ (slice_index_or bs j d).sheet.device) → slice_get (map (view_of entries k) bs) at ≡ Some view → view.sheet.device ≡ device
    → find (λ v. bytes_eq v.sheet.device device) (map (view_of entries k) bs) ≡ Some view
unique-view entries k [] at view device d h q = cc
unique-view entries k (b ∷ bs) zero view device d h q =
    let s : view_of entries k b ≡ view = same_Some (view_of entries k b) view h in
    let t : b.sheet.device ≡ device = ap (λ (v : DeviceView). v.sheet.device) s ∙ q in
    let u : bytes_eq b.sheet.device device ≡ true = subst (λ (x : List ℕ). bytes_eq b.sheet.device x ≡ true) t (bytes-self b.sheet.device) in
    rw u (ap Some s)
unique-view entries k (b ∷ bs) (suc at) view device d h q =
    by_test (bytes_eq b.sheet.device device) _
    (λ t. let w = got (λ (c : Board). b.sheet.device ≢ c.sheet.device) (view_of entries k) bs at view (others b bs (λ j e l. d zero (suc j) e (omega arith) (omega (arith, l)))) h in
    absurd (w.1 (bytes-same b.sheet.device device t ∙ sym q ∙ sym (ap (λ (v : DeviceView). v.sheet.device) w.2))))
    (λ f. rw f (unique-view entries k bs at view device (λ i j e l m. d (suc i) (suc j) e (omega (arith, l)) (omega (arith, m))) h q))

found-place : (views : List DeviceView) (selector : Selector) (view : DeviceView) → found_view views selector ≡ Some view → (at : ℕ) × (slice_get views at ≡ Some view)
found-place views selector view h = at (place selector views) h
  where
    at : (o : Option ℕ) → option_and_then (slice_get views) o ≡ Some view → (n : ℕ) × (slice_get views n ≡ Some view)
    at None h = cc
    at (Some n) h = (n, h)

found-device : (facts : Facts) (entries : List LiveEntry) (k : Known) (selector : Selector) (view : DeviceView) (row : Row) → found_view (map (view_of entries k) (devices facts)) selector ≡ Some view → row.device ≡ view.sheet.device → view_of_row (map (view_of entries k) (devices facts)) row ≡ Some view
found-device facts entries k selector view row h q =
    let p = found-place (map (view_of entries k) (devices facts)) selector view h in
    unique-view entries k (devices facts) p.0 view row.device (λ i j d l m. devices-differ facts i j d l m) p.1 (sym q)

-- A row that waits has a standing by which it waits or is judged.
abbrev pub is_open : Standing → Bool
is_open Standing.Settled = false
is_open Standing.Waits = true
is_open Standing.Absent = false
is_open (Standing.Judged version state) = true

open-so : (row : Row) (view : DeviceView) (u w : Bool) (o : Option DeviceView) → u ≡ true → o ≡ Some view → is_home view.seen ≡ true → is_open (if u then (if w then Standing.Waits else judged_on row o) else Standing.Settled) ≡ true
open-so row view false w o u v h = cc
open-so row view true true o u v h = refl
open-so row view true false o u v h = rw v (at view.sheet view.seen h)
  where
    at : (sheet : Sheet) (seen : Seen) → is_home seen ≡ true → is_open (judged_by row (version_shown sheet seen)) ≡ true
    at sheet (Seen.Home raw mode) h = refl
    at sheet Seen.Gone h = cc
    at sheet Seen.Stranger h = cc

-- What is known of a row that waits.
pub record SettleRow (a : HouseLogView) (selector : Selector) (entry : ℕ) : Type 0 where
  pub waiting : IsWaiting a.core.views a.core.rows selector entry
  pub row_is : row_of a.core.rows entry ≡ Some waiting.row
  pub opens : is_open (standing (past_in a) a.core.views entry waiting.row) ≡ true

pub settle-row : (a : HouseLogView) (selector : Selector) (entry : ℕ) → IsHouseLog a → row_to_settle a selector ≡ DeviceRow.Waiting entry → SettleRow a selector entry
settle-row a selector entry k h =
    let w = is-waiting a.core.views a.core.rows selector entry h in
    let passes = and_parts (bytes_eq w.row.device w.view.sheet.device) (is_unsettled w.row.state)
    (find-passes (λ (r : Row). bytes_eq r.device w.view.sheet.device && is_unsettled r.state) a.core.rows w.row w.row_is) in
    let valid = (past-kept (campaign_in a k.legal.0) (past_in a) k.stands.history k.legal.1).rows_kept.valid.entries in
    let own : AllByRecursion (λ (r : Row). row_of (rows (basis_in a) (past_in a)) r.entry ≡ Some r) (rows (basis_in a) (past_in a)) =
    found-own 1 (rows (basis_in a) (past_in a)) valid in
    let own' : AllByRecursion (λ (r : Row). row_of a.core.rows r.entry ≡ Some r) a.core.rows =
    subst (λ (rs : List Row). AllByRecursion (λ (r : Row). row_of rs r.entry ≡ Some r) rs) (sym k.stands.rows) own in
    let here : row_of a.core.rows w.row.entry ≡ Some w.row = All-find (λ (r : Row). row_of a.core.rows r.entry ≡ Some r) (λ (r : Row). bytes_eq r.device w.view.sheet.device && is_unsettled r.state) a.core.rows w.row own' w.row_is in
    let device : view_of_row a.core.views w.row ≡ Some w.view =
    subst (λ (vs : List DeviceView). view_of_row vs w.row ≡ Some w.view) (sym k.stands.views)
    (found-device a.facts (live (past_in a)) (known (basis_in a) (past_in a)) selector w.view w.row
    (subst (λ (vs : List DeviceView). found_view vs selector ≡ Some w.view) k.stands.views w.view_is) (bytes-same w.row.device w.view.sheet.device passes.0)) in
    record {
      waiting = w;
      row_is = subst (λ (n : ℕ). row_of a.core.rows n ≡ Some w.row) w.entry_is here;
      opens = open-so w.row w.view (is_unsettled w.row.state) (must_wait (past_in a) entry w.row.state) (view_of_row a.core.views w.row) passes.1 device w.home;
    }

-- The entry has a row.
pub settle-some : (a : HouseLogView) (selector : Selector) (entry : ℕ) → SettleRow a selector entry → IsSome (row_of a.core.rows entry)
settle-some a selector entry s = rw s.row_is refl

-- It isn't settled, nor is its device away.
pub settle-open : (a : HouseLogView) (selector : Selector) (entry : ℕ) (found : Standing) → SettleRow a selector entry → standing_of a entry ≡ Some found → is_open found ≡ true
settle-open a selector entry found s h =
    let e : Some (standing (past_in a) a.core.views entry s.waiting.row) ≡ Some found = rw s.row_is at h in
    subst (λ (x : Standing). is_open x ≡ true) (same_Some (standing (past_in a) a.core.views entry s.waiting.row) found e) s.opens

-- Which questions may be asked.

can-open : (past : List Event) (entry : ℕ) (state : RowState) → may_judge past state entry ≡ true → is_unsettled state ≡ true
can-open past entry RowState.Success h = cc
can-open past entry RowState.Failed h = cc
can-open past entry _ h = refl

-- A row that is of another device or is settled can't be judged.
not-judged : (past : List Event) (view : DeviceView) (r : Row) → (bytes_eq r.device view.sheet.device && is_unsettled r.state) ≡ false → can_judge past view r ≡ false
not-judged past view r h =
    by_test (can_judge past view r) _
    (λ t. let b = and_parts (bytes_eq view.sheet.device r.device && is_home view.seen) (may_judge past r.state r.entry) t in
    let c = and_parts (bytes_eq view.sheet.device r.device) (is_home view.seen) b.0 in
    let own : bytes_eq r.device view.sheet.device ≡ true = subst (λ (x : List ℕ). bytes_eq x view.sheet.device ≡ true) (bytes-same view.sheet.device r.device c.0) (bytes-self view.sheet.device) in
    let u : is_unsettled r.state ≡ true = can-open past r.entry r.state b.1 in
    let k : (bytes_eq r.device view.sheet.device && is_unsettled r.state) ≡ true = rw (own, u) refl in
    let bad : true ≡ false = sym k ∙ h in cc)
    (λ f. f)

none-waits : (past : List Event) (view : DeviceView) (rows : List Row) → waiting_row rows view.sheet.device ≡ None → list_any (can_judge past view) rows ≡ false
none-waits past view [] h = refl
none-waits past view (r ∷ rs) h =
    by_test (bytes_eq r.device view.sheet.device && is_unsettled r.state) _
    (λ t. let bad : Some r ≡ None = rw t at h in cc)
    (λ f. let c : can_judge past view r ≡ false = not-judged past view r f in
    let rest : list_any (can_judge past view) rs ≡ false = none-waits past view rs (rw f at h) in rw (c, rest) refl)

none-home : (past : List Event) (view : DeviceView) (rows : List Row) → is_home view.seen ≡ false → list_any (can_judge past view) rows ≡ false
none-home past view [] h = refl
none-home past view (r ∷ rs) h =
    let c : can_judge past view r ≡ false = ap (λ (b : Bool). b && may_judge past r.state r.entry) (and_right (bytes_eq view.sheet.device r.device) (is_home view.seen) h) in
    let rest : list_any (can_judge past view) rs ≡ false = none-home past view rs h in rw (c, rest) refl

none-beside : (past : List Event) (view : DeviceView) (r : Row) (rs : List Row) → (bytes_eq r.device view.sheet.device && is_unsettled r.state) ≡ true → ((j : ℕ) (d : Row) → j < length rs → BothUnsettled r (slice_index_or rs j d) → ⊥) → list_any (can_judge past view) rs ≡ false
none-beside past view r [] t h = refl
none-beside past view r (c ∷ rs) t h =
    by_test (bytes_eq c.device view.sheet.device && is_unsettled c.state) _
    (λ u. let a = and_parts (bytes_eq r.device view.sheet.device) (is_unsettled r.state) t in
    let b = and_parts (bytes_eq c.device view.sheet.device) (is_unsettled c.state) u in
    absurd (h zero c (omega arith) (bytes-same r.device view.sheet.device a.0 ∙ sym (bytes-same c.device view.sheet.device b.0), a.1, b.1)))
    (λ f. let k : can_judge past view c ≡ false = not-judged past view c f in
    let rest : list_any (can_judge past view) rs ≡ false = none-beside past view r rs t (λ j d l. h (suc j) d (omega (arith, l))) in rw (k, rest) refl)

one-waits : (past : List Event) (view : DeviceView) (rows : List Row) (row : Row) → ((i j : ℕ) (d : Row) → i < j → j < length rows → BothUnsettled (slice_index_or rows i d) (slice_index_or rows j d) → ⊥) → waiting_row rows view.sheet.device ≡ Some row → may_judge past row.state row.entry ≡ false → list_any (can_judge past view) rows ≡ false
one-waits past view [] row d h m = refl
one-waits past view (r ∷ rs) row d h m =
    by_test (bytes_eq r.device view.sheet.device && is_unsettled r.state) _
    (λ t. let h' : Some r ≡ Some row = rw t at h in
    let s : r ≡ row = same_Some r row h' in
    let mine : can_judge past view r ≡ false = and_right (bytes_eq view.sheet.device r.device && is_home view.seen) (may_judge past r.state r.entry) (subst (λ (x : Row). may_judge past x.state x.entry ≡ false) (sym s) m) in
    let rest : list_any (can_judge past view) rs ≡ false = none-beside past view r rs t (λ j e l. d zero (suc j) e (omega arith) (omega (arith, l))) in rw (mine, rest) refl)
    (λ f. let k : can_judge past view r ≡ false = not-judged past view r f in
    let rest : list_any (can_judge past view) rs ≡ false = one-waits past view rs row (λ i j e l n. d (suc i) (suc j) e (omega (arith, l)) (omega (arith, n))) (rw f at h) m in rw (k, rest) refl)

waits-not : (past : List Event) (entry : ℕ) (state : RowState) → must_wait past entry state ≡ true → (state ≡ RowState.NeedsReboot → is_live (live past) entry ≡ false) → may_judge past state entry ≡ false
waits-not past entry RowState.Begun h n = rw h refl
waits-not past entry RowState.NeedsReboot h n =
    let l : is_live (live past) entry ≡ false = n refl in
    let f : finished entry past ≡ true = rw l at h in rw f refl
waits-not past entry _ h n = refl

waits-so : (row : Row) (u w : Bool) (o : Option DeviceView) → (if u then (if w then Standing.Waits else judged_on row o) else Standing.Settled) ≡ Standing.Waits → w ≡ true
waits-so row false w o h = cc
waits-so row true true o h = refl
waits-so row true false None h = cc
waits-so row true false (Some view) h = at (version_of view) h
  where
    at : (o : Option (List ℕ)) → judged_by row o ≡ Standing.Waits → false ≡ true
    at None h = cc
    at (Some version) h = cc

live-begun : (rows : List Row) (entries : List LiveEntry) (entry : ℕ) → AllBegun rows entries → is_live entries entry ≡ true → state_of rows entry ≡ Some RowState.Begun
live-begun rows [] entry a h = cc
live-begun rows (x ∷ xs) entry a h =
    by_test (x.entry == entry) _
    (λ t. subst (λ (n : ℕ). state_of rows n ≡ Some RowState.Begun) (eqb-true x.entry entry t) a.0)
    (λ f. live-begun rows xs entry a.1 (rw f at h))

-- The question, over what stands for the log.
over-core : (a : HouseLogView) (client : ℕ) (selector : Selector) → IsHouseLog a → IfSome (found_view a.core.views selector) (λ view. list_any (can_judge (past_in a) view) a.core.rows ≡ false) → IsAllowedSo (basis_in a) a.first (past_in a) (Event.Query client (Query.Settle selector))
over-core a client selector k h =
    λ plans.
    subst (λ (vs : List DeviceView). IfSome (found_view vs selector) (λ view. list_any (can_judge (past_in a) view) (rows (basis_in a) (past_in a)) ≡ false)) k.stands.views
    (subst (λ (rs : List Row). IfSome (found_view a.core.views selector) (λ view. list_any (can_judge (past_in a) view) rs ≡ false)) k.stands.rows h)

found-none : (past : List Event) (rows : List Row) (o : Option DeviceView) → row_on rows o ≡ DeviceRow.NoDevice → IfSome o (λ view. list_any (can_judge past view) rows ≡ false)
found-none past rows None h = tt
found-none past rows (Some view) h = at (is_home view.seen) refl h
  where
    at-row : (o : Option Row) → row_found o ≡ DeviceRow.NoDevice → ⊥
    at-row None h = cc
    at-row (Some row) h = cc

    at : (b : Bool) → is_home view.seen ≡ b → (if b then row_found (waiting_row rows view.sheet.device) else DeviceRow.NoDevice) ≡ DeviceRow.NoDevice → list_any (can_judge past view) rows ≡ false
    at true e h = absurd (at-row (waiting_row rows view.sheet.device) h)
    at false e h = none-home past view rows e

found-nothing : (past : List Event) (rows : List Row) (o : Option DeviceView) → row_on rows o ≡ DeviceRow.Nothing → IfSome o (λ view. list_any (can_judge past view) rows ≡ false)
found-nothing past rows None h = tt
found-nothing past rows (Some view) h = at (is_home view.seen) h
  where
    at-row : (o : Option Row) → waiting_row rows view.sheet.device ≡ o → row_found o ≡ DeviceRow.Nothing → list_any (can_judge past view) rows ≡ false
    at-row None e h = none-waits past view rows e
    at-row (Some row) e h = cc

    at : (b : Bool) → (if b then row_found (waiting_row rows view.sheet.device) else DeviceRow.NoDevice) ≡ DeviceRow.Nothing → list_any (can_judge past view) rows ≡ false
    at true h = at-row (waiting_row rows view.sheet.device) refl h
    at false h = cc

-- The question of a device that isn't there, or of which each row is settled, may be asked.
pub none-allowed : (a : HouseLogView) (client : ℕ) (selector : Selector) → IsHouseLog a → row_to_settle a selector ≡ DeviceRow.NoDevice → IsAllowedSo (basis_in a) a.first (past_in a) (Event.Query client (Query.Settle selector))
none-allowed a client selector k h = over-core a client selector k (found-none (past_in a) a.core.rows (found_view a.core.views selector) h)

pub nothing-allowed : (a : HouseLogView) (client : ℕ) (selector : Selector) → IsHouseLog a → row_to_settle a selector ≡ DeviceRow.Nothing → IsAllowedSo (basis_in a) a.first (past_in a) (Event.Query client (Query.Settle selector))
nothing-allowed a client selector k h = over-core a client selector k (found-nothing (past_in a) a.core.rows (found_view a.core.views selector) h)

-- So may that of a device whose row must wait.
pub waits-allowed : (a : HouseLogView) (client : ℕ) (selector : Selector) (entry : ℕ) → IsHouseLog a → SettleRow a selector entry → standing_of a entry ≡ Some Standing.Waits → IsAllowedSo (basis_in a) a.first (past_in a) (Event.Query client (Query.Settle selector))
waits-allowed a client selector entry k s h =
    let w = s.waiting in
    let e : Some (standing (past_in a) a.core.views entry w.row) ≡ Some Standing.Waits = rw s.row_is at h in
    let must : must_wait (past_in a) entry w.row.state ≡ true =
    waits-so w.row (is_unsettled w.row.state) (must_wait (past_in a) entry w.row.state) (view_of_row a.core.views w.row) (same_Some (standing (past_in a) a.core.views entry w.row) Standing.Waits e) in
    let begun : AllBegun a.core.rows (live (past_in a)) =
    subst (λ (rs : List Row). AllBegun rs (live (past_in a))) (sym k.stands.rows)
    (wait-kept (campaign_in a k.legal.0) (past_in a) k.stands.history k.legal.1).begun in
    let not-live : w.row.state ≡ RowState.NeedsReboot → is_live (live (past_in a)) entry ≡ false =
    λ n. by_test (is_live (live (past_in a)) entry) _
    (λ t. let b : state_of a.core.rows entry ≡ Some RowState.Begun = live-begun a.core.rows (live (past_in a)) entry begun t in
    let c : Some w.row.state ≡ Some RowState.Begun = rw s.row_is at b in
    let bad : RowState.NeedsReboot ≡ RowState.Begun = sym n ∙ same_Some w.row.state RowState.Begun c in cc)
    (λ f. f) in
    let may : may_judge (past_in a) w.row.state w.row.entry ≡ false = subst (λ (x : ℕ). may_judge (past_in a) w.row.state x ≡ false) (sym w.entry_is) (waits-not (past_in a) entry w.row.state must not-live) in
    let differ = subst (λ (rs : List Row). AllPairs (λ x y. BothUnsettled x y → ⊥) rs) (sym k.stands.rows)
    (rows-history (campaign_in a k.legal.0) (past_in a) k.stands.history k.legal.1).unsettled in
    over-core a client selector k
    (rw w.view_is (one-waits (past_in a) w.view a.core.rows w.row (λ i j d l m. differ i j d l m) w.row_is may))

-- The same over values that are equal to those of the house log.
pub row-over : (a b : HouseLogView) (selector : Selector) (entry : ℕ) → a ≡ b → IsHouseLog a → row_to_settle b selector ≡ DeviceRow.Waiting entry → SettleRow a selector entry
row-over a b selector entry e k h = settle-row a selector entry k (subst (λ (x : HouseLogView). row_to_settle x selector ≡ DeviceRow.Waiting entry) (sym e) h)

pub some-over : (a : HouseLogView) (core : Core) (selector : Selector) (entry : ℕ) → core ≡ a.core → SettleRow a selector entry → IsSome (row_of core.rows entry)
some-over a core selector entry e s = subst (λ (x : Core). IsSome (row_of x.rows entry)) (sym e) (settle-some a selector entry s)

pub standing-over : (a : HouseLogView) (core : Core) (entry : ℕ) (found : Standing) → core ≡ a.core → option_map (standing (past_of core.log) core.views entry) (row_of core.rows entry) ≡ Some found → standing_of a entry ≡ Some found
standing-over a core entry found e h = subst (λ (x : Core). option_map (standing (past_of x.log) x.views entry) (row_of x.rows entry) ≡ Some found) e h

pub event-over : (a b : HouseLogView) (client : ℕ) (selector : Selector) (event : Event) → a ≡ b → event ≡ Event.Query client (Query.Settle selector) → IsAllowedSo (basis_in a) a.first (past_in a) (Event.Query client (Query.Settle selector)) → IsAllowedSo (basis_in b) b.first (past_in b) event
event-over a b client selector event e q h =
    subst (λ (x : HouseLogView). IsAllowedSo (basis_in x) x.first (past_in x) event) e
    (subst (λ (x : Event). IsAllowedSo (basis_in a) a.first (past_in a) x) (sym q) h)

pub found-over : (a : HouseLogView) (core : Core) (selector : Selector) (found : DeviceRow) → core ≡ a.core → found ≡ device_row core.views core.rows selector → row_to_settle a selector ≡ found
found-over a core selector found e h = sym (h ∙ ap (λ (x : Core). device_row x.views x.rows selector) e)

-- No row that waits stands otherwise.
pub never-shut : (found : Standing) → is_open found ≡ true → (found ≡ Standing.Settled) ⊎ (found ≡ Standing.Absent) → ⊥
never-shut found o (inl e) = let bad : false ≡ true = ap is_open (sym e) ∙ o in cc
never-shut found o (inr e) = let bad : false ≡ true = ap is_open (sym e) ∙ o in cc
