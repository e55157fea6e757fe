-- A house after the board of a device was taken out of its port.
use Rattle.std.proofs.Common.{◌≡◌, ◌≢◌, ℕ, zero, suc, ◌<◌, ◌≤◌, ◌+◌, Bool, true, false, ◌||◌, List, [], ◌∷◌, ◌++◌, length, map, refl, ap, sym, ◌∙◌, subst, arith, ◌⊎◌, inl, inr}
use Rattle.std.proofs.lemmas.List.{append-nil}
use Rattle.std.proofs.lemmas.Option.{slice_get-map, slice_get_within, same_Some}
use Rattle.std.specs.Prelude.{Option, Some, None, Ok, IsSome, IsTrue, MatchBool, Contains, if◌then◌else◌, find, option_map, option_and_then, slice_get, slice_index_or, slice_set, unwrap_or}
use Rattle.std.specs.List.{AllByRecursion, list_any}
use Rattle.std.specs.Str.{bytes_eq}
use Rattle.device_list.specs.Lists.{place}
use Rattle.device_list.specs.declared.selector.Selector.{Selector}
use Rattle.emulated_boards.specs.Boards.{BoardState}
use Rattle.emulated_boards.specs.Conditions.{booted, plugged, unplugged, view_of as shown_of}
use Rattle.emulated_boards.specs.declared.condition.Condition.{Condition}
use Rattle.emulated_boards.specs.declared.mark.Mark.{Mark}
use Rattle.fw_facts.specs.Views.{is_home}
use Rattle.fw_facts.specs.declared.seen.Seen.{Seen}
use Rattle.fw_facts.specs.declared.sheet.Sheet.{Sheet}
use Rattle.fw_facts.specs.declared.view.DeviceView.{DeviceView}
use Rattle.history_keeper.specs.declared.change.Change.{Change}
use Rattle.history_keeper.specs.declared.row.Row.{Row}
use Rattle.history_keeper.specs.Signs.{KeeperSigns}
use Rattle.update_log.proofs.Lists.{by_test, eqb-other, eqb-self}
use Rattle.update_log.proofs.Openings.{bytes-self}
use Rattle.update_log.specs.Boards.{Board, board_at, devices}
use Rattle.core_state.specs.CoreSteps.{board_on}
use Rattle.update_log.specs.Holding.{held, live}
use Rattle.update_log.specs.Known.{Basis, Known, board_found, doubt, for_board, is_board_of, is_on, known, rows, seen, tells, view_of, views_in}
use Rattle.update_log.specs.Legal.{PlugAnswered, found_view, unplug_refused}
use Rattle.update_log.specs.Once.{ShowsFirst}
use Rattle.update_log.specs.Pasts.{boots}
use Rattle.update_log.specs.Shows.{FreshShows, HasRaw, RawAllowed, began_since, first_of_board, home_before, home_or, is_began, tells_home, told}
use Rattle.core_state.specs.Core.{Core}
use Rattle.update_log.specs.declared.answer.PlugAnswer.{PlugAnswer}
use Rattle.update_log.specs.declared.event.Event.{Event}
use Rattle.update_log.specs.declared.facts.Facts.{Facts}
use Rattle.update_log.specs.declared.live.LiveEntry.{LiveEntry}
use Rattle.daemon_core.specs.HouseLog.{Appended, IsAllowedSo, IsHouseLog, Runs, roomier}
use Rattle.daemon_core.specs.Boards.{BoardIsHome, BoardStands, PlaceStands, faulty_ends, is_out}
use Rattle.daemon_core.specs.House.{IsHouse}
use Rattle.daemon_core.specs.Housed.{basis_in, HouseLogView, Housed, Place, past, past_in}
use Rattle.daemon_core.specs.Keeping.{KeepsSo}
use Rattle.daemon_core.specs.Owed.{owed}
use Rattle.daemon_core.specs.Plugging.{BoardMoved, Moved, MovedAs, WasMoved, number_found}
use Rattle.daemon_core.specs.Quiet.{moves_none}
use Rattle.daemon_core.specs.Returns.{place_at}
use Rattle.daemon_core.proofs.ClaimAlone.{HasSheet, device-sheet, on-board, row-on}
use Rattle.daemon_core.proofs.ClaimBoards.{Passes, passes-same}
use Rattle.daemon_core.proofs.ClaimEnds.{get-set, length-set, place-found}
use Rattle.daemon_core.proofs.ClaimHouse.{IsReady, runs-takes}
use Rattle.daemon_core.proofs.HouseKept.{house-next}
use Rattle.daemon_core.proofs.PlacesKept.{place-same}

-- The device that a selector finds has a board.
pub record FoundBoard (facts : Facts) (entries : List LiveEntry) (k : Known) (selector : Selector) (view : DeviceView) : Type 0 where
  pub board : Board
  pub sheet : slice_get facts.sheets board.number ≡ Some board.sheet
  pub number_is : board_found facts entries k selector ≡ Some board.number
  pub view_is : view_of entries k board ≡ view

got : (facts : Facts) (f : Board → DeviceView) (bs : List Board) (at : ℕ) (view : DeviceView) → AllByRecursion (HasSheet facts.sheets) bs → slice_get (map f bs) at ≡ Some view
    → (c : Board) × (slice_get facts.sheets c.number ≡ Some c.sheet) × (slice_get bs at ≡ Some c) × (f c ≡ view)
got facts f [] at view a h = cc
got facts f (c ∷ bs) zero view a h = (c, a.0, refl, same_Some (f c) view h)
got facts f (c ∷ bs) (suc at) view a h = got facts f bs at view a.1 h

pub found-board : (facts : Facts) (entries : List LiveEntry) (k : Known) (selector : Selector) (view : DeviceView) → found_view (views_in facts entries k) selector ≡ Some view → FoundBoard facts entries k selector view
found-board facts entries k selector view h = at (place selector (views_in facts entries k)) refl h
  where
    at : (o : Option ℕ) → place selector (views_in facts entries k) ≡ o → option_and_then (slice_get (views_in facts entries k)) o ≡ Some view → FoundBoard facts entries k selector view
    at None e g = cc
    at (Some n) e g =
        let c = got facts (view_of entries k) (devices facts) n view (device-sheet facts) g in
        record {
          board = c.0;
          sheet = c.1;
          number_is = ap (λ (o : Option ℕ). option_and_then (board_at facts) o) e ∙ ap (λ (o : Option Board). option_map (λ b. b.number) o) c.2;
          view_is = c.3;
        }

-- An entry on its board is on the device.
board-on : (facts : Facts) (all : List Row) (c : Board) (entry : ℕ) (l : LiveEntry) → slice_get facts.sheets c.number ≡ Some c.sheet → is_board_of facts all l.entry c.number ≡ true → is_on all c.sheet.device l ≡ true
board-on facts all c entry l s t =
    let r = row-on facts all l.entry c.number t in
    let x = on-board facts r.row.device c.number r.board_is in
    let same : x.board.sheet ≡ c.sheet = same_Some x.board.sheet c.sheet (sym x.sheet ∙ s) in
    let d : r.row.device ≡ c.sheet.device = sym x.device_is ∙ ap (λ (y : Sheet). y.device) same in
    let e : bytes_eq r.row.device c.sheet.device ≡ true = subst (λ (y : List ℕ). bytes_eq r.row.device y ≡ true) d (bytes-self r.row.device) in
    ap (λ (o : Option Row). unwrap_or (option_map (λ r. bytes_eq r.device c.sheet.device) o) false) r.row_is ∙ e

none-on : (facts : Facts) (all : List Row) (c : Board) (entries : List LiveEntry) → slice_get facts.sheets c.number ≡ Some c.sheet → option_map (λ l. l.entry) (find (is_on all c.sheet.device) entries) ≡ None → list_any (λ l. is_board_of facts all l.entry c.number) entries ≡ false
none-on facts all c [] s h = refl
none-on facts all c (l ∷ ls) s h =
    by_test (is_on all c.sheet.device l) _
    (λ t. let bad : Some l.entry ≡ None = rw t at h in cc)
    (λ n. let h' : option_map (λ l. l.entry) (find (is_on all c.sheet.device) ls) ≡ None = rw n at h in
    let rest : list_any (λ l. is_board_of facts all l.entry c.number) ls ≡ false = none-on facts all c ls s h' in
    by_test (is_board_of facts all l.entry c.number) _
    (λ t. let bad : true ≡ false = sym (board-on facts all c l.entry l s t) ∙ n in cc)
    (λ f. rw (f, rest) refl))

-- So a device without a live entry isn't out.
pub free-home : (basis : Basis) (past : List Event) (c : Board) → slice_get basis.facts.sheets c.number ≡ Some c.sheet → (view_of (live past) (known basis past) c).claim ≡ None → is_out basis past c.number ≡ false
free-home basis past c s h = none-on basis.facts (rows basis past) c (live past) s h

at-home : (basis : Basis) (first : List Seen) (past : List Event) (number : ℕ) (o : Option BoardState) → is_out basis past number ≡ false → BoardIsHome basis first past number o → IsSome o
at-home basis first past number None n h = let bad : true ≡ false = sym h ∙ n in cc
at-home basis first past number (Some b) n h = refl

-- What is known of the board that is to be moved, whose number the code reads.
pub record MovePlan (a : HouseLogView) (places : List Place) (device : Selector) (n : ℕ) : Type 0 where
  pub found : board_found a.facts (live (past_in a)) (known (basis_in a) (past_in a)) device ≡ Some n
  pub number_is : number_found a device ≡ Some n
  pub within : n < length places
  pub there : slice_get places n ≡ Some (place_at places n)
  pub stands : PlaceStands (basis_in a) a.first (past_in a) n (place_at places n)
  pub home : IsSome (place_at places n).board
  pub is_in : is_out (basis_in a) (past_in a) n ≡ false

selector-board : (facts : Facts) (entries : List LiveEntry) (k : Known) (selector : Selector) → board_on (map (λ b. b.number) (devices facts)) (views_in facts entries k) selector ≡ board_found facts entries k selector
selector-board facts entries k selector = at (place selector (views_in facts entries k))
  where
    at : (o : Option ℕ) → option_and_then (slice_get (map (λ (b : Board). b.number) (devices facts))) o ≡ option_and_then (board_at facts) o
    at None = refl
    at (Some n) = slice_get-map (λ (b : Board). b.number) (devices facts) n

number-over : (a : HouseLogView) (device : Selector) → IsHouseLog a → number_found a device ≡ board_found a.facts (live (past_in a)) (known (basis_in a) (past_in a)) device
number-over a device k =
    ap (λ (bs : List ℕ). board_on bs a.core.views device) k.stands.boards
    ∙ ap (λ (vs : List DeviceView). board_on (map (λ b. b.number) (devices a.facts)) vs device) k.stands.views
    ∙ selector-board a.facts (live (past_in a)) (known (basis_in a) (past_in a)) device

pub move-plan : {K : Type 0} (signs : KeeperSigns K) (h : Housed K) (device : Selector) (n : ℕ) (view : DeviceView) → IsHouse signs h → IsHouseLog h.house_log → found_view h.house_log.core.views device ≡ Some view → view.claim ≡ None → n ≡ unwrap_or (number_found h.house_log device) 0 → MovePlan h.house_log h.places device n
move-plan signs h device n view k o f free e =
    let a : HouseLogView = h.house_log in
    let g = found-board a.facts (live (past_in a)) (known (basis_in a) (past_in a)) device view (subst (λ (vs : List DeviceView). found_view vs device ≡ Some view) o.stands.views f) in
    let num : number_found a device ≡ Some g.board.number = number-over a device o ∙ g.number_is in
    let same : n ≡ g.board.number = e ∙ ap (λ (x : Option ℕ). unwrap_or x 0) num in
    let in_sheets : g.board.number < length a.facts.sheets = slice_get_within a.facts.sheets g.board.number g.board.sheet g.sheet in
    let within : n < length h.places = (let c = k.count in omega (arith, same, in_sheets, c)) in
    let there : slice_get h.places n ≡ Some (place_at h.places n) = place-found h.places n within in
    let stands : PlaceStands (basis_in a) a.first (past_in a) n (place_at h.places n) = k.places n (place_at h.places n) there in
    let is_in : is_out (basis_in a) (past_in a) n ≡ false =
    subst (λ (m : ℕ). is_out (basis_in a) (past_in a) m ≡ false) (sym same) (free-home (basis_in a) (past_in a) g.board g.sheet (ap (λ (v : DeviceView). v.claim) g.view_is ∙ free)) in
    record {
      found = g.number_is ∙ ap Some (sym same);
      number_is = num ∙ ap Some (sym same);
      within = within;
      there = there;
      stands = stands;
      home = at-home (basis_in a) a.first (past_in a) n (place_at h.places n).board is_in stands.home;
      is_in = is_in;
    }

-- A house whose board at one place was moved, at an event that tells of that board alone.
pub house-moved : {K : Type 0} (signs : KeeperSigns K) (client : ℕ) (event : Event) (n : ℕ) (after : Place) (old : Housed K) (new : HouseLogView) → IsHouse signs old → IsHouseLog old.house_log → IsHouseLog new → Appended client event old.house_log new → old.house_log.loaded ≡ true
    → rows (basis_in old.house_log) (event ∷ past old) ≡ rows (basis_in old.house_log) (past old) → doubt (basis_in old.house_log) (event ∷ past old) ≡ doubt (basis_in old.house_log) (past old) → held (event ∷ past old) ≡ held (past old)
    → ((m : ℕ) → m ≢ n → Passes (basis_in old.house_log) (past old) event m) → PlaceStands (basis_in old.house_log) old.house_log.first (event ∷ past old) n after
    → IsHouse signs (record { house_log = new; places = slice_set old.places n after; pool = old.pool; keeper = old.keeper })
house-moved signs client event n after old new h o k a loaded r d l passes own =
    house-next signs client event old (record { house_log = new; places = slice_set old.places n after; pool = old.pool; keeper = old.keeper }) h a k
    (record {
      count = length-set old.places n after;
      places = λ m place e. at m place (get-set old.places n m after place e);
      loaded = loaded;
      kept =
          subst (λ (x : List Row). KeepsSo old.house_log.reopened signs old.keeper x (doubt (basis_in old.house_log) (event ∷ past old))) (o.stands.rows ∙ sym r)
          (subst (λ (x : Option Change). KeepsSo old.house_log.reopened signs old.keeper old.house_log.core.rows x) (o.stands.doubt ∙ sym d) (h.kept loaded));
      capacity = refl;
      free = ap (λ (x : ℕ). old.pool.free + x) l ∙ h.free;
    })
  where
    at : (m : ℕ) (place : Place) → ((m ≡ n) × (after ≡ place)) ⊎ ((m ≢ n) × (slice_get old.places m ≡ Some place)) → PlaceStands (basis_in old.house_log) old.house_log.first (event ∷ past old) m place
    at m place (inl e) =
        subst (λ (x : ℕ). PlaceStands (basis_in old.house_log) old.house_log.first (event ∷ past old) x place) (sym e.0)
        (subst (λ (p : Place). PlaceStands (basis_in old.house_log) old.house_log.first (event ∷ past old) n p) e.1 own)
    at m place (inr e) =
        place-same (basis_in old.house_log) old.house_log.first (past old) (event ∷ past old) m place
        (passes-same (basis_in old.house_log) old.house_log.first (past old) event m (passes m e.0)) (h.places m place e.1)

-- Unplugs.

abbrev pub gone_event : ℕ → Selector → Event
gone_event client device = Event.Unplug client device (PlugAnswer.Done Seen.Gone)

pub for-other : (n m : ℕ) (shown : Seen) → m ≢ n → for_board (Some n) m shown ≡ None
for-other n m shown d = rw (eqb-other n m (λ s. d (sym s))) refl

pub for-own : (n : ℕ) (shown : Seen) → for_board (Some n) n shown ≡ Some shown
for-own n shown = rw (eqb-self n) refl

module _ (basis : Basis) (first : List Seen) (past : List Event) (client : ℕ) (device : Selector) (n : ℕ) (f : board_found basis.facts (live past) (known basis past) device ≡ Some n) where
  pub gone-passes : (m : ℕ) → m ≢ n → Passes basis past (gone_event client device) m
  gone-passes m d =
      record {
        told = refl;
        same_tells = ap (λ (o : Option ℕ). for_board o m Seen.Gone) f ∙ for-other n m Seen.Gone d;
        faulty = refl;
        out = refl;
        opened = refl;
        marks = refl;
        booted = refl;
        raws = λ e raw r. r;
      }

  tells-gone : tells basis.facts (live past) (known basis past) (gone_event client device) n ≡ Some Seen.Gone
  tells-gone = ap (λ (o : Option ℕ). for_board o n Seen.Gone) f ∙ for-own n Seen.Gone

  seen-gone : seen basis (gone_event client device ∷ past) n ≡ Seen.Gone
  seen-gone = ap (λ (o : Option Seen). unwrap_or o (seen basis past n)) tells-gone

  before-gone : home_before basis first (gone_event client device ∷ past) n ≡ home_before basis first past n
  before-gone = ap (λ (o : Option Seen). home_or o (home_before basis first past n)) tells-gone

  began-gone : began_since basis first (gone_event client device ∷ past) n ≡ began_since basis first past n
  began-gone = ap (λ (o : Option Seen). if tells_home o then false else began_since basis first past n) tells-gone

  told-gone : told basis (gone_event client device ∷ past) n ≡ told basis past n
  told-gone = append-nil _

  raw-gone : (ms : List Mark) (raw : ℕ) → RawAllowed basis first past n ms raw → RawAllowed basis first (gone_event client device ∷ past) n ms raw
  raw-gone ms raw (inl h) = inl (subst (λ (x : Seen). HasRaw x raw) (sym before-gone) h)
  raw-gone ms raw (inr (inl h)) = inr (inl (h.0, subst (λ (x : Bool). IsTrue (list_any is_began ms || x)) (sym began-gone) h.1))
  raw-gone ms raw (inr (inr w)) = inr (inr (w.0, w.1, subst (λ (x : List Mark). Contains (x ++ ms) (Mark.Ended w.0 w.1)) (sym told-gone) w.2, w.3))

  fresh-gone : (ms : List Mark) (shown : Seen) → FreshShows basis first past n ms shown → FreshShows basis first (gone_event client device ∷ past) n ms shown
  fresh-gone ms shown k = record { raw = λ raw mode e. raw-gone ms raw (k.raw raw mode e); mode = k.mode }

  stands-gone : (p q : Place) (b after : BoardState) (tail : List Mark) → WasMoved unplugged p q b after → BoardStands basis first past n b tail → BoardStands basis first (gone_event client device ∷ past) n after tail
  stands-gone p q b after tail w k =
      record {
        fits = record {
          journal = record {
            told_and_tail = w.same.journal ∙ k.fits.journal.told_and_tail ∙ ap (λ (x : List Mark). x ++ tail) (sym told-gone);
            tail_is = k.fits.journal.tail_is;
          };
          view = λ _ _. ap shown_of w.condition ∙ sym seen-gone;
          unwritten = λ _. subst (λ (c : Condition). ShowsFirst (shown_of c) (first_of_board first n)) (sym w.condition) tt;
        };
        boots = λ absent.
            subst (λ (c : Condition). FreshShows basis first (gone_event client device ∷ past) n tail (shown_of (booted absent c))) (sym w.condition)
            (fresh-gone tail (shown_of (booted absent b.condition)) (k.boots absent));
        plugs = λ e.
            subst (λ (c : Condition). FreshShows basis first (gone_event client device ∷ past) n [] (shown_of (plugged c))) (sym w.condition)
            (fresh-gone [] (shown_of (plugged b.condition)) (k.plugs e));
        staged = λ image e.
            let x = k.staged image (sym (ap (λ (c : Condition). c.staged) w.condition) ∙ e) in
            (x.0, x.1, subst (λ (ms : List Mark). Contains ms (Mark.Ended x.0 x.1)) (sym w.same.journal) x.2, x.3);
        faults = subst (λ (x : ℕ). faulty_ends basis past n ≤ x) (sym w.same.faults) k.faults;
      }

  pub place-gone : (p q : Place) → Moved unplugged p q → PlaceStands basis first past n p → PlaceStands basis first (gone_event client device ∷ past) n q
  place-gone p q (b, after, w) k =
      let h : BoardIsHome basis first past n (Some b) = subst (λ (o : Option BoardState). BoardIsHome basis first past n o) w.was k.home in
      record {
        told = w.told ∙ k.told ∙ ap length (sym told-gone);
        home = subst (λ (o : Option BoardState). BoardIsHome basis first (gone_event client device ∷ past) n o) (sym w.is) (h.0, (h.1.0, stands-gone p q b after h.1.0 w h.1.1));
      }

-- A device that isn't refused is found, and no entry of it is live.
pub record IsFreeOut (o : Option DeviceView) : Type 0 where
  pub view : DeviceView
  pub view_is : o ≡ Some view
  pub free : view.claim ≡ None

pub free-out : (o : Option DeviceView) → unplug_refused o ≡ None → IsFreeOut o
free-out None h = cc
free-out (Some view) h = at view.claim refl h
  where
    at : (claim : Option ℕ) → view.claim ≡ claim → unwrap_or (option_map (λ entry. Some (PlugAnswer.Busy entry)) claim) (if is_home view.seen then None else Some PlugAnswer.NotThere) ≡ None → IsFreeOut (Some view)
    at (Some entry) e g = cc
    at None e g = record { view = view; view_is = refl; free = e }

unplug-allowed : (a : HouseLogView) (client : ℕ) (device : Selector) (o : Option PlugAnswer) (answer : PlugAnswer) → IsHouseLog a → unplug_refused (found_view a.core.views device) ≡ o → PlugAnswered o (λ s. s ≡ Seen.Gone) answer → IsAllowedSo (basis_in a) a.first (past_in a) (Event.Unplug client device answer)
unplug-allowed a client device o answer k e p =
    λ plans.
    subst (λ (vs : List DeviceView). PlugAnswered (unplug_refused (found_view vs device)) (λ s. s ≡ Seen.Gone) answer) k.stands.views
    (subst (λ (x : Option PlugAnswer). PlugAnswered x (λ s. s ≡ Seen.Gone) answer) (sym e) p)

-- What was refused may be put behind the log.
pub unplug-refused_over : (a b : HouseLogView) (core : Core) (client : ℕ) (device : Selector) (refused : PlugAnswer) (event : Event) → a ≡ b → core ≡ a.core → IsHouseLog a → Some refused ≡ unplug_refused (found_view core.views device) → event ≡ Event.Unplug client device refused → IsAllowedSo (basis_in b) b.first (past_in b) event
unplug-refused_over a b core client device refused event e s k h q =
    subst (λ (x : HouseLogView). IsAllowedSo (basis_in x) x.first (past_in x) event) e
    (subst (λ (x : Event). IsAllowedSo (basis_in a) a.first (past_in a) x) (sym q)
    (unplug-allowed a client device (Some refused) refused k (ap (λ (x : Core). unplug_refused (found_view x.views device)) (sym s) ∙ sym h) refl))

pub unplug-free_over : (a b : HouseLogView) (core : Core) (device : Selector) → a ≡ b → core ≡ a.core → None ≡ unplug_refused (found_view core.views device) → unplug_refused (found_view b.core.views device) ≡ None
unplug-free_over a b core device e s h =
    ap (λ (x : HouseLogView). unplug_refused (found_view x.core.views device)) (sym e) ∙ ap (λ (x : Core). unplug_refused (found_view x.views device)) (sym s) ∙ sym h

pub unplug-ready : (a b : HouseLogView) (client : ℕ) (device : Selector) → a ≡ b → IsHouseLog a → Runs b → 0 < boots (past_in b) → owed (past_in b) + 1 ≤ b.room → unplug_refused (found_view b.core.views device) ≡ None → IsReady a (gone_event client device)
unplug-ready a b client device e k r z w h =
    record {
      takes = runs-takes a (gone_event client device) (subst Runs (sym e) r) (subst (λ (x : HouseLogView). 0 < boots (past_in x)) (sym e) z) refl;
      allowed = unplug-allowed a client device None (PlugAnswer.Done Seen.Gone) k (ap (λ (x : HouseLogView). unplug_refused (found_view x.core.views device)) e ∙ h) refl;
      room = subst (λ (x : HouseLogView). owed (past_in x) + 1 ≤ x.room) (sym e) w;
      row = (let n = ap length k.stands.rows in omega (arith, n));
    }

-- The place that the code reads.
pub unplug-plan : {K : Type 0} (signs : KeeperSigns K) (h : Housed K) (b : HouseLogView) (device : Selector) (n : ℕ) → h.house_log ≡ b → IsHouse signs h → IsHouseLog h.house_log → unplug_refused (found_view b.core.views device) ≡ None → n ≡ unwrap_or (number_found h.house_log device) 0 → MovePlan h.house_log h.places device n
unplug-plan signs h b device n e k o r num =
    let f = free-out (found_view h.house_log.core.views device) (ap (λ (x : HouseLogView). unplug_refused (found_view x.core.views device)) e ∙ r) in
    move-plan signs h device n f.view k o f.view_is f.free num

-- What is read at a place within.
pub index-place : (places : List Place) (n : ℕ) (d : Place) → n < length places → slice_index_or places n d ≡ place_at places n
index-place [] n d h = absurd (omega arith)
index-place (p ∷ ps) zero d h = refl
index-place (p ∷ ps) (suc n) d h = index-place ps n d (omega arith)

-- What became of the place that was read.
abbrev pub MovedAt : (Condition → Condition) → ℕ → List Place → List Place → Type 0
MovedAt move n old new = (after : Place) × Moved move (place_at old n) after × (new ≡ slice_set old n after)

pub board-moved : (move : Condition → Condition) (a : HouseLogView) (device : Selector) (n : ℕ) (old new : List Place) → MovePlan a old device n → MovedAt move n old new → BoardMoved move a device old new
board-moved move a device n old new p (after, m, e) =
    record { number = n; before = place_at old n; after = after; found = p.number_is; there = p.there; moved = m; places = e }

-- After an unplug.
pub house-unplugged : {K : Type 0} (signs : KeeperSigns K) (client : ℕ) (device : Selector) (n : ℕ) (old : Housed K) (b : HouseLogView) (new : HouseLogView) (places : List Place) → old.house_log ≡ b → IsHouse signs old → IsHouseLog old.house_log → IsHouseLog new → Appended client (gone_event client device) old.house_log new → b.loaded ≡ true
    → MovePlan old.house_log old.places device n → MovedAt unplugged n old.places places → IsHouse signs (record { house_log = new; places = places; pool = old.pool; keeper = old.keeper })
house-unplugged signs client device n old b new places e h o k a loaded p (after, m, q) =
    subst (λ (ps : List Place). IsHouse signs (record { house_log = new; places = ps; pool = old.pool; keeper = old.keeper })) (sym q)
    (house-moved signs client (gone_event client device) n after old new h o k a (ap (λ (x : HouseLogView). x.loaded) e ∙ loaded) refl refl refl
    (gone-passes (basis_in old.house_log) old.house_log.first (past old) client device n p.found)
    (place-gone (basis_in old.house_log) old.house_log.first (past old) client device n p.found (place_at old.places n) after m p.stands))

-- What is said of the boards, where nothing was moved.
pub moved-none : (move : Condition → Condition) (a : HouseLogView) (device : Selector) (answer : PlugAnswer) (old mid new : List Place) → moves_none answer ≡ true → new ≡ mid → mid ≡ old → MovedAs move a device (Ok answer) old new
moved-none move a device answer old mid new s e f = subst (λ (x : Bool). MatchBool x (new ≡ old) (BoardMoved move a device old new)) (sym s) (e ∙ f)

-- The same over a house with more room.
pub moved-over : (move : Condition → Condition) (a b : HouseLogView) (device : Selector) (old mid new : List Place) → b ≡ roomier a b → mid ≡ old → BoardMoved move b device mid new → BoardMoved move a device old new
moved-over move a b device old mid new r e m =
    record {
      number = m.number;
      before = m.before;
      after = m.after;
      found = ap (λ (x : HouseLogView). number_found x device) (sym r) ∙ m.found;
      there = ap (λ (ps : List Place). slice_get ps m.number) (sym e) ∙ m.there;
      moved = m.moved;
      places = m.places ∙ ap (λ (ps : List Place). slice_set ps m.number m.after) e;
    }
