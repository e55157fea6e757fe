-- A house after the board of a device was put back into its port.
use Rattle.std.proofs.Common.{◌≡◌, ◌≢◌, ℕ, ◌<◌, ◌≤◌, ◌+◌, true, false, Bool, List, [], ◌∷◌, ◌++◌, length, refl, ap, sym, ◌∙◌, subst, arith, ◌⊎◌, inl, inr}
use Rattle.std.proofs.lemmas.List.{append-nil}
use Rattle.std.proofs.lemmas.Option.{same_Some}
use Rattle.std.specs.Prelude.{Option, Some, None, Contains, if◌then◌else◌, option_map, slice_set, unwrap_or}
use Rattle.std.specs.List.{list_any}
use Rattle.device_list.specs.declared.selector.Selector.{Selector}
use Rattle.emulated_boards.specs.Boards.{BoardState}
use Rattle.emulated_boards.specs.Conditions.{booted, booted_image, plugged, start_mode, view_of as shown_of}
use Rattle.emulated_boards.specs.declared.condition.Condition.{Condition}
use Rattle.emulated_boards.specs.declared.image.Image.{Image}
use Rattle.emulated_boards.specs.declared.mark.Mark.{Mark}
use Rattle.fw_facts.specs.Views.{is_home}
use Rattle.fw_facts.specs.declared.seen.Mode.{Mode}
use Rattle.fw_facts.specs.declared.seen.Seen.{Seen}
use Rattle.fw_facts.specs.declared.view.DeviceView.{DeviceView}
use Rattle.history_keeper.specs.Signs.{KeeperSigns}
use Rattle.update_log.proofs.Lists.{All-find, find-passes}
use Rattle.update_log.proofs.WorkedLogs.{same-raw}
use Rattle.core_state.specs.Core.{Core}
use Rattle.update_log.specs.Holding.{is_live, live, open_steps}
use Rattle.update_log.specs.Known.{Basis, board_found, for_board, is_board_of, known, rows, seen, tells}
use Rattle.update_log.specs.Legal.{IsLegal, PlugAnswered, PlugShows, found_view, open_marks, open_on, plug_refused}
use Rattle.update_log.specs.Once.{ShowsFirst}
use Rattle.update_log.specs.Pasts.{boots, off}
use Rattle.update_log.specs.Shows.{campaign_on, Campaign, FreshShows, HasRaw, IsPrefix, RawAllowed, first_of_board, home_before, home_or, digest_of, is_began, marks, told}
use Rattle.update_log.specs.declared.answer.PlugAnswer.{PlugAnswer}
use Rattle.update_log.specs.declared.event.Event.{Event}
use Rattle.update_log.specs.declared.live.OpenStep.{OpenStep}
use Rattle.daemon_core.specs.HouseLog.{Appended, IsAllowedSo, IsHouseLog, IsLegalSo, Runs}
use Rattle.daemon_core.specs.Boards.{BoardIsHome, BoardStands, PlaceStands, faulty_ends, is_out}
use Rattle.daemon_core.specs.House.{IsHouse}
use Rattle.daemon_core.specs.Housed.{basis_in, HouseLogView, Housed, Place, past, past_in}
use Rattle.daemon_core.specs.Owed.{owed}
use Rattle.daemon_core.specs.Plugging.{BoardMoved, MovedShowing, WasMoved, number_found}
use Rattle.daemon_core.specs.Returns.{place_at}
use Rattle.daemon_core.proofs.BoardsUnwritten.{BeginsToo, allowed-first}
use Rattle.daemon_core.proofs.BootPlaces.{told-begins-so, unwritten-so}
use Rattle.daemon_core.proofs.ClaimBoards.{Passes, out-other}
use Rattle.daemon_core.proofs.ClaimHouse.{IsReady, runs-takes}
use Rattle.daemon_core.proofs.ClaimOpen.{found-live, open-live}
use Rattle.daemon_core.proofs.Moves.{MovePlan, for-other, for-own, house-moved, move-plan}

-- No step is open on a board that isn't out, where the boot isn't off.
home-closed : (c : Campaign) (past : List Event) (n : ℕ) → IsLegal c past → off past ≡ false → is_out c.basis past n ≡ false → open_on c.basis past n ≡ None
home-closed c past n legal on out = at (open_on c.basis past n) refl
  where
    at : (o : Option OpenStep) → open_on c.basis past n ≡ o → open_on c.basis past n ≡ None
    at None e = e
    at (Some s) e =
        let live_is : is_live (live past) s.entry ≡ true =
        All-find (λ (x : OpenStep). is_live (live past) x.entry ≡ true) (λ x. is_board_of c.basis.facts (rows c.basis past) x.entry n) (open_steps past) s (open-live c past legal on) e in
        let l = found-live (live past) s.entry live_is in
        let own : is_board_of c.basis.facts (rows c.basis past) s.entry n ≡ true = find-passes (λ x. is_board_of c.basis.facts (rows c.basis past) x.entry n) (open_steps past) s e in
        let bad : true ≡ false = sym own ∙ out-other c.basis past n s.entry l.0 out l.1 in cc

pub home-closed_so : (basis : Basis) (first : List Seen) (past : List Event) (n : ℕ) → IsLegalSo basis first past → off past ≡ false → is_out basis past n ≡ false → open_on basis past n ≡ None
home-closed_so basis first past n (plans, legal) on = home-closed (campaign_on basis first plans) past n legal on

abbrev pub back_event : ℕ → Selector → Seen → Event
back_event client device shown = Event.Plug client device (PlugAnswer.Done shown)

-- A board that starts shows the raw version that it would show in its port, or that of the staged image.
starts-as : (c : Condition) (o : Option Image) (raw : ℕ) (mode : Mode) → c.staged ≡ o → shown_of (booted false c) ≡ Seen.Home raw mode → HasRaw (shown_of (plugged c)) raw ⊎ ((image : Image) × (c.staged ≡ Some image) × (unwrap_or image.raw 0 ≡ raw))
starts-as c None raw mode e h =
    let i : booted_image c ≡ c.image = ap (λ (o : Option Image). unwrap_or o c.image) e in
    inl (ap (λ (x : Image). unwrap_or x.raw 0) (sym i) ∙ same-raw (unwrap_or (booted_image c).raw 0) raw (start_mode (booted_image c)) mode h)
starts-as c (Some image) raw mode e h =
    let i : booted_image c ≡ image = ap (λ (o : Option Image). unwrap_or o c.image) e in
    inr (image, e, ap (λ (x : Image). unwrap_or x.raw 0) (sym i) ∙ same-raw (unwrap_or (booted_image c).raw 0) raw (start_mode (booted_image c)) mode h)

pub prefix-none : (ms all : List Mark) → all ≡ [] → IsPrefix ms all → ms ≡ []
prefix-none [] all e p = refl
prefix-none (m ∷ ms) [] e p = absurd p
prefix-none (m ∷ ms) (x ∷ xs) e p = cc

module _ (basis : Basis) (first : List Seen) (past : List Event) (client : ℕ) (device : Selector) (shown : Seen) (n : ℕ) (f : board_found basis.facts (live past) (known basis past) device ≡ Some n) where
  pub back-passes : (m : ℕ) → m ≢ n → Passes basis past (back_event client device shown) m
  back-passes m d =
      record {
        told = refl;
        same_tells = ap (λ (o : Option ℕ). for_board o m shown) f ∙ for-other n m shown d;
        faulty = refl;
        out = refl;
        opened = refl;
        marks = refl;
        booted = refl;
        raws = λ e raw r. r;
      }

  tells-back : tells basis.facts (live past) (known basis past) (back_event client device shown) n ≡ Some shown
  tells-back = ap (λ (o : Option ℕ). for_board o n shown) f ∙ for-own n shown

  seen-back : seen basis (back_event client device shown ∷ past) n ≡ shown
  seen-back = ap (λ (o : Option Seen). unwrap_or o (seen basis past n)) tells-back

  before-back : home_before basis first (back_event client device shown ∷ past) n ≡ home_or (Some shown) (home_before basis first past n)
  before-back = ap (λ (o : Option Seen). home_or o (home_before basis first past n)) tells-back

  told-back : told basis (back_event client device shown ∷ past) n ≡ told basis past n
  told-back = append-nil _

  module _ (b : BoardState) (tail : List Mark) (k : BoardStands basis first past n b tail) (s : shown ≡ shown_of (plugged b.condition)) (closed : open_on basis past n ≡ None) where
    -- what it shows in its port was the last that was shown at home
    home-back : home_before basis first (back_event client device shown ∷ past) n ≡ shown_of (plugged b.condition)
    home-back = before-back ∙ ap (λ (x : Seen). home_or (Some x) (home_before basis first past n)) s

    no-tail : tail ≡ []
    no-tail =
        prefix-none tail (open_marks basis past n)
        (ap (λ (o : Option OpenStep). unwrap_or (option_map (λ t. marks t.op t.entry (digest_of (rows basis past) t.entry)) o) []) closed)
        k.fits.journal.tail_is

    journal-back : b.journal ≡ told basis past n ++ []
    journal-back = k.fits.journal.told_and_tail ∙ ap (λ (ms : List Mark). told basis past n ++ ms) no-tail

    plugs-again : FreshShows basis first (back_event client device shown ∷ past) n [] (shown_of (plugged b.condition))
    plugs-again =
        record {
          raw = λ raw mode e. inl (subst (λ (x : Seen). HasRaw x raw) (sym home-back) (same-raw (unwrap_or b.condition.image.raw 0) raw (start_mode b.condition.image) mode e));
          mode = (k.plugs closed).mode;
        }

    staged-back : (raw : ℕ) → HasRaw (shown_of (plugged b.condition)) raw ⊎ ((image : Image) × (b.condition.staged ≡ Some image) × (unwrap_or image.raw 0 ≡ raw)) → RawAllowed basis first (back_event client device shown ∷ past) n tail raw
    staged-back raw (inl h) = inl (subst (λ (x : Seen). HasRaw x raw) (sym home-back) h)
    staged-back raw (inr (image, e, r)) =
        let w = k.staged image e in
        inr (inr (w.0, w.1, subst (λ (ms : List Mark). Contains ms (Mark.Ended w.0 w.1)) (k.fits.journal.told_and_tail ∙ ap (λ (ms : List Mark). ms ++ tail) (sym told-back)) w.2, w.3 ∙ ap Some r))

    boots-again : (absent : Bool) → FreshShows basis first (back_event client device shown ∷ past) n tail (shown_of (booted absent b.condition))
    boots-again true = record { raw = λ raw mode e. cc; mode = λ raw e. cc }
    boots-again false = record { raw = λ raw mode e. staged-back raw (starts-as b.condition b.condition.staged raw mode refl e); mode = (k.boots false).mode }

    module _ (p q : Place) (after : BoardState) (w : WasMoved plugged p q b after) (legal : IsLegalSo basis first past) where
      unwritten-back : list_any is_began after.journal ≡ false → ShowsFirst (shown_of (plugged b.condition)) (first_of_board first n)
      unwritten-back none =
          let none' : list_any is_began (told basis past n ++ []) ≡ false = ap (list_any is_began) (sym (w.same.journal ∙ journal-back)) ∙ none in
          let none_told : list_any is_began (told basis past n) ≡ false = ap (list_any is_began) (sym (append-nil (told basis past n))) ∙ none' in
          let begins : BeginsToo (told basis past n ++ []) = subst BeginsToo (sym (append-nil (told basis past n))) (told-begins-so basis first past n legal) in
          allowed-first basis first past n [] (unwrap_or b.condition.image.raw 0)
          ((k.plugs closed).raw (unwrap_or b.condition.image.raw 0) (start_mode b.condition.image) refl)
          begins none' (unwritten-so basis first past n legal none_told).home

      stands-back : BoardStands basis first (back_event client device shown ∷ past) n after tail
      stands-back =
          record {
            fits = record {
              journal = record {
                told_and_tail = w.same.journal ∙ k.fits.journal.told_and_tail ∙ ap (λ (x : List Mark). x ++ tail) (sym told-back);
                tail_is = k.fits.journal.tail_is;
              };
              view = λ _ _. ap shown_of w.condition ∙ sym s ∙ sym seen-back;
              unwritten = λ none. subst (λ (c : Condition). ShowsFirst (shown_of c) (first_of_board first n)) (sym w.condition) (unwritten-back none);
            };
            boots = λ absent.
                subst (λ (c : Condition). FreshShows basis first (back_event client device shown ∷ past) n tail (shown_of (booted absent c))) (sym w.condition) (boots-again absent);
            plugs = λ e.
                subst (λ (c : Condition). FreshShows basis first (back_event client device shown ∷ past) n [] (shown_of (plugged c))) (sym w.condition) plugs-again;
            staged = λ image e.
                let x = k.staged image (sym (ap (λ (c : Condition). c.staged) w.condition) ∙ e) in
                (x.0, x.1, subst (λ (ms : List Mark). Contains ms (Mark.Ended x.0 x.1)) (sym w.same.journal) x.2, x.3);
            faults = subst (λ (x : ℕ). faulty_ends basis past n ≤ x) (sym w.same.faults) k.faults;
          }

  pub place-back : (p q : Place) → open_on basis past n ≡ None → IsLegalSo basis first past → MovedShowing plugged p q shown → PlaceStands basis first past n p → PlaceStands basis first (back_event client device shown ∷ past) n q
  place-back p q closed legal (b, after, w, s) k =
      let h : BoardIsHome basis first past n (Some b) = subst (λ (o : Option BoardState). BoardIsHome basis first past n o) w.was k.home in
      record {
        told = w.told ∙ k.told ∙ ap length (sym told-back);
        home = subst (λ (o : Option BoardState). BoardIsHome basis first (back_event client device shown ∷ past) n o) (sym w.is)
            (h.0, (h.1.0, stands-back b h.1.0 h.1.1 (s ∙ ap shown_of w.condition) closed p q after w legal));
      }

  -- So what it shows is allowed.
  pub shows-back : (p q : Place) → open_on basis past n ≡ None → MovedShowing plugged p q shown → PlaceStands basis first past n p → PlugShows basis first past device shown
  shows-back p q closed (b, after, w, s) k =
      let h : BoardIsHome basis first past n (Some b) = subst (λ (o : Option BoardState). BoardIsHome basis first past n o) w.was k.home in
      let shown_is : shown ≡ shown_of (plugged b.condition) = s ∙ ap shown_of w.condition in
      record {
        home = ap is_home shown_is;
        fresh = λ m e.
            let same : n ≡ m = same_Some n m (sym f ∙ e) in
            subst (λ (x : ℕ). FreshShows basis first past x [] shown) same
            (subst (λ (x : Seen). FreshShows basis first past n [] x) (sym shown_is) (h.1.1.plugs closed));
      }

-- A device that isn't refused is found, and no entry of it is live.
pub record IsFreeBack (o : Option DeviceView) : Type 0 where
  pub view : DeviceView
  pub view_is : o ≡ Some view
  pub free : view.claim ≡ None

pub free-back : (o : Option DeviceView) → plug_refused o ≡ None → IsFreeBack o
free-back None h = cc
free-back (Some view) h = at view.claim refl h
  where
    at : (claim : Option ℕ) → view.claim ≡ claim → unwrap_or (option_map (λ entry. Some (PlugAnswer.Busy entry)) claim) (if is_home view.seen then Some PlugAnswer.AlreadyThere else None) ≡ None → IsFreeBack (Some view)
    at (Some entry) e g = cc
    at None e g = record { view = view; view_is = refl; free = e }

plug-allowed : (a : HouseLogView) (client : ℕ) (device : Selector) (o : Option PlugAnswer) (answer : PlugAnswer) → IsHouseLog a → plug_refused (found_view a.core.views device) ≡ o → PlugAnswered o (PlugShows (basis_in a) a.first (past_in a) device) answer → IsAllowedSo (basis_in a) a.first (past_in a) (Event.Plug client device answer)
plug-allowed a client device o answer k e p =
    λ plans.
    subst (λ (vs : List DeviceView). PlugAnswered (plug_refused (found_view vs device)) (PlugShows (basis_in a) a.first (past_in a) device) answer) k.stands.views
    (subst (λ (x : Option PlugAnswer). PlugAnswered x (PlugShows (basis_in a) a.first (past_in a) device) answer) (sym e) p)

-- What was refused may be put behind the log.
pub plug-refused_over : (a b : HouseLogView) (core : Core) (client : ℕ) (device : Selector) (refused : PlugAnswer) (event : Event) → a ≡ b → core ≡ a.core → IsHouseLog a → Some refused ≡ plug_refused (found_view core.views device) → event ≡ Event.Plug client device refused → IsAllowedSo (basis_in b) b.first (past_in b) event
plug-refused_over a b core client device refused event e s k h q =
    subst (λ (x : HouseLogView). IsAllowedSo (basis_in x) x.first (past_in x) event) e
    (subst (λ (x : Event). IsAllowedSo (basis_in a) a.first (past_in a) x) (sym q)
    (plug-allowed a client device (Some refused) refused k (ap (λ (x : Core). plug_refused (found_view x.views device)) (sym s) ∙ sym h) refl))

pub plug-free_over : (a b : HouseLogView) (core : Core) (device : Selector) → a ≡ b → core ≡ a.core → None ≡ plug_refused (found_view core.views device) → plug_refused (found_view b.core.views device) ≡ None
plug-free_over a b core device e s h =
    ap (λ (x : HouseLogView). plug_refused (found_view x.core.views device)) (sym e) ∙ ap (λ (x : Core). plug_refused (found_view x.views device)) (sym s) ∙ sym h

-- The place that the code reads.
pub plug-plan : {K : Type 0} (signs : KeeperSigns K) (h : Housed K) (b : HouseLogView) (device : Selector) (n : ℕ) → h.house_log ≡ b → IsHouse signs h → IsHouseLog h.house_log → plug_refused (found_view b.core.views device) ≡ None → n ≡ unwrap_or (number_found h.house_log device) 0 → MovePlan h.house_log h.places device n
plug-plan signs h b device n e k o r num =
    let f = free-back (found_view h.house_log.core.views device) (ap (λ (x : HouseLogView). plug_refused (found_view x.core.views device)) e ∙ r) in
    move-plan signs h device n f.view k o f.view_is f.free num

-- What became of the place that was read.
abbrev pub BackAt : ℕ → List Place → List Place → Seen → Type 0
BackAt n old new shown = (after : Place) × MovedShowing plugged (place_at old n) after shown × (new ≡ slice_set old n after)

pub board-back : (a : HouseLogView) (device : Selector) (n : ℕ) (old new : List Place) (shown : Seen) → MovePlan a old device n → BackAt n old new shown → BoardMoved plugged a device old new
board-back a device n old new shown p (after, (b, moved, w, s), e) =
    record { number = n; before = place_at old n; after = after; found = p.number_is; there = p.there; moved = (b, moved, w); places = e }

closed-at : (a : HouseLogView) (n : ℕ) → IsHouseLog a → off (past_in a) ≡ false → is_out (basis_in a) (past_in a) n ≡ false → open_on (basis_in a) (past_in a) n ≡ None
closed-at a n k on out = home-closed_so (basis_in a) a.first (past_in a) n k.legal on out

pub plug-ready : (a b : HouseLogView) (client : ℕ) (device : Selector) (n : ℕ) (old new : List Place) (shown : Seen) → a ≡ b → IsHouseLog a → Runs b → 0 < boots (past_in b) → owed (past_in b) + 1 ≤ b.room → plug_refused (found_view b.core.views device) ≡ None → MovePlan a old device n → BackAt n old new shown → IsReady a (back_event client device shown)
plug-ready a b client device n old new shown e k r z w h p (after, m, q) =
    let runs : Runs a = subst Runs (sym e) r in
    record {
      takes = runs-takes a (back_event client device shown) runs (subst (λ (x : HouseLogView). 0 < boots (past_in x)) (sym e) z) refl;
      allowed = plug-allowed a client device None (PlugAnswer.Done shown) k (ap (λ (x : HouseLogView). plug_refused (found_view x.core.views device)) e ∙ h)
          (shows-back (basis_in a) a.first (past_in a) client device shown n p.found (place_at old n) after (closed-at a n k runs.on p.is_in) m p.stands);
      room = subst (λ (x : HouseLogView). owed (past_in x) + 1 ≤ x.room) (sym e) w;
      row = (let l = ap length k.stands.rows in omega (arith, l));
    }

-- After a plug.
pub house-plugged : {K : Type 0} (signs : KeeperSigns K) (client : ℕ) (device : Selector) (n : ℕ) (shown : Seen) (old : Housed K) (b : HouseLogView) (new : HouseLogView) (places : List Place) → old.house_log ≡ b → IsHouse signs old → IsHouseLog old.house_log → IsHouseLog new → Appended client (back_event client device shown) old.house_log new → b.loaded ≡ true → Runs b
    → MovePlan old.house_log old.places device n → BackAt n old.places places shown → IsHouse signs (record { house_log = new; places = places; pool = old.pool; keeper = old.keeper })
house-plugged signs client device n shown old b new places e h o k a loaded r p (after, m, q) =
    let runs : Runs old.house_log = subst Runs (sym e) r in
    subst (λ (ps : List Place). IsHouse signs (record { house_log = new; places = ps; pool = old.pool; keeper = old.keeper })) (sym q)
    (house-moved signs client (back_event client device shown) n after old new h o k a (ap (λ (x : HouseLogView). x.loaded) e ∙ loaded) refl refl refl
    (back-passes (basis_in old.house_log) old.house_log.first (past old) client device shown n p.found)
    (place-back (basis_in old.house_log) old.house_log.first (past old) client device shown n p.found (place_at old.places n) after
    (closed-at old.house_log n o runs.on p.is_in) o.legal m p.stands))
