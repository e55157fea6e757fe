-- What an event of another client leaves of the board of a live entry.
use Rattle.std.proofs.Common.{◌≡◌, ◌≢◌, ℕ, true, false, List, [], ◌∷◌, refl, ap, sym, ◌∙◌}
use Rattle.std.proofs.lemmas.List.{append-nil}
use Rattle.std.proofs.lemmas.Bool.{eq-eqb}
use Rattle.std.specs.Prelude.{Option, Some, None, ◌==◌, if◌then◌else◌, option_map, unwrap_or}
use Rattle.daemon_core.proofs.HouseLogKept.{boots-same}
use Rattle.device_list.specs.declared.selector.Selector.{Selector}
use Rattle.fw_facts.specs.Views.{is_home}
use Rattle.fw_facts.specs.declared.seen.Seen.{Seen}
use Rattle.fw_facts.specs.declared.view.DeviceView.{DeviceView}
use Rattle.history_keeper.specs.Histories.{IsHistory}
use Rattle.update_log.proofs.Lists.{by_test, find-push_other}
use Rattle.update_log.specs.Holding.{live, live_entry, open_steps}
use Rattle.update_log.specs.Known.{Basis, board_found, board_of, for_board, is_board_of, known, rows, tells, views}
use Rattle.update_log.specs.Legal.{IsLegal, PlugAnswered, PlugShows, found_view, open_on, plug_refused, unplug_refused}
use Rattle.update_log.specs.Pasts.{off, is_boot}
use Rattle.update_log.specs.Shows.{Campaign, told_by}
use Rattle.update_log.specs.declared.answer.PlugAnswer.{PlugAnswer}
use Rattle.update_log.specs.declared.event.Event.{Event}
use Rattle.update_log.specs.declared.live.LiveEntry.{LiveEntry}
use Rattle.daemon_core.proofs.BoardsQuiet.{open-kept, open-marks-kept, raws-stay}
use Rattle.daemon_core.proofs.ClaimAlone.{alone-on}
use Rattle.daemon_core.proofs.ClaimBoards.{end-passes}
use Rattle.daemon_core.proofs.ClaimEnds.{any-found, own-board}
use Rattle.daemon_core.proofs.ClaimOpen.{open-entry_live, live-found}
use Rattle.daemon_core.proofs.Moves.{for-other, found-board, free-home}
use Rattle.daemon_core.proofs.PlacesKept.{SameOfBoard}
use Rattle.daemon_core.specs.HouseLog.{IsLegalSo}
use Rattle.daemon_core.specs.Boards.{is_faulty_end, is_out}
use Rattle.shared_daemon.proofs.OthersEntries.{concerns}

-- Of a board nothing is told, and the same step is open on it.
record TellsNone (basis : Basis) (past : List Event) (event : Event) (number : ℕ) : Type 0 where
  told : told_by basis.facts (rows basis past) event number ≡ []
  same_tells : tells basis.facts (live past) (known basis past) event number ≡ None
  faulty : is_faulty_end basis.facts (rows basis past) number event ≡ false
  opened : open_on basis (event ∷ past) number ≡ open_on basis past number

-- The board of a live entry is out.
pub own-out : (basis : Basis) (past : List Event) (entry number : ℕ) (l : LiveEntry) → live_entry past entry ≡ Some l → l.entry ≡ entry → board_of basis.facts (rows basis past) entry ≡ Some number → is_out basis past number ≡ true
own-out basis past entry number l h s b =
    any-found (λ x. is_board_of basis.facts (rows basis past) x.entry number) (live past) entry l h
    (ap (λ (e : ℕ). is_board_of basis.facts (rows basis past) e number) s ∙ own-board basis.facts (rows basis past) entry number b)

-- A device that was unplugged or plugged has no live entry.
busy-not : (o : Option ℕ) (rest : Option PlugAnswer) (shown : Seen) (Shows : Seen → Type 0) → PlugAnswered (unwrap_or (option_map (λ entry. Some (PlugAnswer.Busy entry)) o) rest) Shows (PlugAnswer.Done shown) → o ≡ None
busy-not None rest shown Shows a = refl
busy-not (Some entry) rest shown Shows a = cc

unplugged-free : (o : Option DeviceView) (shown : Seen) (Shows : Seen → Type 0) → PlugAnswered (unplug_refused o) Shows (PlugAnswer.Done shown) → (view : DeviceView) × (o ≡ Some view) × (view.claim ≡ None)
unplugged-free None shown Shows a = cc
unplugged-free (Some view) shown Shows a = (view, refl, busy-not view.claim (if is_home view.seen then None else Some PlugAnswer.NotThere) shown Shows a)

plugged-free : (o : Option DeviceView) (shown : Seen) (Shows : Seen → Type 0) → PlugAnswered (plug_refused o) Shows (PlugAnswer.Done shown) → (view : DeviceView) × (o ≡ Some view) × (view.claim ≡ None)
plugged-free None shown Shows a = cc
plugged-free (Some view) shown Shows a = (view, refl, busy-not view.claim (if is_home view.seen then Some PlugAnswer.AlreadyThere else None) shown Shows a)

-- So its board is none that is out.
moved-other : (basis : Basis) (past : List Event) (device : Selector) (number : ℕ) (view : DeviceView) (shown : Seen) → found_view (views basis past) device ≡ Some view → view.claim ≡ None → is_out basis past number ≡ true
    → for_board (board_found basis.facts (live past) (known basis past) device) number shown ≡ None
moved-other basis past device number view shown f free out =
    let g = found-board basis.facts (live past) (known basis past) device view f in
    let home : is_out basis past g.board.number ≡ false = free-home basis past g.board g.sheet (ap (λ (v : DeviceView). v.claim) g.view_is ∙ free) in
    let apart : number ≢ g.board.number = (λ s. let bad : true ≡ false = sym out ∙ ap (is_out basis past) s ∙ home in cc) in
    ap (λ (o : Option ℕ). for_board o number shown) g.number_is ∙ for-other g.board.number number shown apart

module _ (c : Campaign) (past : List Event) (event : Event) (entry number : ℕ) (l : LiveEntry)
    (valid : IsHistory c.basis.opening) (legal : IsLegal c (event ∷ past)) (no_boot : is_boot event ≡ false) (none : concerns entry event ≡ false)
    (found : live_entry past entry ≡ Some l) (same : l.entry ≡ entry) (board : board_of c.basis.facts (rows c.basis past) entry ≡ Some number) where
  legal-so : IsLegalSo c.basis c.first (event ∷ past)
  legal-so = (c.plans, legal)

  out : is_out c.basis past number ≡ true
  out = own-out c.basis past entry number l found same board

  -- another live entry is on another board
  off-board : (e : ℕ) (m : LiveEntry) → live_entry past e ≡ Some m → (e == entry) ≡ false → is_board_of c.basis.facts (rows c.basis past) e number ≡ false
  off-board e m f n =
      by_test (is_board_of c.basis.facts (rows c.basis past) e number) _
      (λ t. absurd (alone-on c past number e entry valid legal.0 (live-found (live past) e m f) (live-found (live past) entry l found) t (own-board c.basis.facts (rows c.basis past) entry number board)
      (λ s. let yes : (e == entry) ≡ true = eq-eqb e entry s in let bad : true ≡ false = sym yes ∙ n in cc)))
      (λ f. f)

  same-steps : open_steps (event ∷ past) ≡ open_steps past → open_on c.basis (event ∷ past) number ≡ open_on c.basis past number
  same-steps = open-kept c.basis c.first past event valid legal-so number

tells-none : (c : Campaign) (past : List Event) (event : Event) (entry number : ℕ) (l : LiveEntry)
    → IsHistory c.basis.opening → IsLegal c (event ∷ past) → is_boot event ≡ false → concerns entry event ≡ false
    → live_entry past entry ≡ Some l → l.entry ≡ entry → board_of c.basis.facts (rows c.basis past) entry ≡ Some number → TellsNone c.basis past event number
tells-none c past (Event.Boot round time limit found boards) entry number l v legal b n f s bd = cc
tells-none c past (Event.Start client e op) entry number l v legal b n f s bd =
    let a = legal.2.1 in
    record {
      told = refl;
      same_tells = refl;
      faulty = refl;
      opened = find-push_other (λ x. is_board_of c.basis.facts (rows c.basis past) x.entry number) (open_steps past) (record { client = client; entry = e; op = op })
          (off-board c past (Event.Start client e op) entry number l v legal b n f s bd e legal.2.0 a.live n);
    }
tells-none c past (Event.End client e op outcome told seen) entry number l v legal b n f s bd =
    let a = legal.2 in
    let on : off past ≡ false = legal.1.on refl in
    let m = open-entry_live c past e (record { client = client; entry = e; op = op }) legal.0 on a.open_is in
    let k = end-passes c.basis past client e op outcome told seen number (off-board c past (Event.End client e op outcome told seen) entry number l v legal b n f s bd e m.0 m.1 n) in
    record { told = k.told; same_tells = k.same_tells; faulty = k.faulty; opened = k.opened }
tells-none c past (Event.Unplug client device (PlugAnswer.Done shown)) entry number l v legal b n f s bd =
    let w = unplugged-free (found_view (views c.basis past) device) shown (λ x. x ≡ Seen.Gone) legal.2 in
    record {
      told = refl;
      same_tells = moved-other c.basis past device number w.0 shown w.1 w.2 (own-out c.basis past entry number l f s bd);
      faulty = refl;
      opened = refl;
    }
tells-none c past (Event.Plug client device (PlugAnswer.Done shown)) entry number l v legal b n f s bd =
    let w = plugged-free (found_view (views c.basis past) device) shown (PlugShows c.basis c.first past device) legal.2 in
    record {
      told = refl;
      same_tells = moved-other c.basis past device number w.0 shown w.1 w.2 (own-out c.basis past entry number l f s bd);
      faulty = refl;
      opened = refl;
    }
tells-none c past event entry number l v legal b n f s bd =
    record { told = refl; same_tells = refl; faulty = refl; opened = same-steps c past event entry number l v legal b n f s bd refl }

-- So the log says the same of its board.
pub own-board_same : (c : Campaign) (past : List Event) (event : Event) (entry number : ℕ) (l : LiveEntry)
    → IsHistory c.basis.opening → IsLegal c (event ∷ past) → is_boot event ≡ false → concerns entry event ≡ false
    → live_entry past entry ≡ Some l → l.entry ≡ entry → board_of c.basis.facts (rows c.basis past) entry ≡ Some number
    → live_entry (event ∷ past) entry ≡ Some l → board_of c.basis.facts (rows c.basis (event ∷ past)) entry ≡ Some number
    → SameOfBoard c.basis c.first past (event ∷ past) number
own-board_same c past event entry number l v legal b n f s bd f' bd' =
    let t = tells-none c past event entry number l v legal b n f s bd in
    let so : IsLegalSo c.basis c.first (event ∷ past) = (c.plans, legal) in
    record {
      told = rw t.told (append-nil _);
      out = own-out c.basis (event ∷ past) entry number l f' s bd' ∙ sym (own-out c.basis past entry number l f s bd);
      opened = t.opened;
      marks = open-marks-kept c.basis c.first past event v so number t.opened;
      booted = λ h. rw (boots-same past event b) at h;
      seen = rw t.same_tells refl;
      before = rw t.same_tells refl;
      began = rw (t.same_tells, t.told) refl;
      raws = raws-stay c.basis c.first past event v so;
      faults = rw t.faulty refl;
    }
