-- The item that settles a device.
use Rattle.std.proofs.Common.{◌≡◌, ℕ, Bool, true, false, ◌&&◌, ◌==◌, List, [], ◌∷◌, refl, ap, ◌∙◌, inl, inr, eq-eqb}
use Rattle.std.specs.Prelude.{Option, Some, None, Result, Ok, Err, find}
use Rattle.std.specs.List.{list_any}
use Rattle.std.specs.Str.{bytes_eq}
use Rattle.fw_facts.specs.declared.view.DeviceView.{DeviceView}
use Rattle.fw_facts.specs.Views.{is_home}
use Rattle.device_list.specs.declared.selector.Selector.{Selector}
use Rattle.history_keeper.specs.declared.row.Row.{Row}
use Rattle.history_keeper.specs.declared.row.RowState.{RowState}
use Rattle.history_keeper.specs.Histories.{is_unsettled}
use Rattle.update_log.proofs.Lists.{by_test}
use Rattle.update_log.specs.declared.event.Event.{Event}
use Rattle.update_log.specs.declared.event.Query.{Query}
use Rattle.update_log.specs.declared.event.Stored.{Stored}
use Rattle.update_log.specs.Known.{rows, views}
use Rattle.update_log.specs.Legal.{found_view}
use Rattle.daemon_core.specs.declared.judged.DeviceRow.{DeviceRow}
use Rattle.daemon_core.specs.declared.judged.Settling.{Settling}
use Rattle.daemon_core.specs.declared.stop.Stop.{Stop}
use Rattle.daemon_core.specs.Settling.{row_found, row_on, waiting_row}
use Rattle.client_scripts.specs.declared.item.Item.{Item}
use Rattle.client_plays.specs.declared.played.Played.{Played}
use Rattle.client_plays.specs.Endings.{played_of}
use Rattle.client_plays.specs.Moments.{Moment, at}
use Rattle.client_plays.specs.Plays.{JudgesFound, Plays, is_row_of}
use Rattle.client_plays.specs.Tools.{Means}
use Rattle.client_plays.proofs.PlayLaws.{item-unplayed}
use Rattle.turn_lock.specs.Shown.{LockId, PassView}
use Rattle.shared_daemon.specs.declared.entry.Entry.{Entry}
use Rattle.shared_daemon.specs.Calls.{AddsOn, SettledIn, Took, device_in}
use Rattle.shared_daemon.specs.Closings.{IsFreePass}
use Rattle.shared_daemon.specs.Entries.{past_seen}
use Rattle.shared_daemon.specs.Names.{IsPass, Name}
use Rattle.script_runs.specs.Passes.{Ended}
use Rattle.script_runs.proofs.DidLaws.{IsQuiet}
use Rattle.script_runs.proofs.TurnLaws.{ended-done, ended-off, ended-told, ended-wanting, quiet-query}

-- What a look-up finds is there.
find-any : {X : Type 0} (p q : X → Bool) (xs : List X) (x : X) → find p xs ≡ Some x → ((y : X) → p y ≡ true → y ≡ x → q y ≡ true) → list_any q xs ≡ true
find-any p q [] x e h = cc
find-any p q (y ∷ ys) x e h =
    by_test (p y) (list_any q (y ∷ ys) ≡ true)
    (λ t. let s : Some y ≡ Some x = rw t at e in let same : y ≡ x = cc in let there : q y ≡ true = h y t same in rw there refl)
    (λ f. let s : find p ys ≡ Some x = rw f at e in let there : list_any q ys ≡ true = find-any p q ys x s h in by_test (q y) _ (λ t. rw t refl) (λ k. rw k there))

and-first : (a b : Bool) → (a && b) ≡ true → a ≡ true
and-first true b e = refl
and-first false b e = cc

row-is : (device : List ℕ) (entry : ℕ) (r row : Row) → (bytes_eq r.device device && is_unsettled r.state) ≡ true → r ≡ row → row.entry ≡ entry → is_row_of device entry r ≡ true
row-is device entry r row p e n =
    let same : r.entry ≡ entry = ap (λ (x : Row). x.entry) e ∙ n in
    let one : (r.entry == entry) ≡ true = eq-eqb r.entry entry same in
    let other : bytes_eq r.device device ≡ true = and-first _ _ p in
    rw (one, other) refl

-- The row that is found of a device.
record RowFound (rows : List Row) (o : Option DeviceView) (entry : ℕ) : Type 0 where
  pub view : DeviceView
  pub is : o ≡ Some view
  pub row : list_any (is_row_of view.sheet.device entry) rows ≡ true

found-row : (rows : List Row) (device : List ℕ) (entry : ℕ) (o : Option Row) → waiting_row rows device ≡ o → row_found o ≡ DeviceRow.Waiting entry → list_any (is_row_of device entry) rows ≡ true
found-row rows device entry None w e = cc
found-row rows device entry (Some row) w e =
    let n : row.entry ≡ entry = cc in
    find-any (λ r. bytes_eq r.device device && is_unsettled r.state) (is_row_of device entry) rows row w (λ r t same. row-is device entry r row t same n)

found-view : (rows : List Row) (view : DeviceView) (entry : ℕ) (home : Bool) → is_home view.seen ≡ home → row_on rows (Some view) ≡ DeviceRow.Waiting entry → RowFound rows (Some view) entry
found-view rows view entry true h e = record { view = view; is = refl; row = found-row rows view.sheet.device entry (waiting_row rows view.sheet.device) refl (rw h at e) }
found-view rows view entry false h e = let n : DeviceRow.NoDevice ≡ DeviceRow.Waiting entry = rw h at e in cc

found-on : (rows : List Row) (o : Option DeviceView) (entry : ℕ) → row_on rows o ≡ DeviceRow.Waiting entry → RowFound rows o entry
found-on rows None entry e = cc
found-on rows (Some view) entry e = found-view rows view entry (is_home view.seen) refl e

-- A row that was judged is of the device found, in the log that the turn met.
judges-found : (name : Name) (client : ℕ) (device : Selector) (met : List Entry) (entry : ℕ) (version : List ℕ) (state : RowState) (stored : Stored) → device_in name met device ≡ DeviceRow.Waiting entry
    → JudgesFound name.basis client device (at (past_seen met) (Event.Judge client entry version state stored))
judges-found name client device met entry version state stored e =
    let f : RowFound (rows name.basis (past_seen met)) (found_view (views name.basis (past_seen met)) device) entry =
    found-on (rows name.basis (past_seen met)) (found_view (views name.basis (past_seen met)) device) entry e in
    record {
      entry = entry;
      version = version;
      state = state;
      stored = stored;
      view = f.view;
      event_is = refl;
      found = f.is;
      row = f.row;
    }

quiet-judge : (client entry : ℕ) (version : List ℕ) (state : RowState) (stored : Stored) → IsQuiet client (Event.Judge client entry version state stored)
quiet-judge client entry version state stored = record { no_boot = refl; own_is = refl; same_holds = λ past. refl; same_live = λ past. refl }

module _ (name : Name) (lock : LockId) (old new : PassView Entry) (p : IsPass lock name old) (same : new.number ≡ old.number) (free : IsFreePass old) (device : Selector) (means : Means) where
  abbrev Settles : List Moment → Type 0
  Settles = Plays name.basis means old.number (Item.Settle device)

  -- The question alone.
  asked-only : {did : List Entry → List Entry → Type 0} (t : Took name did old new) → AddsOn old.number (Event.Query old.number (Query.Settle device)) t.met new.seen → Ended Played.Done Settles old new
  asked-only {did} t a =
      ended-done {did = did} name lock old new p same free t (Event.Query old.number (Query.Settle device)) Settles (quiet-query old.number (Query.Settle device)) (inr refl) a

  settle-so : (outcome : Result Settling Stop) → Took name (SettledIn name old.number device outcome) old new → Ended (played_of outcome) Settles old new
  settle-so (Ok (Settling.Judged entry state stored)) t =
      let d = t.does in
      ended-done {did = SettledIn name old.number device (Ok (Settling.Judged entry state stored))} name lock old new p same free t (Event.Judge old.number entry d.1.0 state stored) Settles
      (quiet-judge old.number entry d.1.0 state stored) (inl (judges-found name old.number device t.met entry d.1.0 state stored d.0)) d.1.2
  settle-so (Ok Settling.NoDevice) t = asked-only {did = SettledIn name old.number device (Ok Settling.NoDevice)} t t.does.1
  settle-so (Ok (Settling.Waits entry)) t = asked-only {did = SettledIn name old.number device (Ok (Settling.Waits entry))} t t.does.2
  settle-so (Ok Settling.Nothing) t = asked-only {did = SettledIn name old.number device (Ok Settling.Nothing)} t t.does.1
  settle-so (Err Stop.Off) t =
      ended-off {did = SettledIn name old.number device (Err Stop.Off)} name lock old new p same free t Settles (item-unplayed name.basis means old.number (Item.Settle device)) t.does
  settle-so (Err Stop.NoMemory) t =
      ended-wanting {did = SettledIn name old.number device (Err Stop.NoMemory)} name lock old new p same free t Settles (item-unplayed name.basis means old.number (Item.Settle device)) t.does

  pub settle-ended : (outcome : Result Settling Stop) (told : Played) → told ≡ played_of outcome → Took name (SettledIn name old.number device outcome) old new → Ended told Settles old new
  settle-ended outcome told e t = ended-told told (played_of outcome) Settles old new e (settle-so outcome t)
