-- A house after the finish of a live entry.
use Rattle.std.proofs.Common.{◌≡◌, ◌≢◌, ℕ, suc, ◌<◌, ◌≤◌, ◌+◌, true, false, List, [], ◌∷◌, length, refl, ap, sym, ◌∙◌, subst, arith, ◌⊎◌}
use Rattle.std.specs.Prelude.{Option, Some, None, ◌==◌, Any}
use Rattle.std.proofs.lemmas.Bool.{eqb-true}
use Rattle.std.proofs.lemmas.List.{length-map}
use Rattle.daemon_core.proofs.PuttingOff.{no-doubt}
use Rattle.outer_traits.specs.Faults.{Rose}
use Rattle.block_pool.specs.Views.{PoolCounts}
use Rattle.emulated_boards.specs.Boards.{BoardState}
use Rattle.emulated_boards.specs.declared.mark.Mark.{Mark}
use Rattle.history_keeper.specs.declared.row.Row.{Row}
use Rattle.history_keeper.specs.declared.row.RowState.{RowState}
use Rattle.history_keeper.specs.declared.change.Change.{Change}
use Rattle.history_keeper.specs.Changes.{with_state}
use Rattle.history_keeper.specs.Signs.{KeeperSigns}
use Rattle.update_log.proofs.Lists.{by_test}
use Rattle.update_log.specs.declared.event.Event.{Event}
use Rattle.update_log.specs.declared.event.Stored.{Stored}
use Rattle.update_log.specs.declared.live.LiveEntry.{LiveEntry}
use Rattle.update_log.specs.Holding.{held}
use Rattle.update_log.specs.Known.{doubt, doubt_by, fate_stored, reason_of, row_of, rows, rows_by}
use Rattle.update_log.specs.Legal.{UnchangedExactly, closing_stored}
use Rattle.update_log.specs.Pasts.{boots, off, time_of}
use Rattle.daemon_core.specs.HouseLog.{Appended, IsHouseLog, Runs}
use Rattle.daemon_core.specs.Commits.{StoredAs}
use Rattle.daemon_core.specs.Finishes.{ClosedAs, IsDone}
use Rattle.daemon_core.specs.House.{IsHouse}
use Rattle.daemon_core.specs.Housed.{basis_in, campaign_in, HouseLogView, Housed, past, past_in}
use Rattle.daemon_core.specs.Keeping.{HasRows, keeper_faults}
use Rattle.daemon_core.specs.Turns.{KeeperFared, ToldBefore}
use Rattle.daemon_core.specs.Returns.{place_at, places_with}
use Rattle.daemon_core.proofs.ClaimAlone.{row-on}
use Rattle.daemon_core.proofs.ClaimDone.{finish-ends}
use Rattle.daemon_core.proofs.ClaimEnds.{length-set, own-board}
use Rattle.daemon_core.proofs.ClaimHome.{HomeTo, home-places}
use Rattle.daemon_core.proofs.ClaimHouse.{IsReady, runs-takes, spent-ready}
use Rattle.daemon_core.proofs.CommitKept.{house-clear, stored-before, stored-keeps}
use Rattle.daemon_core.proofs.Fared.{calm-stored, counted-more, fared-quiet, told-same}
use Rattle.daemon_core.proofs.Held.{held-finished}
use Rattle.daemon_core.proofs.HeldOnce.{out-once}
use Rattle.daemon_core.proofs.HouseKept.{house-next}
use Rattle.daemon_core.proofs.KeptSo.{so-has}

-- What is done, over a house log.
abbrev pub DoneIn : HouseLogView → ℕ → RowState → Type 0
DoneIn a entry closed = IsDone (basis_in a) (past_in a) entry closed

abbrev pub closing_change : HouseLogView → ℕ → RowState → Change
closing_change a entry closed = Change.Advance entry closed (reason_of a.core.rows entry) (time_of (past_in a))

-- A row of an entry is among the rows.
pub any-row : (all : List Row) (entry : ℕ) (r : Row) → row_of all entry ≡ Some r → Any (λ row. row.entry ≡ entry) all
any-row [] entry r h = cc
any-row (x ∷ xs) entry r h =
    by_test (x.entry == entry) _
    (λ t. (0, x, omega arith, refl, eqb-true x.entry entry t))
    (λ t. let rest = any-row xs entry r (rw t at h) in (suc rest.0, rest.1, (let l = rest.2 in omega (arith, l)), rest.3, rest.4))

all-told : (o : List Row → Type 0) (all : List Row) (entry : ℕ) → ((x : List Row) → o x → x ≡ all) → Any (λ row. row.entry ≡ entry) all → (x : List Row) → o x → Any (λ row. row.entry ≡ entry) x
all-told o all entry h s x t = subst (λ (r : List Row). Any (λ row. row.entry ≡ entry) r) (sym (h x t)) s

-- What the keeper is asked for suits its rows.
pub close-suits : {K : Type 0} (signs : KeeperSigns K) (client entry number : ℕ) (l : LiveEntry) (tail : List Mark) (b : BoardState) (blocks : ℕ) (h : Housed K) → HasRows signs h.keeper h.house_log.core.rows None → IsHouseLog h.house_log → HomeTo h.house_log client entry number l tail b blocks
    → (all : List Row) → signs.tells h.keeper all → Any (λ row. row.entry ≡ entry) all
close-suits signs client entry number l tail b blocks h k o s =
    let r = row-on h.house_log.facts (rows (basis_in h.house_log) (past h)) entry number (own-board h.house_log.facts (rows (basis_in h.house_log) (past h)) entry number s.board) in
    let found : row_of h.house_log.core.rows entry ≡ Some r.row = ap (λ (rs : List Row). row_of rs entry) o.stands.rows ∙ r.row_is in
    all-told (signs.tells h.keeper) h.house_log.core.rows entry k.rows_are (any-row h.house_log.core.rows entry r.row found)

stored-changed : {K : Type 0} (signs : KeeperSigns K) (change : Change) (stored : Stored) (old new : K) → StoredAs change stored (signs.tells old) (signs.tells new) (signs.doubt new) → stored ≢ Stored.Unchanged
stored-changed signs change Stored.Unchanged old new s = absurd s
stored-changed signs change _ old new s = λ e. cc

pub closed-unchanged : {K : Type 0} (signs : KeeperSigns K) (closed : RowState) (change : Change) (stored : Stored) (old new : K) → ClosedAs signs closed change stored old new → UnchangedExactly closed stored
closed-unchanged signs RowState.Begun change stored old new s = s.0
closed-unchanged signs _ change stored old new s = stored-changed signs change stored old new s

-- The keeper's rows once the change was stored, or wasn't.
after-stored : {K : Type 0} (signs : KeeperSigns K) (old new : K) (all : List Row) (entry : ℕ) (closed : RowState) (reason time : ℕ) (stored : Stored) → HasRows signs old all None → StoredAs (Change.Advance entry closed reason time) stored (signs.tells old) (signs.tells new) (signs.doubt new)
    → HasRows signs new (rows_by (fate_stored stored) (Some (Change.Advance entry (closing_stored closed stored) reason time)) all) (doubt_by (fate_stored stored) (Some (Change.Advance entry (closing_stored closed stored) reason time)) None)
after-stored signs old new all entry closed reason time Stored.Yes h s = stored-keeps signs old new all (Change.Advance entry closed reason time) Stored.Yes h s
after-stored signs old new all entry closed reason time Stored.Fault h s = stored-keeps signs old new all (Change.Advance entry closed reason time) Stored.Fault h s
after-stored signs old new all entry closed reason time Stored.NoMemory h s = stored-keeps signs old new all (Change.Advance entry closed reason time) Stored.NoMemory h s
after-stored signs old new all entry closed reason time Stored.Unchanged h s = absurd s

after-none : {K : Type 0} (signs : KeeperSigns K) (old new : K) (all : List Row) (change : Change) (stored : Stored) → HasRows signs old all None → stored ≡ Stored.Unchanged → new ≡ old → HasRows signs new (rows_by (fate_stored stored) (Some change) all) (doubt_by (fate_stored stored) (Some change) None)
after-none signs old new all change stored h e n = rw (e, n) h

pub after-closed : {K : Type 0} (signs : KeeperSigns K) (old new : K) (all : List Row) (entry : ℕ) (closed : RowState) (reason time : ℕ) (stored : Stored) → HasRows signs old all None → ClosedAs signs closed (Change.Advance entry closed reason time) stored old new
    → HasRows signs new (rows_by (fate_stored stored) (Some (Change.Advance entry (closing_stored closed stored) reason time)) all) (doubt_by (fate_stored stored) (Some (Change.Advance entry (closing_stored closed stored) reason time)) None)
after-closed signs old new all entry RowState.Begun reason time stored h s = after-none signs old new all (Change.Advance entry (closing_stored RowState.Begun stored) reason time) stored h s.0 s.1
after-closed signs old new all entry RowState.Pending reason time stored h s = after-stored signs old new all entry RowState.Pending reason time stored h s
after-closed signs old new all entry RowState.Success reason time stored h s = after-stored signs old new all entry RowState.Success reason time stored h s
after-closed signs old new all entry RowState.Failed reason time stored h s = after-stored signs old new all entry RowState.Failed reason time stored h s
after-closed signs old new all entry RowState.NeedsReboot reason time stored h s = after-stored signs old new all entry RowState.NeedsReboot reason time stored h s

-- The finish is allowed.

abbrev pub finish_event : ℕ → ℕ → RowState → Stored → Event
finish_event client entry closed stored = Event.Finish client entry (closing_stored closed stored) stored

advanced-length : (stored : Stored) (entry : ℕ) (state : RowState) (reason time : ℕ) (all : List Row) → length (rows_by (fate_stored stored) (Some (Change.Advance entry state reason time)) all) ≤ length all
advanced-length Stored.Yes entry state reason time all = let e = length-map all (with_state entry state reason time) in omega (arith, e)
advanced-length _ entry state reason time all = omega arith

pub finish-ready : (a : HouseLogView) (client entry number : ℕ) (l : LiveEntry) (tail : List Mark) (b : BoardState) (blocks : ℕ) (closed : RowState) (stored : Stored) → IsHouseLog a → Runs a → 0 < boots (past_in a) → HomeTo a client entry number l tail b blocks → DoneIn a entry closed → UnchangedExactly closed stored → IsReady a (finish_event client entry closed stored)
finish-ready a client entry number l tail b blocks closed stored k r n s d u =
    spent-ready a (finish_event client entry closed stored) k
    (runs-takes a (finish_event client entry closed stored) r n refl)
    (λ plans. (
      l,
      closed,
      record { live = s.live; client_is = s.client_is; open_none = d.closed_none; done = d.done; closing = d.closing; state_is = refl; unchanged = u },
    ))
    refl
    (advanced-length stored entry (closing_stored closed stored) (reason_of (rows (basis_in a) (past_in a)) entry) (time_of (past_in a)) (rows (basis_in a) (past_in a)))

-- The blocks that are held.
pub finish-held : (a : HouseLogView) (client entry number : ℕ) (l : LiveEntry) (tail : List Mark) (b : BoardState) (blocks : ℕ) (closed : RowState) (stored : Stored) → IsHouseLog a → HomeTo a client entry number l tail b blocks → held (finish_event client entry closed stored ∷ past_in a) + blocks ≡ held (past_in a)
finish-held a client entry number l tail b blocks closed stored k s =
    let w = k.legal in
    let h = held-finished (past_in a) client entry (closing_stored closed stored) stored l (out-once (campaign_in a w.0) (past_in a) k.stands.history w.1) s.live in
    let e = s.blocks_are in omega (arith, h, e)

-- After a finish.
pub house-finished : {K : Type 0} (signs : KeeperSigns K) (client entry number : ℕ) (l : LiveEntry) (tail : List Mark) (b : BoardState) (blocks : ℕ) (closed : RowState) (stored : Stored) (old : Housed K) (new : HouseLogView) (pool : PoolCounts) (keeper : K) → IsHouse signs old → IsHouseLog old.house_log → IsHouseLog new
    → Appended client (finish_event client entry closed stored) old.house_log new → old.house_log.loaded ≡ true → off (past old) ≡ false → HomeTo old.house_log client entry number l tail b blocks
    → ClosedAs signs closed (closing_change old.house_log entry closed) stored old.keeper keeper → pool.capacity ≡ old.pool.capacity → pool.free ≡ old.pool.free + blocks
    → IsHouse signs (record { house_log = new; places = places_with old.places number b; pool = pool; keeper = keeper })
house-finished signs client entry number l tail b blocks closed stored old new pool keeper h o k a loaded on s cs pc pf =
    let clear = house-clear signs old h o loaded on in
    let all : List Row = rows (basis_in old.house_log) (past old) in
    let kept = after-closed signs old.keeper keeper old.house_log.core.rows entry closed (reason_of old.house_log.core.rows entry) (time_of (past old)) stored clear cs in
    let none : doubt (basis_in old.house_log) (past old) ≡ None = no-doubt old.house_log o on in
    house-next signs client (finish_event client entry closed stored) old (record { house_log = new; places = places_with old.places number b; pool = pool; keeper = keeper }) h a k
    (record {
      count = length-set old.places number (record (place_at old.places number) { board = Some b });
      places = home-places old.house_log (finish_event client entry closed stored) client entry number l tail b blocks old.places o h.count h.places s (finish-ends (basis_in old.house_log) (past old) client entry (closing_stored closed stored) stored);
      loaded = loaded;
      kept =
          so-has old.house_log.reopened signs keeper (rows (basis_in old.house_log) (finish_event client entry closed stored ∷ past old)) (doubt (basis_in old.house_log) (finish_event client entry closed stored ∷ past old))
          (subst (λ (x : Option Change). HasRows signs keeper (rows (basis_in old.house_log) (finish_event client entry closed stored ∷ past old)) (doubt_by (fate_stored stored) (Some (Change.Advance entry (closing_stored closed stored) (reason_of (rows (basis_in old.house_log) (past old)) entry) (time_of (past old)))) x)) (sym none)
          (subst (λ (x : List Row). HasRows signs keeper (rows_by (fate_stored stored) (Some (Change.Advance entry (closing_stored closed stored) (reason_of x entry) (time_of (past old)))) x) (doubt_by (fate_stored stored) (Some (Change.Advance entry (closing_stored closed stored) (reason_of x entry) (time_of (past old)))) None)) o.stands.rows kept));
      capacity = pc;
      free = (let e = finish-held old.house_log client entry number l tail b blocks closed stored o s in let f = h.free in omega (arith, pf, e, f));
    })

closed-before : {K : Type 0} (signs : KeeperSigns K) (closed : RowState) (change : Change) (stored : Stored) (old new : K) → ClosedAs signs closed change stored old new → ToldBefore signs.tells old new
closed-before signs RowState.Begun change stored old new c = told-same signs.tells old new c.1
closed-before signs _ change stored old new c = stored-before signs.tells old new change stored (signs.doubt new) c

-- So the keeper fared as the log tells.
pub finish-fared : {K : Type 0} (signs : KeeperSigns K) (client entry : ℕ) (closed state : RowState) (change : Change) (stored : Stored) (old new : Housed K) → past new ≡ Event.Finish client entry state stored ∷ past old → ClosedAs signs closed change stored old.keeper new.keeper
    → (stored ≡ Stored.Fault → Rose (signs.faults old.keeper) (signs.faults new.keeper)) → (stored ≡ Stored.Fault) ⊎ (signs.faults new.keeper ≡ signs.faults old.keeper) → KeeperFared signs old new
finish-fared signs client entry closed state change Stored.Fault old new p c r q = counted-more signs old new (ap keeper_faults p) (r refl) (closed-before signs closed change Stored.Fault old.keeper new.keeper c)
finish-fared signs client entry closed state change Stored.Yes old new p c r q = fared-quiet signs old new (ap keeper_faults p) (calm-stored Stored.Yes refl q) (closed-before signs closed change Stored.Yes old.keeper new.keeper c)
finish-fared signs client entry closed state change Stored.NoMemory old new p c r q = fared-quiet signs old new (ap keeper_faults p) (calm-stored Stored.NoMemory refl q) (closed-before signs closed change Stored.NoMemory old.keeper new.keeper c)
finish-fared signs client entry closed state change Stored.Unchanged old new p c r q = fared-quiet signs old new (ap keeper_faults p) (calm-stored Stored.Unchanged refl q) (closed-before signs closed change Stored.Unchanged old.keeper new.keeper c)
