-- What a claim is answered.
use Rattle.std.proofs.Common.{◌≡◌, ℕ, ◌<◌, ◌≤◌, ◌+◌, true, false, [], length, ap, sym, ◌∙◌, subst, inl, inr}
use Rattle.std.specs.Prelude.{Option, Some, None, IfSome, unwrap_or, Result, Ok, Err}
use Rattle.block_pool.specs.Views.{PoolCounts, SealedBytes}
use Rattle.emulated_boards.specs.Boards.{BoardState}
use Rattle.history_keeper.specs.declared.row.Row.{Row}
use Rattle.history_keeper.specs.Signs.{KeeperSigns}
use Rattle.update_log.specs.Holding.{hold}
use Rattle.update_log.specs.Pasts.{boots, off}
use Rattle.update_log.specs.Steps.{trace}
use Rattle.update_log.specs.declared.event.Event.{Event}
use Rattle.daemon_core.specs.declared.claimed.Claimed.{Claimed}
use Rattle.daemon_core.specs.declared.claimed.ClaimStop.{ClaimStop}
use Rattle.daemon_core.specs.declared.claimed.Taken.{Taken}
use Rattle.daemon_core.specs.declared.fetched.Fetched.{Fetched}
use Rattle.daemon_core.specs.declared.hold.Ticket.{Ticket}
use Rattle.daemon_core.specs.declared.stop.Stop.{Stop}
use Rattle.daemon_core.specs.HouseLog.{Appended, IsHouseLog, Ready, roomier}
use Rattle.daemon_core.specs.Boards.{BoardStands}
use Rattle.daemon_core.specs.Claims.{ClaimGave, IsToStore, MayClaim, RoomierBoard, RoomierPlaces, place_given, places_without, plugin_at}
use Rattle.daemon_core.specs.Fetches.{IsPayloadOf, block_count}
use Rattle.daemon_core.specs.Holds.{held_by}
use Rattle.daemon_core.specs.House.{IsHouse}
use Rattle.daemon_core.specs.Housed.{basis_in, HouseLogView, Housed, past, past_in}
use Rattle.daemon_core.specs.Keeping.{keeper_faults}
use Rattle.daemon_core.specs.Returns.{place_at}
use Rattle.daemon_core.specs.Turns.{KeeperFared, Turned}
use Rattle.daemon_core.proofs.Fared.{fared-both, fared-same}
use Rattle.daemon_core.proofs.Answered.{roomier-same, unchanged-appended, unchanged-on}
use Rattle.daemon_core.proofs.ClaimRoom.{board-itself, board-on, places-same, room-at, room-on, room-out}
use Rattle.daemon_core.proofs.ClaimTurns.{claim-board, claim-taken, takes_event}

-- ---- after a turn began

-- The client may claim.
pub entered-may : (old mid : HouseLogView) (client blocks : ℕ) (ticket : Ticket) → Ready 16 old mid → 0 < boots (past_in old) → hold (past_in old) client ≡ Some (held_by ticket blocks) → ticket.pending ≡ None → MayClaim mid client ticket blocks
entered-may old mid client blocks ticket r n h p =
    let m : MayClaim (roomier old mid) client ticket blocks =
    record { loaded = r.loaded; runs = record { on = r.runs.on; below = r.runs.below }; booted = n; held_is = h; asked = p; room = r.room; row_room = r.row_room } in
    subst (λ (a : HouseLogView). MayClaim a client ticket blocks) (sym r.same) m

-- What came of the turn since, came of all of it.
pub turned-after : {A : Type 0} (client events : ℕ) (event : A → Event) (result : Result A Stop) (old mid new : HouseLogView) → Ready events old mid → Turned client event result mid new → Turned client event result old new
turned-after client events event (Ok answer) old mid new r t = (r.runs, unchanged-appended client (event answer) old mid new (roomier-same old mid r.same) t.1)
turned-after client events event (Err Stop.Off) old mid new r (inl t) =
    let same : off (past_in mid) ≡ off (past_in old) = ap (λ (a : HouseLogView). off (past_in a)) r.same in
    let bad : true ≡ false = sym t.0 ∙ same ∙ r.runs.on in cc
turned-after client events event (Err Stop.Off) old mid new r (inr t) = inr (r.runs.on, unchanged-appended client Event.Cut old mid new (roomier-same old mid r.same) t.1)
turned-after client events event (Err Stop.NoMemory) old mid new r t = (r.runs.on, unchanged-on old mid new (roomier-same old mid r.same) t.1)

-- ---- what became of the boards and the blocks

pub gave-after : {K : Type 0} (client : ℕ) (ticket : Ticket) (fetched : Fetched) (result : Result Claimed ClaimStop) (old mid new : Housed K) → RoomierPlaces old.places mid.places → mid.pool ≡ old.pool → ClaimGave client ticket fetched result mid new → ClaimGave client ticket fetched result old new
gave-after client ticket fetched (Ok (Claimed.Taken taken)) old mid new r p g =
    let n = g.2.0 in (
      g.0,
      g.1 ∙ p,
      (n, g.2.1, room-on (places_without old.places n) (places_without mid.places n) new.places (room-out old.places mid.places n r) g.2.2, board-on (place_at old.places n).board (place_at mid.places n).board (Some taken.board) (room-at old.places mid.places n r) g.2.3),
    )
gave-after client ticket fetched (Ok (Claimed.Kept entry state)) old mid new r p g = (g.0 ∙ ap (λ (x : PoolCounts). x.free + block_count fetched) p, room-on old.places mid.places new.places r g.1)
gave-after client ticket fetched (Ok (Claimed.Refused refusal)) old mid new r p g = (g.0 ∙ ap (λ (x : PoolCounts). x.free + block_count fetched) p, room-on old.places mid.places new.places r g.1)
gave-after client ticket fetched (Err stopped) old mid new r p g = (g.0 ∙ p, room-on old.places mid.places new.places r g.1, g.2, g.3)

pub faults-after : {K : Type 0} (signs : KeeperSigns K) (old mid new : Housed K) → keeper_faults (past mid) ≡ keeper_faults (past old) → mid.keeper ≡ old.keeper → signs.faults mid.keeper ≤ signs.faults new.keeper → KeeperFared signs mid new → KeeperFared signs old new
faults-after signs old mid new e k c h = fared-both signs old mid new (fared-same signs old mid e k) h c

-- What became of a claim that took its entry.
pub gave-taken : {K : Type 0} (signs : KeeperSigns K) (client : ℕ) (ticket : Ticket) (payload : SealedBytes) (row : Row) (number : ℕ) (taken : Taken) (old new : Housed K) → IsHouse signs old → IsHouseLog old.house_log → MayClaim old.house_log client ticket payload.count → IsPayloadOf old.house_log.facts ticket.release payload → IsToStore old.house_log client ticket row number → number < length old.places
    → IfSome (place_at old.places number).board (λ b. 8 ≤ b.room) → Appended client (takes_event client ticket payload row) old.house_log new.house_log → new.pool ≡ old.pool → new.places ≡ places_without old.places number → (place_at old.places number).board ≡ Some taken.board → taken.entry ≡ row.entry → taken.payload ≡ payload
    → taken.plugin ≡ place_given (unwrap_or (plugin_at new.house_log.facts number) 0) → trace (basis_in new.house_log) row.entry (past new) ≡ Some taken.trace
    → ClaimGave client ticket (Fetched.Whole payload) (Ok (Claimed.Taken taken)) old new
gave-taken signs client ticket payload row number taken old new h k m p s within marks a pool places board entry same plugin traced =
    let b = claim-board signs client payload.count ticket row number old h k m s within in
    let e : Some b.0 ≡ Some taken.board = sym b.1 ∙ board in
    let is : b.0 ≡ taken.board = cc in
    let room : 8 ≤ taken.board.room = subst (λ (o : Option BoardState). IfSome o (λ x. 8 ≤ x.room)) board marks in (
      ap Fetched.Whole (sym same),
      pool,
      (number, claim-taken old.house_log new.house_log client ticket payload row number taken k m p s a (subst (λ (x : BoardState). BoardStands (basis_in old.house_log) old.house_log.first (past old) number x []) is b.2) room entry same plugin traced, places-same (places_without old.places number) new.places places, subst (λ (o : Option BoardState). RoomierBoard o (Some taken.board)) (sym board) (board-itself (Some taken.board))),
    )
