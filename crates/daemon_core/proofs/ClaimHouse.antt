-- A house after the steps of a live entry.
use Rattle.std.proofs.Common.{◌≡◌, ℕ, ◌<◌, ◌≤◌, ◌+◌, true, false, List, ◌∷◌, length, refl, ap, sym, subst, arith, inl, inr, le_refl}
use Rattle.std.specs.Prelude.{Option, Result, Ok, Err}
use Rattle.history_keeper.specs.declared.row.Row.{Row}
use Rattle.history_keeper.specs.declared.change.Change.{Change}
use Rattle.history_keeper.specs.Signs.{KeeperSigns}
use Rattle.update_log.specs.declared.event.Event.{Event}
use Rattle.update_log.specs.declared.event.Op.{Op}
use Rattle.update_log.specs.declared.live.LiveEntry.{LiveEntry}
use Rattle.update_log.specs.Known.{doubt, rows}
use Rattle.update_log.specs.Legal.{BootTakes, StartAllowed}
use Rattle.update_log.specs.Pasts.{boots, is_boot}
use Rattle.daemon_core.specs.HouseLog.{Appended, IsAllowedSo, IsHouseLog, Runs}
use Rattle.daemon_core.specs.Goes.{GoesOn}
use Rattle.daemon_core.specs.House.{IsHouse}
use Rattle.daemon_core.specs.Housed.{basis_in, campaign_in, HouseLogView, Housed, past, past_in}
use Rattle.daemon_core.specs.Keeping.{KeepsSo}
use Rattle.daemon_core.specs.Owed.{owed}
use Rattle.daemon_core.specs.declared.off.Off.{Off}
use Rattle.daemon_core.proofs.HouseLogKept.{legal-next}
use Rattle.daemon_core.proofs.ClaimBoards.{start-place}
use Rattle.daemon_core.proofs.HouseKept.{house-next, house-quiet}
use Rattle.daemon_core.proofs.Owed.{spends, spends-legal}

-- However going on went, it is a house.
pub house-gone : {K A : Type 0} (signs : KeeperSigns K) (client : ℕ) (result : Result A Off) (old : Housed K) (new : HouseLogView) → IsHouse signs old → IsHouseLog old.house_log → IsHouseLog new → GoesOn client result old.house_log new → IsHouse signs (record old { house_log = new })
house-gone signs client (Ok unit) old new h o k g = subst (λ (x : HouseLogView). IsHouse signs (record old { house_log = x })) (sym g.2) h
house-gone signs client (Err e) old new h o k (inl g) = subst (λ (x : HouseLogView). IsHouse signs (record old { house_log = x })) (sym g.1) h
house-gone signs client (Err e) old new h o k (inr g) = house-quiet signs client Event.Cut old new h o k g.2 g.1 refl

-- A boot that runs takes an event that is no boot.
pub runs-takes : (a : HouseLogView) (event : Event) → Runs a → 0 < boots (past_in a) → is_boot event ≡ false → BootTakes (past_in a) event
runs-takes a event r b n = record { booted = λ _. b; on = λ _. r.on; below = λ _. r.below }

-- An event that takes from the room that was kept has room.
pub spent-room : (a : HouseLogView) (event : Event) → IsHouseLog a → BootTakes (past_in a) event → IsAllowedSo (basis_in a) a.first (past_in a) event → spends event ≡ true → owed (event ∷ past_in a) + 1 ≤ a.room
spent-room a event k t w s =
    let l = legal-next (basis_in a) a.first (past_in a) event k.legal t w in
    let less = spends-legal (campaign_in a l.0) (past_in a) event k.stands.history l.1 s in
    let r = k.room in omega (arith, less, r)

-- What a client starts is allowed, whatever the plans of the boots are.
pub start-allowed : (a : HouseLogView) (client entry : ℕ) (op : Op) (l : LiveEntry) → StartAllowed (basis_in a) (past_in a) client entry op l → IsAllowedSo (basis_in a) a.first (past_in a) (Event.Start client entry op)
start-allowed a client entry op l s = λ plans. (l, s)

-- What is to be put behind the log may be.
pub record IsReady (a : HouseLogView) (event : Event) : Type 0 where
  pub takes : BootTakes (past_in a) event
  pub allowed : IsAllowedSo (basis_in a) a.first (past_in a) event
  pub room : owed (event ∷ past_in a) + 1 ≤ a.room
  pub row : length (rows (basis_in a) (event ∷ past_in a)) ≤ length a.core.rows + a.core.row_room

-- an event that spends, and leaves the rows
pub spent-ready : (a : HouseLogView) (event : Event) → IsHouseLog a → BootTakes (past_in a) event → IsAllowedSo (basis_in a) a.first (past_in a) event → spends event ≡ true → length (rows (basis_in a) (event ∷ past_in a)) ≤ length (rows (basis_in a) (past_in a)) → IsReady a event
spent-ready a event k t w s r =
    record {
      takes = t;
      allowed = w;
      room = spent-room a event k t w s;
      row = (let e = ap length k.stands.rows in omega (arith, e, r));
    }

pub start-ready : (a b : HouseLogView) (client entry : ℕ) (op : Op) (l : LiveEntry) → a ≡ b → IsHouseLog a → Runs b → 0 < boots (past_in b) → StartAllowed (basis_in b) (past_in b) client entry op l → IsReady a (Event.Start client entry op)
start-ready a b client entry op l e k r n s =
    spent-ready a (Event.Start client entry op) k
    (runs-takes a (Event.Start client entry op) (subst Runs (sym e) r) (subst (λ (x : HouseLogView). 0 < boots (past_in x)) (sym e) n) refl)
    (start-allowed a client entry op l (subst (λ (x : HouseLogView). StartAllowed (basis_in x) (past_in x) client entry op l) (sym e) s))
    refl (le_refl (length (rows (basis_in a) (past_in a))))

-- After a start.
pub house-started : {K : Type 0} (signs : KeeperSigns K) (client entry : ℕ) (op : Op) (l : LiveEntry) (old : Housed K) (new : HouseLogView) → IsHouse signs old → IsHouseLog old.house_log → IsHouseLog new → Appended client (Event.Start client entry op) old.house_log new → old.house_log.loaded ≡ true → StartAllowed (basis_in old.house_log) (past old) client entry op l → IsHouse signs (record old { house_log = new })
house-started signs client entry op l old new h o k a loaded s =
    house-next signs client (Event.Start client entry op) old (record old { house_log = new }) h a k
    (record {
      count = refl;
      places = λ number place e. start-place (basis_in old.house_log) old.house_log.first (past old) client entry op l number place s.live (h.places number place e);
      loaded = loaded;
      kept =
          subst (λ (x : List Row). KeepsSo old.house_log.reopened signs old.keeper x (doubt (basis_in old.house_log) (past old))) o.stands.rows
          (subst (λ (x : Option Change). KeepsSo old.house_log.reopened signs old.keeper old.house_log.core.rows x) o.stands.doubt (h.kept loaded));
      capacity = refl;
      free = h.free;
    })
