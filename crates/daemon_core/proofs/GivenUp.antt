-- A hold that is given back.
use Rattle.std.proofs.Common.{◌≡◌, ℕ, ◌<◌, ◌≤◌, ◌+◌, Bool, true, false, List, [], ◌∷◌, length, refl, ap, sym, ◌∙◌, subst, arith}
use Rattle.std.specs.Prelude.{Option, Some, None}
use Rattle.std.proofs.lemmas.List.{append-nil}
use Rattle.block_pool.specs.Views.{PoolCounts}
use Rattle.fw_facts.specs.declared.seen.Seen.{Seen}
use Rattle.history_keeper.specs.declared.change.Change.{Change}
use Rattle.history_keeper.specs.declared.row.Row.{Row}
use Rattle.update_log.specs.Pasts.{AllFaults, boots}
use Rattle.update_log.specs.Holding.{held, hold, hold_of, holds}
use Rattle.update_log.specs.Known.{Basis, basis_of, doubt, rows}
use Rattle.update_log.specs.Legal.{BackAllowed, BootTakes, IsLegal}
use Rattle.update_log.specs.Shows.{Campaign}
use Rattle.history_keeper.specs.Histories.{IsHistory}
use Rattle.history_keeper.specs.Signs.{KeeperSigns}
use Rattle.update_log.specs.declared.event.Event.{Event}
use Rattle.update_log.specs.declared.facts.Facts.{Facts}
use Rattle.update_log.specs.declared.live.Held.{Held}
use Rattle.update_log.specs.declared.request.Request.{Request}
use Rattle.daemon_core.specs.HouseLog.{Appended, IsAllowedSo, IsHouseLog, IsLegalSo}
use Rattle.daemon_core.specs.Holds.{back_of}
use Rattle.daemon_core.specs.House.{IsHouse}
use Rattle.daemon_core.specs.Housed.{basis_in, campaign_in, HouseLogView, Housed, past, past_in, rows_before}
use Rattle.daemon_core.specs.Keeping.{KeepsSo}
use Rattle.daemon_core.specs.Owed.{owed}
use Rattle.daemon_core.proofs.HouseLogKept.{legal-next}
use Rattle.daemon_core.proofs.Held.{held-given_pending, held-given_tag}
use Rattle.daemon_core.proofs.HeldOnce.{OutOnce, out-once}
use Rattle.daemon_core.proofs.HouseKept.{house-next}
use Rattle.daemon_core.proofs.Owed.{spends-legal}
use Rattle.daemon_core.proofs.PlacesKept.{SameOfBoard, place-same}

-- No boot that couldn't read the history gave a hold.
pub faults-holds : (past : List Event) → AllFaults past → holds past ≡ []
faults-holds [] a = refl
faults-holds (Event.Boot number time limit found boards ∷ past) a = refl
faults-holds (_ ∷ past) a = let e : false ≡ true = a.0 in cc

pub loaded-held : (loaded : Bool) (past : List Event) (client : ℕ) (h : Held) → (loaded ≡ false → AllFaults past) → hold past client ≡ Some h → loaded ≡ true
loaded-held true past client h u e = refl
loaded-held false past client h u e =
    let n : None ≡ Some h = sym (ap (λ (hs : List Held). hold_of hs client) (faults-holds past (u refl))) ∙ e in cc

-- The event of a hold that is given back.
abbrev pub back : ℕ → Option ℕ → Request → Event
back client pending request = Event.GiveBack client (back_of pending request)

back-board : (basis : Basis) (first : List Seen) (past : List Event) (client : ℕ) (pending : Option ℕ) (request : Request) (number : ℕ) → SameOfBoard basis first past (back client pending request ∷ past) number
back-board basis first past client None request number =
    record { told = append-nil _; out = refl; opened = refl; marks = refl; booted = λ h. h; seen = refl; before = refl; began = refl; raws = λ entry raw h. h; faults = refl }
back-board basis first past client (Some entry) request number =
    record { told = append-nil _; out = refl; opened = refl; marks = refl; booted = λ h. h; seen = refl; before = refl; began = refl; raws = λ entry raw h. h; faults = refl }

back-held : (past : List Event) (client : ℕ) (pending : Option ℕ) (request : Request) (h : Held) → OutOnce past → hold past client ≡ Some h → held (back client pending request ∷ past) + h.blocks ≡ held past
back-held past client None request h o e = held-given_tag past client request.tag h o e
back-held past client (Some entry) request h o e = held-given_pending past client entry h o e

back-allowed : (past : List Event) (client : ℕ) (pending : Option ℕ) (request : Request) (h : Held) → hold past client ≡ Some h → h.pending ≡ pending → h.request ≡ request → BackAllowed past client (back_of pending request)
back-allowed past client None request h e p r = (h, e, p, ap (λ (x : Request). x.tag) r)
back-allowed past client (Some entry) request h e p r = (h, e, p)

back-spends : (c : Campaign) (past : List Event) (client : ℕ) (pending : Option ℕ) (request : Request) → IsHistory c.basis.opening → IsLegal c (back client pending request ∷ past) → owed (back client pending request ∷ past) + 1 ≤ owed past
back-spends c past client None request v l = spends-legal c past (back client None request) v l refl
back-spends c past client (Some entry) request v l = spends-legal c past (back client (Some entry) request) v l refl

back-rows : (basis : Basis) (past : List Event) (client : ℕ) (pending : Option ℕ) (request : Request) → rows basis (back client pending request ∷ past) ≡ rows basis past
back-rows basis past client None request = refl
back-rows basis past client (Some entry) request = refl

back-doubt : (basis : Basis) (past : List Event) (client : ℕ) (pending : Option ℕ) (request : Request) → doubt basis (back client pending request ∷ past) ≡ doubt basis past
back-doubt basis past client None request = refl
back-doubt basis past client (Some entry) request = refl

-- What giving a hold back needs of the house log.
pub record MayGive (a : HouseLogView) (client : ℕ) (pending : Option ℕ) (request : Request) (blocks : ℕ) : Type 0 where
  pub loaded : a.loaded ≡ true
  pub takes : BootTakes (past_in a) (back client pending request)
  pub allowed : IsAllowedSo (basis_in a) a.first (past_in a) (back client pending request)
  pub room : owed (back client pending request ∷ past_in a) + 1 ≤ a.room
  pub row : length (rows (basis_in a) (back client pending request ∷ past_in a)) ≤ length a.core.rows + a.core.row_room
  pub blocks_out : held (back client pending request ∷ past_in a) + blocks ≡ held (past_in a)

pub may-give : (a b : HouseLogView) (client : ℕ) (h : Held) → a ≡ b → IsHouseLog a → 0 < boots (past_in b) → hold (past_in b) client ≡ Some h → MayGive a client h.pending h.request h.blocks
may-give a b client h same k booted e =
    let e' : hold (past_in a) client ≡ Some h = ap (λ (x : HouseLogView). hold (past_in x) client) same ∙ e in
    let t : BootTakes (past_in a) (back client h.pending h.request) = record { booted = λ _. subst (λ (x : HouseLogView). 0 < boots (past_in x)) (sym same) booted; on = λ n. cc; below = λ n. cc } in
    let w : IsAllowedSo (basis_in a) a.first (past_in a) (back client h.pending h.request) = λ plans. back-allowed (past_in a) client h.pending h.request h e' refl refl in
    let l : IsLegalSo (basis_in a) a.first (back client h.pending h.request ∷ past_in a) = legal-next (basis_in a) a.first (past_in a) (back client h.pending h.request) k.legal t w in
    let s = back-spends (campaign_in a l.0) (past_in a) client h.pending h.request k.stands.history l.1 in
    let r = k.room in
    let rs = ap length (back-rows (basis_in a) (past_in a) client h.pending h.request ∙ sym k.stands.rows) in
    record {
      loaded = loaded-held a.loaded (past_in a) client h k.unloaded e';
      takes = t;
      allowed = w;
      room = omega (arith, s, r);
      row = omega (arith, rs);
      blocks_out = back-held (past_in a) client h.pending h.request h (out-once (campaign_in a k.legal.0) (past_in a) k.stands.history k.legal.1) e';
    }

-- A house, after a hold was given back.
pub house-given : {K : Type 0} (signs : KeeperSigns K) (client : ℕ) (pending : Option ℕ) (request : Request) (blocks : ℕ) (old : Housed K) (new : HouseLogView) (pool : PoolCounts) → IsHouse signs old → IsHouseLog old.house_log → IsHouseLog new
    → Appended client (back client pending request) old.house_log new → MayGive old.house_log client pending request blocks → pool.capacity ≡ old.pool.capacity → pool.free ≡ old.pool.free + blocks → IsHouse signs (record old { house_log = new; pool = pool })
house-given signs client pending request blocks old new pool h o k a m cap free =
    let out = m.blocks_out in
    let was = h.free in
    let facts : Facts = old.house_log.facts in
    let before : List Row = rows_before old.house_log in
    house-next signs client (back client pending request) old (record old { house_log = new; pool = pool }) h a k
    (record {
      count = refl;
      places = λ number place e.
          place-same (basis_of facts before) old.house_log.first (past old) (back client pending request ∷ past old) number place
          (back-board (basis_of facts before) old.house_log.first (past old) client pending request number) (h.places number place e);
      loaded = m.loaded;
      kept =
          subst (λ (x : List Row). KeepsSo old.house_log.reopened signs old.keeper x (doubt (basis_of facts before) (back client pending request ∷ past old))) (sym (back-rows (basis_of facts before) (past old) client pending request ∙ sym o.stands.rows))
          (subst (λ (x : Option Change). KeepsSo old.house_log.reopened signs old.keeper old.house_log.core.rows x) (sym (back-doubt (basis_of facts before) (past old) client pending request ∙ sym o.stands.doubt)) (h.kept m.loaded));
      capacity = cap;
      free = omega (arith, out, was, free);
    })
