-- A house to which the board of a live entry comes home.
use Rattle.std.proofs.Common.{◌≡◌, ◌≢◌, ℕ, ◌<◌, ◌≤◌, ◌+◌, Bool, true, false, List, ◌∷◌, length, refl, ap, sym, ◌∙◌, subst, arith, ◌⊎◌, inl, inr, le_refl}
use Rattle.std.specs.Prelude.{Option, Some, None, slice_get, unwrap_or, find, ◌==◌}
use Rattle.block_pool.specs.Views.{PoolCounts}
use Rattle.emulated_boards.specs.Boards.{BoardState}
use Rattle.emulated_boards.specs.declared.mark.Mark.{Mark}
use Rattle.history_keeper.specs.declared.row.Row.{Row}
use Rattle.history_keeper.specs.declared.change.Change.{Change}
use Rattle.history_keeper.specs.Signs.{KeeperSigns}
use Rattle.core_state.proofs.CoreOpenings.{faults-live}
use Rattle.update_log.specs.declared.event.Back.{Back}
use Rattle.update_log.specs.declared.event.Event.{Event}
use Rattle.update_log.specs.declared.live.LiveEntry.{LiveEntry}
use Rattle.update_log.specs.Pasts.{AllFaults, boots, off}
use Rattle.update_log.specs.Holding.{held, live_entry}
use Rattle.update_log.specs.Known.{board_of, doubt, rows}
use Rattle.daemon_core.specs.HouseLog.{Appended, IsHouseLog}
use Rattle.daemon_core.specs.Boards.{PlaceStands}
use Rattle.daemon_core.specs.House.{IsHouse}
use Rattle.daemon_core.specs.Housed.{basis_in, campaign_in, HouseLogView, Housed, Place, past, past_in}
use Rattle.daemon_core.specs.Keeping.{KeepsSo}
use Rattle.daemon_core.specs.Returns.{ComesHome, place_at, places_with}
use Rattle.daemon_core.proofs.ClaimDone.{Ends, back-ends, ends-other, ends-own}
use Rattle.daemon_core.proofs.ClaimEnds.{get-set, length-set, number-within, other-number, place-found, own-board}
use Rattle.daemon_core.proofs.ClaimHouse.{IsReady, spent-ready}
use Rattle.daemon_core.proofs.Held.{held-given_entry}
use Rattle.daemon_core.proofs.HeldOnce.{out-once}
use Rattle.daemon_core.proofs.HouseKept.{house-next}

-- What comes home to a house log.
abbrev pub HomeTo : HouseLogView → ℕ → ℕ → ℕ → LiveEntry → List Mark → BoardState → ℕ → Type 0
HomeTo a client entry number l tail b blocks = ComesHome (basis_in a) a.first (past_in a) client entry number l tail b blocks

-- What the code reads before.
pub record HomePlan (places : List Place) (number n : ℕ) : Type 0 where
  pub number_is : n ≡ number
  pub within : n < length places

pub home-plan : {K : Type 0} (signs : KeeperSigns K) (client entry number n : ℕ) (l : LiveEntry) (tail : List Mark) (b : BoardState) (blocks : ℕ) (h : Housed K) → IsHouse signs h → IsHouseLog h.house_log → HomeTo h.house_log client entry number l tail b blocks
    → n ≡ unwrap_or (board_of h.house_log.facts h.house_log.core.rows entry) 0 → HomePlan h.places number n
home-plan signs client entry number n l tail b blocks h k o s e =
    let all : board_of h.house_log.facts h.house_log.core.rows entry ≡ Some number = ap (λ (rs : List Row). board_of h.house_log.facts rs entry) o.stands.rows ∙ s.board in
    let num : n ≡ number = e ∙ ap (λ (x : Option ℕ). unwrap_or x 0) all in
    let w = number-within h.house_log.facts (rows (basis_in h.house_log) (past h)) entry number s.board in
    let c = k.count in
    record { number_is = num; within = omega (arith, num, w, c) }

-- The places once it is home, at an event that ends the entry.
pub home-places : (a : HouseLogView) (event : Event) (client entry number : ℕ) (l : LiveEntry) (tail : List Mark) (b : BoardState) (blocks : ℕ) (places : List Place) → IsHouseLog a → length places ≡ length a.facts.sheets
    → ((m : ℕ) (place : Place) → slice_get places m ≡ Some place → PlaceStands (basis_in a) a.first (past_in a) m place)
    → HomeTo a client entry number l tail b blocks → Ends (basis_in a) (past_in a) event entry
    → (m : ℕ) (place : Place) → slice_get (places_with places number b) m ≡ Some place → PlaceStands (basis_in a) a.first (event ∷ past_in a) m place
home-places a event client entry number l tail b blocks places k count stand s ends m place e = at (get-set places number m (record (place_at places number) { board = Some b }) place e)
  where
    within : number < length places
    within = (let w = number-within a.facts (rows (basis_in a) (past_in a)) entry number s.board in omega (arith, w, count))

    own : PlaceStands (basis_in a) a.first (event ∷ past_in a) number (record (place_at places number) { board = Some b })
    own =
        ends-own (campaign_in a k.legal.0) (past_in a) event entry number l (place_at places number) b tail k.stands.history k.legal.1 ends s.live
        (own-board a.facts (rows (basis_in a) (past_in a)) entry number s.board) s.stands (stand number (place_at places number) (place-found places number within))

    at : ((m ≡ number) × (record (place_at places number) { board = Some b } ≡ place)) ⊎ ((m ≢ number) × (slice_get places m ≡ Some place)) → PlaceStands (basis_in a) a.first (event ∷ past_in a) m place
    at (inl h) =
        subst (λ (n : ℕ). PlaceStands (basis_in a) a.first (event ∷ past_in a) n place) (sym h.0)
        (subst (λ (p : Place). PlaceStands (basis_in a) a.first (event ∷ past_in a) number p) h.1 own)
    at (inr h) =
        ends-other (basis_in a) a.first (past_in a) event entry m place ends
        (other-number a.facts (rows (basis_in a) (past_in a)) entry number m s.board h.0)
        (stand m place h.1)

-- Giving back.

abbrev pub back_event : ℕ → ℕ → Event
back_event client entry = Event.GiveBack client (Back.Entry entry)

pub back-ready : (a : HouseLogView) (client entry number : ℕ) (l : LiveEntry) (tail : List Mark) (b : BoardState) (blocks : ℕ) → IsHouseLog a → 0 < boots (past_in a) → off (past_in a) ≡ true → HomeTo a client entry number l tail b blocks → IsReady a (back_event client entry)
back-ready a client entry number l tail b blocks k n o s =
    spent-ready a (back_event client entry) k
    (record { booted = λ _. n; on = λ h. cc; below = λ h. absurd (no h) })
    (λ plans. (l, s.live, s.client_is, o))
    refl (le_refl (length (rows (basis_in a) (past_in a))))
  where
    no : false ≡ true → ⊥
    no h = cc

-- the blocks that are held
pub back-held : (a : HouseLogView) (client entry number : ℕ) (l : LiveEntry) (tail : List Mark) (b : BoardState) (blocks : ℕ) → IsHouseLog a → HomeTo a client entry number l tail b blocks → held (back_event client entry ∷ past_in a) + blocks ≡ held (past_in a)
back-held a client entry number l tail b blocks k s =
    let w = k.legal in
    let h = held-given_entry (past_in a) client entry l (out-once (campaign_in a w.0) (past_in a) k.stands.history w.1) s.live s.client_is in
    let e = s.blocks_are in omega (arith, h, e)

pub back-fits : {K : Type 0} (signs : KeeperSigns K) (client entry number : ℕ) (l : LiveEntry) (tail : List Mark) (b : BoardState) (blocks : ℕ) (h : Housed K) → IsHouse signs h → IsHouseLog h.house_log → HomeTo h.house_log client entry number l tail b blocks → h.pool.free + blocks ≤ h.pool.capacity
back-fits signs client entry number l tail b blocks h k o s =
    let e = back-held h.house_log client entry number l tail b blocks o s in
    let f = k.free in let c = k.capacity in omega (arith, e, f, c)

pub house-back : {K : Type 0} (signs : KeeperSigns K) (client entry number : ℕ) (l : LiveEntry) (tail : List Mark) (b : BoardState) (blocks : ℕ) (old : Housed K) (new : HouseLogView) (pool : PoolCounts) → IsHouse signs old → IsHouseLog old.house_log → IsHouseLog new → Appended client (back_event client entry) old.house_log new → old.house_log.loaded ≡ true → HomeTo old.house_log client entry number l tail b blocks
    → pool.capacity ≡ old.pool.capacity → pool.free ≡ old.pool.free + blocks → IsHouse signs (record { house_log = new; places = places_with old.places number b; pool = pool; keeper = old.keeper })
house-back signs client entry number l tail b blocks old new pool h o k a loaded s pc pf =
    house-next signs client (back_event client entry) old (record { house_log = new; places = places_with old.places number b; pool = pool; keeper = old.keeper }) h a k
    (record {
      count = length-set old.places number (record (place_at old.places number) { board = Some b });
      places = home-places old.house_log (back_event client entry) client entry number l tail b blocks old.places o h.count h.places s (back-ends (basis_in old.house_log) (past old) client entry);
      loaded = loaded;
      kept =
          subst (λ (x : List Row). KeepsSo old.house_log.reopened signs old.keeper x (doubt (basis_in old.house_log) (past old))) o.stands.rows
          (subst (λ (x : Option Change). KeepsSo old.house_log.reopened signs old.keeper old.house_log.core.rows x) o.stands.doubt (h.kept loaded));
      capacity = pc;
      free = (let e = back-held old.house_log client entry number l tail b blocks o s in let f = h.free in omega (arith, pf, e, f));
    })

pub loaded-live : (loaded : Bool) (past : List Event) (entry : ℕ) (l : LiveEntry) → (loaded ≡ false → AllFaults past) → live_entry past entry ≡ Some l → loaded ≡ true
loaded-live true past entry l u f = refl
loaded-live false past entry l u f =
    let none : live_entry past entry ≡ None = ap (find (λ (x : LiveEntry). x.entry == entry)) (faults-live past (u refl)) in
    let bad : Some l ≡ None = sym f ∙ none in cc
