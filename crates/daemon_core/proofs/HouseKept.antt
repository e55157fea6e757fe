-- A house, after an event.
use Rattle.std.proofs.Common.{◌≡◌, ℕ, ◌+◌, Bool, true, false, List, ◌∷◌, length, refl, ap, sym, ◌∙◌, subst, inl, inr}
use Rattle.std.specs.Prelude.{Option, Some, slice_get, Result, Ok, Err}
use Rattle.fw_facts.specs.declared.seen.Seen.{Seen}
use Rattle.history_keeper.specs.declared.row.Row.{Row}
use Rattle.history_keeper.specs.declared.change.Change.{Change}
use Rattle.history_keeper.specs.Signs.{KeeperSigns}
use Rattle.update_log.specs.declared.event.Event.{Event}
use Rattle.update_log.specs.declared.facts.Facts.{Facts}
use Rattle.update_log.specs.declared.live.Held.{Held}
use Rattle.update_log.specs.declared.live.LiveEntry.{LiveEntry}
use Rattle.update_log.specs.Holding.{blocks_out, held, holds, live}
use Rattle.update_log.specs.Known.{basis_of, Known, doubt, rows}
use Rattle.daemon_core.specs.HouseLog.{Appended, Entered, IsHouseLog, roomier}
use Rattle.daemon_core.specs.Boards.{PlaceStands}
use Rattle.daemon_core.specs.House.{IsHouse}
use Rattle.daemon_core.specs.Housed.{basis_in, HouseLogView, Housed, Place, past, past_in, rows_before}
use Rattle.daemon_core.specs.Keeping.{KeepsSo}
use Rattle.daemon_core.specs.Quiet.{is_quiet}
use Rattle.daemon_core.specs.declared.stop.Stop.{Stop}
use Rattle.daemon_core.proofs.HouseLogKept.{appended-before, appended-past}
use Rattle.daemon_core.proofs.PlacesKept.{place-same}
use Rattle.daemon_core.proofs.Quiet.{quiet-still, still-board}

-- The rows and the doubt after an event.
pub appended-rows : (client : ℕ) (event : Event) (old new : HouseLogView) → Appended client event old new → IsHouseLog new → new.core.rows ≡ rows (basis_in old) (event ∷ past_in old)
appended-rows client event old new a k =
    k.stands.rows
    ∙ ap (λ (f : Facts). rows (basis_of f (rows_before new)) (past_in new)) a.same.facts
    ∙ ap (λ (o : List Row). rows (basis_of old.facts o) (past_in new)) (appended-before client event old new a)
    ∙ ap (λ (es : List Event). rows (basis_in old) es) (appended-past client event old new a)

pub appended-doubt : (client : ℕ) (event : Event) (old new : HouseLogView) → Appended client event old new → IsHouseLog new → new.core.doubt ≡ doubt (basis_in old) (event ∷ past_in old)
appended-doubt client event old new a k =
    k.stands.doubt
    ∙ ap (λ (f : Facts). doubt (basis_of f (rows_before new)) (past_in new)) a.same.facts
    ∙ ap (λ (o : List Row). doubt (basis_of old.facts o) (past_in new)) (appended-before client event old new a)
    ∙ ap (λ (es : List Event). doubt (basis_in old) es) (appended-past client event old new a)

-- What a house is after an event that isn't a boot, over what was before.
pub record HouseNext {K : Type 0} (signs : KeeperSigns K) (event : Event) (old new : Housed K) : Type 0 where
  pub count : length new.places ≡ length old.places
  pub places : (number : ℕ) (place : Place) → slice_get new.places number ≡ Some place → PlaceStands (basis_in old.house_log) old.house_log.first (event ∷ past old) number place
  pub loaded : old.house_log.loaded ≡ true
  pub kept : KeepsSo old.house_log.reopened signs new.keeper (rows (basis_in old.house_log) (event ∷ past old)) (doubt (basis_in old.house_log) (event ∷ past old))
  pub capacity : new.pool.capacity ≡ old.pool.capacity
  pub free : new.pool.free + held (event ∷ past old) ≡ old.house_log.facts.pool

pub house-next : {K : Type 0} (signs : KeeperSigns K) (client : ℕ) (event : Event) (old new : Housed K) → IsHouse signs old → Appended client event old.house_log new.house_log → IsHouseLog new.house_log → HouseNext signs event old new → IsHouse signs new
house-next signs client event old new h a k n =
    let p : past new ≡ event ∷ past old = appended-past client event old.house_log new.house_log a in
    let b : rows_before new.house_log ≡ rows_before old.house_log = appended-before client event old.house_log new.house_log a in
    let f : new.house_log.facts ≡ old.house_log.facts = a.same.facts in
    record {
      count = n.count ∙ h.count ∙ ap (λ (x : Facts). length x.sheets) (sym f);
      places = λ number place e.
          subst (λ (x : Facts). PlaceStands (basis_of x (rows_before new.house_log)) new.house_log.first (past new) number place) (sym f)
          (subst (λ (x : List Seen). PlaceStands (basis_of old.house_log.facts (rows_before new.house_log)) x (past new) number place) (sym a.same.first)
          (subst (λ (x : List Row). PlaceStands (basis_of old.house_log.facts x) old.house_log.first (past new) number place) (sym b)
          (subst (λ (x : List Event). PlaceStands (basis_in old.house_log) old.house_log.first x number place) (sym p)
          (n.places number place e))));
      unloaded = λ u. let e : true ≡ false = sym n.loaded ∙ sym a.same.loaded ∙ u in cc;
      kept = λ _.
          subst (λ (x : Bool). KeepsSo x signs new.keeper new.house_log.core.rows new.house_log.core.doubt) (sym a.same.reopened)
          (subst (λ (x : List Row). KeepsSo old.house_log.reopened signs new.keeper x new.house_log.core.doubt) (sym (appended-rows client event old.house_log new.house_log a k))
          (subst (λ (x : Option Change). KeepsSo old.house_log.reopened signs new.keeper (rows (basis_in old.house_log) (event ∷ past old)) x) (sym (appended-doubt client event old.house_log new.house_log a k)) n.kept));
      capacity = n.capacity ∙ h.capacity ∙ ap (λ (x : Facts). x.pool) (sym f);
      free = ap (λ (x : List Event). new.pool.free + held x) p ∙ n.free ∙ ap (λ (x : Facts). x.pool) (sym f);
    }

-- With more room it is the same house.
pub house-roomier : {K : Type 0} (signs : KeeperSigns K) (old : Housed K) (new : HouseLogView) → IsHouse signs old → new ≡ roomier old.house_log new → IsHouse signs (record old { house_log = new })
house-roomier signs old new h e =
    subst (λ (x : HouseLogView). IsHouse signs (record old { house_log = x })) (sym e)
    (record { count = h.count; places = h.places; unloaded = h.unloaded; kept = h.kept; capacity = h.capacity; free = h.free })

-- The blocks that are held, where holds and live entries stay.
pub held-same : (past other : List Event) → holds other ≡ holds past → live other ≡ live past → held other ≡ held past
held-same past other h l = ap (λ (x : List Held). blocks_out x (live other)) h ∙ ap (λ (x : List LiveEntry). blocks_out (holds past) x) l

-- After a quiet event.
pub house-quiet : {K : Type 0} (signs : KeeperSigns K) (client : ℕ) (event : Event) (old : Housed K) (new : HouseLogView) → IsHouse signs old → IsHouseLog old.house_log → IsHouseLog new → Appended client event old.house_log new → old.house_log.loaded ≡ true → is_quiet event ≡ true
    → IsHouse signs (record old { house_log = new })
house-quiet signs client event old new h o k a l q =
    let s = quiet-still (basis_in old.house_log) old.house_log.first (past old) event q in
    let r : rows (basis_in old.house_log) (event ∷ past old) ≡ old.house_log.core.rows = ap (λ (x : Known). x.rows) s.same_known ∙ sym o.stands.rows in
    let d : doubt (basis_in old.house_log) (event ∷ past old) ≡ old.house_log.core.doubt = ap (λ (x : Known). x.doubt) s.same_known ∙ sym o.stands.doubt in
    house-next signs client event old (record old { house_log = new }) h a k
    (record {
      count = refl;
      places = λ number place e.
          place-same (basis_in old.house_log) old.house_log.first (past old) (event ∷ past old) number place
          (still-board (basis_in old.house_log) old.house_log.first (past old) event number s) (h.places number place e);
      loaded = l;
      kept =
          subst (λ (x : List Row). KeepsSo old.house_log.reopened signs old.keeper x (doubt (basis_in old.house_log) (event ∷ past old))) (sym r)
          (subst (λ (x : Option Change). KeepsSo old.house_log.reopened signs old.keeper old.house_log.core.rows x) (sym d) (h.kept l));
      capacity = refl;
      free = ap (λ (n : ℕ). old.pool.free + n) (held-same (past old) (event ∷ past old) s.same_holds s.same_live) ∙ h.free;
    })

-- However entering a turn went, it is a house.
pub house-entered : {K A : Type 0} (signs : KeeperSigns K) (client events : ℕ) (result : Result A Stop) (old : Housed K) (new : HouseLogView) → IsHouse signs old → IsHouseLog old.house_log → IsHouseLog new → Entered client events result old.house_log new
    → IsHouse signs (record old { house_log = new })
house-entered signs client events (Ok unit) old new h o k e = house-roomier signs old new h e.same
house-entered signs client events (Err Stop.Off) old new h o k (inl e) = subst (λ (x : HouseLogView). IsHouse signs (record old { house_log = x })) (sym e.1) h
house-entered signs client events (Err Stop.Off) old new h o k (inr e) = house-quiet signs client Event.Cut old new h o k e.2 e.1 refl
house-entered signs client events (Err Stop.NoMemory) old new h o k e = house-roomier signs old new h e.1
