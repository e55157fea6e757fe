-- A house that read the history.
use Rattle.std.proofs.Common.{◌≡◌, ℕ, Bool, true, false, List, refl, sym, ◌∙◌, ◌⊎◌, inl, inr, ◌+◌, ◌≤◌, arith, length, subst}
use Rattle.std.specs.Prelude.{Some, None, Option, Result, Ok, Err}
use Rattle.fw_base.specs.declared.memory.NoMemory.{NoMemory}
use Rattle.history_keeper.specs.declared.change.Change.{Change}
use Rattle.history_keeper.specs.declared.row.Row.{Row}
use Rattle.history_keeper.specs.Keepers.{with_doubt}
use Rattle.core_state.proofs.CoreOpenings.{faults-doubt}
use Rattle.std.proofs.lemmas.List.{length_push, length-map}
use Rattle.history_keeper.specs.Changes.{changed, with_state}
use Rattle.history_keeper.specs.Signs.{KeeperSigns}
use Rattle.update_log.specs.Legal.{FoundAllowed}
use Rattle.update_log.specs.Pasts.{is_found_fault}
use Rattle.update_log.proofs.Lists.{by_test}
use Rattle.update_log.specs.declared.event.Found.{Found}
use Rattle.update_log.specs.Known.{basis_of, doubt_found, rows_found}
use Rattle.daemon_core.proofs.BootHouse.{stand-over}
use Rattle.daemon_core.proofs.KeptSo.{so-has}
use Rattle.daemon_core.specs.HouseLog.{IsHouseLog}
use Rattle.daemon_core.specs.Boards.{PlaceStands}
use Rattle.daemon_core.specs.Booting.{PlacesStand, opened}
use Rattle.daemon_core.specs.House.{IsHouse}
use Rattle.daemon_core.specs.Housed.{basis_in, HouseLogView, Housed, past_in, rows_before}
use Rattle.daemon_core.specs.Keeping.{HasRows, KeepsSo, still_reopened}
use Rattle.daemon_core.specs.Reading.{CanBoot, CanBootAfter, FirstRead, LaterRead}
use Rattle.daemon_core.specs.declared.reading.Loaded.{Loaded}

-- the rows with what was found are those without or with the change in doubt
found-cases : (found : Found) (change : Option Change) (rows : List Row) → (rows_found found change rows ≡ rows) ⊎ (rows_found found change rows ≡ with_doubt change rows)
found-cases Found.Kept (Some change) rows = inr refl
found-cases _ _ rows = inl refl

told-cases : (told : List Row → Type 0) (found : Found) (change : Option Change) (rows : List Row) → ((all : List Row) → told all → all ≡ rows_found found change rows) → (all : List Row) → told all → (all ≡ rows) ⊎ (all ≡ with_doubt change rows)
told-cases told found change rows h all t = at (found-cases found change rows)
  where
    at : (rows_found found change rows ≡ rows) ⊎ (rows_found found change rows ≡ with_doubt change rows) → (all ≡ rows) ⊎ (all ≡ with_doubt change rows)
    at (inl e) = inl (h all t ∙ e)
    at (inr e) = inr (h all t ∙ e)

-- a boot that went well leaves no doubt
found-none : (found : Found) (change : Option Change) → FoundAllowed found change → is_found_fault found ≡ false → doubt_found found change ≡ None
found-none Found.Plain (Some change) a w = absurd a
found-none Found.Fault change a w = cc
found-none _ _ a w = refl

-- it adds one row at most
changed-one : (change : Change) (rows : List Row) → length (changed change rows) ≤ length rows + 1
changed-one (Change.Add row) rows = omega (arith, length_push rows row)
changed-one (Change.Advance entry state reason time) rows = omega (arith, length-map rows (with_state entry state reason time))

found-one : (found : Found) (change : Option Change) (rows : List Row) → length (rows_found found change rows) ≤ length rows + 1
found-one Found.Kept (Some change) rows = changed-one change rows
found-one _ _ rows = omega arith

module _ {K : Type 0} (signs : KeeperSigns K) (settled : K → K → Type 0) (old : Housed K) (keeper : K) (h : IsHouse signs old) (k : IsHouseLog old.house_log) where
  -- a house whose keeper has these rows still
  house-kept : (b : Bool) → (old.house_log.loaded ≡ false → signs.doubt keeper ≡ None) → (old.house_log.loaded ≡ true → KeepsSo b signs keeper old.house_log.core.rows old.house_log.core.doubt)
      → IsHouse signs (record { house_log = record old.house_log { reopened = b }; places = old.places; pool = old.pool; keeper = keeper })
  house-kept b u t = record { count = h.count; places = h.places; unloaded = u; kept = t; capacity = h.capacity; free = h.free }

  house-same : (b : Bool) (new : HouseLogView) → new ≡ record old.house_log { reopened = b } → (old.house_log.loaded ≡ false → signs.doubt keeper ≡ None) → (old.house_log.loaded ≡ true → KeepsSo b signs keeper old.house_log.core.rows old.house_log.core.doubt)
      → IsHouse signs (record { house_log = new; places = old.places; pool = old.pool; keeper = keeper })
  house-same b new e u t = subst (λ (a : HouseLogView). IsHouse signs (record { house_log = a; places = old.places; pool = old.pool; keeper = keeper })) (sym e) (house-kept b u t)

  stood : PlacesStand old.house_log old.places
  stood = record { count = h.count; each = h.places }

  house-opened : (all : List Row) (n : ℕ) → old.house_log.loaded ≡ false → HasRows signs keeper all None → IsHouse signs (record { house_log = opened all n old.house_log; places = old.places; pool = old.pool; keeper = keeper })
  house-opened all n l r =
      let s = stand-over old.house_log all n old.places k l stood in
      let none : old.house_log.core.doubt ≡ None = k.stands.doubt ∙ faults-doubt (basis_in old.house_log) (past_in old.house_log) (k.unloaded l) in
      record {
        count = h.count;
        places = s.each;
        unloaded = λ e. cc;
        kept = λ e. so-has old.house_log.reopened signs keeper all old.house_log.core.doubt (subst (λ (d : Option Change). HasRows signs keeper all d) (sym none) r);
        capacity = h.capacity;
        free = h.free;
      }

  house-refused : (all : List Row) → old.house_log.loaded ≡ false → signs.doubt keeper ≡ None → IsHouse signs (record { house_log = record old.house_log { opening = all }; places = old.places; pool = old.pool; keeper = keeper })
  house-refused all l d =
      let e : rows_before (record old.house_log { opening = all }) ≡ rows_before old.house_log = rw l refl in
      record {
        count = h.count;
        places = λ number place g. subst (λ (o : List Row). PlaceStands (basis_of old.house_log.facts o) old.house_log.first (past_in old.house_log) number place) (sym e) (h.places number place g);
        unloaded = λ _. d;
        kept = λ t. let bad : true ≡ false = sym t ∙ l in cc;
        capacity = h.capacity;
        free = h.free;
      }

  not-loaded : old.house_log.loaded ≡ false → old.house_log.loaded ≡ true → KeepsSo old.house_log.reopened signs keeper old.house_log.core.rows old.house_log.core.doubt
  not-loaded l t = let bad : true ≡ false = sym t ∙ l in cc

  not-unloaded : old.house_log.loaded ≡ true → old.house_log.loaded ≡ false → signs.doubt keeper ≡ None
  not-unloaded t l = let bad : true ≡ false = sym t ∙ l in cc

  house-first : (result : Result Loaded NoMemory) (new : HouseLogView) → old.house_log.loaded ≡ false → FirstRead signs result old.house_log new old.keeper keeper
      → IsHouse signs (record { house_log = new; places = old.places; pool = old.pool; keeper = keeper })
  house-first (Ok (Loaded.Found found)) new l r =
      subst (λ (a : HouseLogView). IsHouse signs (record { house_log = a; places = old.places; pool = old.pool; keeper = keeper })) (sym r.0.opened_so)
      (house-opened new.opening new.core.row_room l r.0.keeps)
  house-first (Ok (Loaded.Bad entry)) new l r =
      subst (λ (a : HouseLogView). IsHouse signs (record { house_log = a; places = old.places; pool = old.pool; keeper = keeper })) (sym r.0.same)
      (house-refused new.opening l r.0.no_doubt)
  house-first (Ok Loaded.Fault) new l r = house-same old.house_log.reopened new r.0.same (λ _. r.0.no_doubt) (not-loaded l)
  house-first (Err refused) new l r = house-same old.house_log.reopened new r.0.same (λ _. r.0.no_doubt) (not-loaded l)

  house-later : (result : Result Loaded NoMemory) (new : HouseLogView) → old.house_log.loaded ≡ true → new ≡ record old.house_log { reopened = true } → LaterRead signs settled result old.house_log.core.rows old.house_log.core.doubt old.keeper keeper
      → IsHouse signs (record { house_log = new; places = old.places; pool = old.pool; keeper = keeper })
  house-later (Ok (Loaded.Found found)) new t e r =
      house-same true new e (not-unloaded t) (λ _. inr (record { rows_are = told-cases (signs.tells keeper) found old.house_log.core.doubt old.house_log.core.rows r.0.keeps.rows_are; no_doubt = r.0.keeps.doubt_is }))
  house-later (Ok (Loaded.Bad entry)) new t e r = house-same true new e (not-unloaded t) (λ _. r.0.keeps)
  house-later (Ok Loaded.Fault) new t e r = house-same true new e (not-unloaded t) (λ _. r.0)
  house-later (Err refused) new t e r = house-same true new e (not-unloaded t) (λ _. r.0)

  pub house-read : (result : Result Loaded NoMemory) (new : HouseLogView)
      → (old.house_log.loaded ≡ false → FirstRead signs result old.house_log new old.keeper keeper)
      → (old.house_log.loaded ≡ true → (new ≡ record old.house_log { reopened = true }) × LaterRead signs settled result old.house_log.core.rows old.house_log.core.doubt old.keeper keeper)
      → IsHouse signs (record { house_log = new; places = old.places; pool = old.pool; keeper = keeper })
  house-read result new first later =
      by_test old.house_log.loaded _
      (λ t. let w = later t in house-later result new t w.0 w.1)
      (λ l. house-first result new l (first l))

  -- so a boot may be put behind the log
  module _ (room : 1 ≤ old.house_log.core.row_room) where
    can-same : (b : Bool) (found : Found) → CanBoot signs found (record { house_log = record old.house_log { reopened = b }; places = old.places; pool = old.pool; keeper = keeper }) → (new : HouseLogView) → new ≡ record old.house_log { reopened = b }
        → CanBoot signs found (record { house_log = new; places = old.places; pool = old.pool; keeper = keeper })
    can-same b found c new e = subst (λ (a : HouseLogView). CanBoot signs found (record { house_log = a; places = old.places; pool = old.pool; keeper = keeper })) (sym e) c

    can-fault : (b : Bool) → (old.house_log.loaded ≡ true → KeepsSo b signs keeper old.house_log.core.rows old.house_log.core.doubt) → CanBoot signs Found.Fault (record { house_log = record old.house_log { reopened = b }; places = old.places; pool = old.pool; keeper = keeper })
    can-fault b t = record { allowed = tt; unloaded = λ _. refl; keeps = t; row = omega arith }

    can-open : (all : List Row) (n : ℕ) → old.house_log.loaded ≡ false → HasRows signs keeper all None → CanBoot signs Found.Plain (record { house_log = opened all n old.house_log; places = old.places; pool = old.pool; keeper = keeper })
    can-open all n l r =
        let none : old.house_log.core.doubt ≡ None = k.stands.doubt ∙ faults-doubt (basis_in old.house_log) (past_in old.house_log) (k.unloaded l) in
        record {
          allowed = subst (FoundAllowed Found.Plain) (sym none) tt;
          unloaded = λ e. cc;
          keeps = λ e. subst (λ (d : Option Change). HasRows signs keeper all d) (sym none) r;
          row = omega arith;
        }

    can-first : (result : Result Loaded NoMemory) (new : HouseLogView) → old.house_log.loaded ≡ false → FirstRead signs result old.house_log new old.keeper keeper
        → CanBootAfter signs result (record { house_log = new; places = old.places; pool = old.pool; keeper = keeper })
    can-first (Ok (Loaded.Found found)) new l r =
        subst (λ (f : Found). CanBoot signs f (record { house_log = new; places = old.places; pool = old.pool; keeper = keeper })) (sym r.0.found_is)
        (subst (λ (a : HouseLogView). CanBoot signs Found.Plain (record { house_log = a; places = old.places; pool = old.pool; keeper = keeper })) (sym r.0.opened_so)
        (can-open new.opening new.core.row_room l r.0.keeps))
    can-first (Ok (Loaded.Bad entry)) new l r = tt
    can-first (Ok Loaded.Fault) new l r = can-same old.house_log.reopened Found.Fault (can-fault old.house_log.reopened (not-loaded l)) new r.0.same
    can-first (Err refused) new l r = tt

    can-later : (result : Result Loaded NoMemory) (new : HouseLogView) → old.house_log.loaded ≡ true → new ≡ record old.house_log { reopened = true } → LaterRead signs settled result old.house_log.core.rows old.house_log.core.doubt old.keeper keeper
        → CanBootAfter signs result (record { house_log = new; places = old.places; pool = old.pool; keeper = keeper })
    can-later (Ok (Loaded.Found found)) new t e r =
        let none : doubt_found found old.house_log.core.doubt ≡ None = found-none found old.house_log.core.doubt r.0.allowed r.0.well in
        can-same true found (record {
          allowed = r.0.allowed;
          unloaded = λ l. let bad : true ≡ false = sym t ∙ l in cc;
          keeps = λ _.
              so-has (still_reopened found true) signs keeper (rows_found found old.house_log.core.doubt old.house_log.core.rows) (doubt_found found old.house_log.core.doubt)
              (subst (λ (d : Option Change). HasRows signs keeper (rows_found found old.house_log.core.doubt old.house_log.core.rows) d) (sym none) r.0.keeps);
          row = (let one = found-one found old.house_log.core.doubt old.house_log.core.rows in omega (arith, one, room));
        }) new e
    can-later (Ok (Loaded.Bad entry)) new t e r = tt
    can-later (Ok Loaded.Fault) new t e r = can-same true Found.Fault (can-fault true (λ _. r.0)) new e
    can-later (Err refused) new t e r = tt

    pub can-boot : (result : Result Loaded NoMemory) (new : HouseLogView)
        → (old.house_log.loaded ≡ false → FirstRead signs result old.house_log new old.keeper keeper)
        → (old.house_log.loaded ≡ true → (new ≡ record old.house_log { reopened = true }) × LaterRead signs settled result old.house_log.core.rows old.house_log.core.doubt old.keeper keeper)
        → CanBootAfter signs result (record { house_log = new; places = old.places; pool = old.pool; keeper = keeper })
    can-boot result new first later =
        by_test old.house_log.loaded _
        (λ t. let w = later t in can-later result new t w.0 w.1)
        (λ l. can-first result new l (first l))
