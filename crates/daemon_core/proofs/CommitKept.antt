-- A house, after an event that asks the keeper for a change.
use Rattle.std.proofs.Common.{◌≡◌, ℕ, ◌+◌, true, false, List, [], ◌∷◌, refl, ap, sym, ◌∙◌, subst}
use Rattle.std.specs.Prelude.{Option, Some, None}
use Rattle.daemon_core.proofs.PuttingOff.{no-doubt}
use Rattle.history_keeper.specs.declared.row.Row.{Row}
use Rattle.history_keeper.specs.declared.change.Change.{Change}
use Rattle.history_keeper.specs.Changes.{changed}
use Rattle.history_keeper.specs.Keepers.{StillTold, ToldWith}
use Rattle.history_keeper.specs.Signs.{KeeperSigns}
use Rattle.update_log.specs.declared.event.Event.{Event}
use Rattle.update_log.specs.declared.event.Stored.{Stored}
use Rattle.update_log.specs.declared.facts.Facts.{Facts}
use Rattle.update_log.specs.Holding.{holds, live, open_steps}
use Rattle.update_log.specs.Known.{Basis, basis_of, doubt, doubt_by, fate_stored, known, rows, rows_by, tells}
use Rattle.update_log.specs.Pasts.{is_boot, off}
use Rattle.update_log.specs.Shows.{told_by}
use Rattle.daemon_core.specs.HouseLog.{Appended, IsHouseLog, IsLegalSo}
use Rattle.fw_facts.specs.declared.seen.Seen.{Seen}
use Rattle.daemon_core.proofs.HouseLogKept.{appended-before, appended-past}
use Rattle.daemon_core.specs.Boards.{is_faulty_end}
use Rattle.daemon_core.specs.Commits.{StoredAs}
use Rattle.daemon_core.specs.House.{IsHouse}
use Rattle.daemon_core.specs.Housed.{basis_in, HouseLogView, Housed, past, past_in, rows_before}
use Rattle.daemon_core.specs.Keeping.{HasRows, KeepsSo}
use Rattle.daemon_core.specs.Turns.{ToldBefore}
use Rattle.daemon_core.proofs.BoardsQuiet.{quiet-board}
use Rattle.daemon_core.proofs.HouseKept.{house-next, held-same}
use Rattle.daemon_core.proofs.KeptSo.{so-clear, so-has}
use Rattle.daemon_core.proofs.PlacesKept.{place-same}

-- The keeper of a house whose boot isn't off has the rows of the log, and no doubt.
pub house-clear : {K : Type 0} (signs : KeeperSigns K) (h : Housed K) → IsHouse signs h → IsHouseLog h.house_log → h.house_log.loaded ≡ true → off (past h) ≡ false → HasRows signs h.keeper h.house_log.core.rows None
house-clear signs h k a l o =
    so-clear h.house_log.reopened signs h.keeper h.house_log.core.rows
    (subst (λ (d : Option Change). KeepsSo h.house_log.reopened signs h.keeper h.house_log.core.rows d) (a.stands.doubt ∙ no-doubt h.house_log a o) (k.kept l))

changed-told : (o p : List Row → Type 0) (rows : List Row) (change : Change) → ((all : List Row) → o all → all ≡ rows) → ToldWith change o p → (all : List Row) → p all → all ≡ changed change rows
changed-told o p rows change h w all t = let before = w all t in before.2 ∙ ap (λ (l : List Row). changed change l) (h before.0 before.1)

same-told : (o p : List Row → Type 0) (rows : List Row) → ((all : List Row) → o all → all ≡ rows) → StillTold o p → (all : List Row) → p all → all ≡ rows
same-told o p rows h s all t = h all (s all t)

-- A keeper that tells rows after it was to make a change told rows before.
pub stored-before : {K : Type 0} (told : K → List Row → Type 0) (old new : K) (change : Change) (stored : Stored) (left : Option Change) → StoredAs change stored (told old) (told new) left → ToldBefore told old new
stored-before told old new change Stored.Yes left s all t = let before = s.0 all t in (before.0, before.1)
stored-before told old new change Stored.Fault left s all t = (all, s.0 all t)
stored-before told old new change Stored.NoMemory left s all t = (all, s.0 all t)
stored-before told old new change Stored.Unchanged left s all t = absurd s

-- A house whose keeper made no change, over a house log that is equal to those that a call began with.
pub house-unstored : {K : Type 0} (signs : KeeperSigns K) (h : Housed K) (b : HouseLogView) (keeper : K) → h.house_log ≡ b → IsHouse signs h → IsHouseLog h.house_log → b.loaded ≡ true → off (past_in b) ≡ false → StillTold (signs.tells h.keeper) (signs.tells keeper) × (signs.doubt keeper ≡ None)
    → IsHouse signs (record h { keeper = keeper })
house-unstored signs h b keeper e w k l o c =
    let l' : h.house_log.loaded ≡ true = ap (λ (x : HouseLogView). x.loaded) e ∙ l in
    let o' : off (past h) ≡ false = ap (λ (x : HouseLogView). off (past_in x)) e ∙ o in
    let clear = house-clear signs h w k l' o' in
    let d : h.house_log.core.doubt ≡ None = k.stands.doubt ∙ no-doubt h.house_log k o' in
    record {
      count = w.count;
      places = w.places;
      unloaded = λ u. c.1;
      kept = λ l.
          so-has h.house_log.reopened signs keeper h.house_log.core.rows h.house_log.core.doubt
          (record { rows_are = same-told (signs.tells h.keeper) (signs.tells keeper) h.house_log.core.rows clear.rows_are c.0; doubt_is = c.1 ∙ sym d });
      capacity = w.capacity;
      free = w.free;
    }

-- After a change the keeper has the rows that the log has then, and its doubt.
pub stored-keeps : {K : Type 0} (signs : KeeperSigns K) (old new : K) (rows : List Row) (change : Change) (stored : Stored) → HasRows signs old rows None → StoredAs change stored (signs.tells old) (signs.tells new) (signs.doubt new)
    → HasRows signs new (rows_by (fate_stored stored) (Some change) rows) (doubt_by (fate_stored stored) (Some change) None)
stored-keeps signs old new rows change Stored.Yes h s = record { rows_are = changed-told (signs.tells old) (signs.tells new) rows change h.rows_are s.0; doubt_is = s.1 }
stored-keeps signs old new rows change Stored.Fault h s = record { rows_are = same-told (signs.tells old) (signs.tells new) rows h.rows_are s.0; doubt_is = s.1 }
stored-keeps signs old new rows change Stored.NoMemory h s = record { rows_are = same-told (signs.tells old) (signs.tells new) rows h.rows_are s.0; doubt_is = s.1 }
stored-keeps signs old new rows change Stored.Unchanged h s = absurd s

-- The log with the event is legal.
pub legal-after : (client : ℕ) (event : Event) (old new : HouseLogView) → Appended client event old new → IsHouseLog new → IsLegalSo (basis_in old) old.first (event ∷ past_in old)
legal-after client event old new a k =
    subst (λ (f : Facts). IsLegalSo (basis_of f (rows_before old)) old.first (event ∷ past_in old)) a.same.facts
    (subst (λ (s : List Seen). IsLegalSo (basis_of new.facts (rows_before old)) s (event ∷ past_in old)) a.same.first
    (subst (λ (o : List Row). IsLegalSo (basis_of new.facts o) new.first (event ∷ past_in old)) (appended-before client event old new a)
    (subst (λ (es : List Event). IsLegalSo (basis_in new) new.first es) (appended-past client event old new a) k.legal)))

-- The event asks for the change, and tells what became of it; it says nothing else of boards, holds and live entries.
pub record AsksOnly (basis : Basis) (past : List Event) (event : Event) (change : Change) (stored : Stored) : Type 0 where
  pub no_boot : is_boot event ≡ false
  pub told : (number : ℕ) → told_by basis.facts (rows basis past) event number ≡ []
  pub same_tells : (number : ℕ) → tells basis.facts (live past) (known basis past) event number ≡ None
  pub faulty : (number : ℕ) → is_faulty_end basis.facts (rows basis past) number event ≡ false
  pub same_live : live (event ∷ past) ≡ live past
  pub same_steps : open_steps (event ∷ past) ≡ open_steps past
  pub same_holds : holds (event ∷ past) ≡ holds past
  pub rows_are : rows basis (event ∷ past) ≡ rows_by (fate_stored stored) (Some change) (rows basis past)
  pub doubt_is : doubt basis (event ∷ past) ≡ doubt_by (fate_stored stored) (Some change) (doubt basis past)

-- After such an event, and the keeper's commit, it is a house.
pub house-asked : {K : Type 0} (signs : KeeperSigns K) (client : ℕ) (event : Event) (change : Change) (stored : Stored) (old : Housed K) (new : HouseLogView) (keeper : K) → IsHouse signs old → IsHouseLog old.house_log → IsHouseLog new → Appended client event old.house_log new → old.house_log.loaded ≡ true → off (past old) ≡ false
    → AsksOnly (basis_in old.house_log) (past old) event change stored → StoredAs change stored (signs.tells old.keeper) (signs.tells keeper) (signs.doubt keeper) → IsHouse signs (record old { house_log = new; keeper = keeper })
house-asked signs client event change stored old new keeper h o k a l on q s =
    let g : Basis = basis_in old.house_log in
    let clear = house-clear signs old h o l on in
    let kept = stored-keeps signs old.keeper keeper old.house_log.core.rows change stored clear s in
    let legal = legal-after client event old.house_log new a k in
    house-next signs client event old (record old { house_log = new; keeper = keeper }) h a k
    (record {
      count = refl;
      places = λ number place e.
          place-same g old.house_log.first (past old) (event ∷ past old) number place
          (quiet-board g old.house_log.first (past old) event o.stands.history legal number (q.told number) (q.same_tells number) (q.faulty number) q.no_boot q.same_live q.same_steps)
          (h.places number place e);
      loaded = l;
      kept =
          so-has old.house_log.reopened signs keeper (rows g (event ∷ past old)) (doubt g (event ∷ past old))
          (subst (λ (x : List Row). HasRows signs keeper x (doubt g (event ∷ past old))) (ap (rows_by (fate_stored stored) (Some change)) o.stands.rows ∙ sym q.rows_are)
          (subst (λ (x : Option Change). HasRows signs keeper (rows_by (fate_stored stored) (Some change) old.house_log.core.rows) x)
          (ap (doubt_by (fate_stored stored) (Some change)) (sym (no-doubt old.house_log o on)) ∙ sym q.doubt_is) kept));
      capacity = refl;
      free = ap (λ (n : ℕ). old.pool.free + n) (held-same (past old) (event ∷ past old) q.same_holds q.same_live) ∙ h.free;
    })
