-- A house behind a boot.
use Rattle.std.proofs.Common.{◌≡◌, ℕ, Bool, true, false, ◌+◌, ◌≤◌, List, [], ◌∷◌, ◌++◌, refl, ap, sym, ◌∙◌, arith, length, length-append, subst, take}
use Rattle.std.proofs.Math.Seq.{take-length}
use Rattle.std.proofs.lemmas.List.{take-append-le}
use Rattle.std.specs.Prelude.{Some, None, Option, slice_get, unwrap_or, option_map}
use Rattle.block_pool.specs.Views.{PoolCounts}
use Rattle.emulated_boards.specs.Boards.{BoardState}
use Rattle.emulated_boards.specs.declared.mark.Mark.{Mark}
use Rattle.fw_facts.specs.declared.seen.Seen.{Seen}
use Rattle.history_keeper.specs.declared.change.Change.{Change}
use Rattle.history_keeper.specs.declared.row.Row.{Row}
use Rattle.history_keeper.specs.Signs.{KeeperSigns}
use Rattle.update_log.proofs.CrashOnce.{get-alike}
use Rattle.update_log.specs.Crashes.{next_boot}
use Rattle.update_log.specs.declared.event.BoardSeen.{BoardSeen}
use Rattle.update_log.specs.declared.event.Event.{Event}
use Rattle.update_log.specs.declared.event.Found.{Found}
use Rattle.update_log.specs.declared.event.Op.{Op}
use Rattle.update_log.specs.declared.facts.BootPlan.{BootPlan}
use Rattle.update_log.specs.declared.facts.Facts.{Facts}
use Rattle.update_log.specs.declared.live.OpenStep.{OpenStep}
use Rattle.update_log.specs.Holding.{blocks_out, held, holds, live}
use Rattle.update_log.specs.Known.{Basis, basis_of, doubt_found, rows, rows_found}
use Rattle.update_log.specs.Legal.{BoardListed, is_absent, open_marks, open_on}
use Rattle.update_log.specs.Shows.{IsPrefix, digest_of, marks, told}
use Rattle.daemon_core.proofs.HouseLogKept.{appended-before, appended-past}
use Rattle.daemon_core.proofs.BootHouseLog.{boot-rows, house_log-reopened}
use Rattle.daemon_core.proofs.BootOpenings.{place-over, said-over}
use Rattle.daemon_core.proofs.BootPlaces.{listed-so, place-started}
use Rattle.daemon_core.proofs.HouseKept.{appended-doubt, appended-rows}
use Rattle.daemon_core.specs.HouseLog.{Appended, IsHouseLog, IsLegalSo}
use Rattle.daemon_core.specs.Boards.{BoardIsHome, BoardStands, PlaceStands}
use Rattle.daemon_core.specs.Booting.{AllCanStart, AllListed, AllStarted, BoardsStarted, CanBeStarted, PlacesStand, opened}
use Rattle.daemon_core.specs.House.{IsHouse}
use Rattle.daemon_core.specs.Housed.{basis_in, HouseLogView, Place, past_in, rows_before}
use Rattle.daemon_core.specs.Keeping.{KeepsSo, still_reopened}

pub take-front : {X : Type 0} (n : ℕ) (xs ys : List X) → n ≡ length xs → take n (xs ++ ys) ≡ xs
take-front n xs ys e = rw e (take-append-le (length xs) xs ys (omega arith) ∙ take-length xs)

pub prefix-shorter : {X : Type 0} (xs ys : List X) → IsPrefix xs ys → length xs ≤ length ys
prefix-shorter [] ys p = omega arith
prefix-shorter (x ∷ xs) [] p = absurd p
prefix-shorter (x ∷ xs) (y ∷ ys) p = let h = prefix-shorter xs ys p.1 in omega (arith, h)

pub marks-few : (op : Op) (entry : ℕ) (digest : List ℕ) → length (marks op entry digest) ≤ 2
marks-few Op.Prepare entry digest = omega arith
marks-few _ entry digest = omega arith

open-few : (basis : Basis) (past : List Event) (number : ℕ) → length (open_marks basis past number) ≤ 2
open-few basis past number = at (open_on basis past number)
  where
    at : (o : Option OpenStep) → length (unwrap_or (option_map (λ s. marks s.op s.entry (digest_of (rows basis past) s.entry)) o) []) ≤ 2
    at None = omega arith
    at (Some s) = marks-few s.op s.entry (digest_of (rows basis past) s.entry)

-- the board of a place, while no entry is live
record AtHome (basis : Basis) (first : List Seen) (past : List Event) (number : ℕ) (o : Option BoardState) : Type 0 where
  board : BoardState
  is : o ≡ Some board
  tail : List Mark
  stands : BoardStands basis first past number board tail

at-home : (basis : Basis) (first : List Seen) (past : List Event) (number : ℕ) (o : Option BoardState) → live past ≡ [] → BoardIsHome basis first past number o → AtHome basis first past number o
at-home basis first past number None l h = let bad : false ≡ true = rw l at h in cc
at-home basis first past number (Some b) l h = record { board = b; is = refl; tail = h.1.0; stands = h.1.1 }

can-start : (basis : Basis) (first : List Seen) (past : List Event) (number : ℕ) (place : Place) → live past ≡ [] → PlaceStands basis first past number place → CanBeStarted place
can-start basis first past number place l p =
    let h = at-home basis first past number place.board l p.home in
    let j = h.stands.fits.journal in
    let e : length h.board.journal ≡ length (told basis past number) + length h.tail = ap length j.told_and_tail ∙ length-append (told basis past number) h.tail in
    let s : length h.tail ≤ length (open_marks basis past number) = prefix-shorter h.tail (open_marks basis past number) j.tail_is in
    let f = open-few basis past number in
    let t : place.told ≡ length (told basis past number) = p.told in
    (h.board, record { home = h.is; told = omega (arith, e, t); few = omega (arith, e, t, s, f) })

module _ (a : HouseLogView) (places after : List Place) (plan : BootPlan) (listed : List BoardSeen) (k : IsLegalSo (basis_in a) a.first (past_in a)) (p : PlacesStand a places) (l : live (past_in a) ≡ []) where
  pub all-can_start : AllCanStart places
  all-can_start number place e = can-start (basis_in a) a.first (past_in a) number place l (p.each number place e)

  -- what is listed of a board, and where it belongs
  module _ (s : AllStarted plan places after listed) where
    pub all-listed : AllListed (basis_in a) a.first (past_in a) plan listed
    all-listed =
        record {
          count = s.count ∙ p.count;
          each = λ number seen e.
              let o = get-alike listed places number seen (sym s.count) e in
              let t = s.each number o.0 o.1 in
              let w = t.4 in
              let pl = p.each number o.0 o.1 in
              let same : t.1 ≡ seen = (let x : Some t.1 ≡ Some seen = sym t.3 ∙ e in cc) in
              let h = at-home (basis_in a) a.first (past_in a) number o.0.board l pl.home in
              let b_is : h.board ≡ w.0 = (let x : Some h.board ≡ Some w.0 = sym h.is ∙ w.2.was in cc) in
              subst (λ (x : BoardSeen). BoardListed (basis_in a) a.first (past_in a) plan number x) same
              (listed-so (basis_in a) a.first (past_in a) number k (is_absent plan number) o.0 t.0 w.0 w.1 h.tail t.1
              (subst (λ (x : BoardState). BoardStands (basis_in a) a.first (past_in a) number x h.tail) b_is h.stands) pl.told w.2 plan refl);
        }

    pub all-stand : (found : Found) (number : ℕ) (place : Place) → slice_get after number ≡ Some place
        → PlaceStands (basis_in a) a.first (next_boot (past_in a) plan found listed ∷ past_in a) number place
    all-stand found number place e =
        let o = get-alike after places number place (sym s.places) e in
        let t = s.each number o.0 o.1 in
        let w = t.4 in
        let pl = p.each number o.0 o.1 in
        let same : t.0 ≡ place = (let x : Some t.0 ≡ Some place = sym t.2 ∙ e in cc) in
        let h = at-home (basis_in a) a.first (past_in a) number o.0.board l pl.home in
        let b_is : h.board ≡ w.0 = (let x : Some h.board ≡ Some w.0 = sym h.is ∙ w.2.was in cc) in
        subst (λ (x : Place). PlaceStands (basis_in a) a.first (next_boot (past_in a) plan found listed ∷ past_in a) number x) same
        (place-started (basis_in a) a.first (past_in a) number k (is_absent plan number) o.0 t.0 w.0 w.1 h.tail t.1
        (subst (λ (x : BoardState). BoardStands (basis_in a) a.first (past_in a) number x h.tail) b_is h.stands) pl.told w.2
        _ plan.time plan.limit found listed t.3)

-- the boards, over the house log with an event more
pub stand-after : (client : ℕ) (event : Event) (old new : HouseLogView) (places : List Place) → Appended client event old new → length places ≡ length old.facts.sheets
    → ((number : ℕ) (place : Place) → slice_get places number ≡ Some place → PlaceStands (basis_in old) old.first (event ∷ past_in old) number place)
    → PlacesStand new places
stand-after client event old new places a n h =
    record {
      count = n ∙ ap (λ (x : Facts). length x.sheets) (sym a.same.facts);
      each = λ number place e.
          subst (λ (x : Facts). PlaceStands (basis_of x (rows_before new)) new.first (past_in new) number place) (sym a.same.facts)
          (subst (λ (x : List Seen). PlaceStands (basis_of old.facts (rows_before new)) x (past_in new) number place) (sym a.same.first)
          (subst (λ (x : List Row). PlaceStands (basis_of old.facts x) old.first (past_in new) number place) (sym (appended-before client event old new a))
          (subst (λ (x : List Event). PlaceStands (basis_in old) old.first x number place) (sym (appended-past client event old new a))
          (h number place e))));
    }

-- the boards over other rows before a log of boots that couldn't read any
pub stand-over : (old : HouseLogView) (all : List Row) (n : ℕ) (places : List Place) → IsHouseLog old → old.loaded ≡ false → PlacesStand old places → PlacesStand (opened all n old) places
stand-over old all n places k l p =
    record {
      count = p.count;
      each = λ number place e.
          place-over old.facts old.first (rows_before old) all (past_in old) number (said-over old.facts old.first (rows_before old) all (past_in old) number (k.unloaded l)) place (p.each number place e);
    }

-- the house behind a boot
pub house-booted : {K : Type 0} (signs : KeeperSigns K) (mid new : HouseLogView) (places after : List Place) (pool : PoolCounts) (keeper : K) (plan : BootPlan) (found : Found)
    → IsHouseLog mid → IsHouseLog new → PlacesStand mid places → live (past_in mid) ≡ [] → holds (past_in mid) ≡ [] → BoardsStarted plan found mid new places after
    → pool.capacity ≡ mid.facts.pool → pool.free + held (past_in mid) ≡ mid.facts.pool
    → (mid.loaded ≡ false → signs.doubt keeper ≡ None)
    → (mid.loaded ≡ true → KeepsSo (still_reopened found mid.reopened) signs keeper (rows_found found mid.core.doubt mid.core.rows) (doubt_found found mid.core.doubt))
    → IsHouse signs (record { house_log = new; places = after; pool = pool; keeper = keeper })
house-booted signs mid new places after pool keeper plan found k kn p l hs b c f u t =
    let noted : HouseLogView = record new { reopened = mid.reopened } in
    let ka : IsHouseLog noted = house_log-reopened new mid.reopened (λ u. k.unopened (sym b.appended.same.loaded ∙ u)) kn in
    let s = stand-after 0 (next_boot (past_in mid) plan found b.listed) mid noted after b.appended (b.started.places ∙ p.count)
    (all-stand mid places after plan b.listed k.legal p l b.started found) in
    let past : past_in new ≡ next_boot (past_in mid) plan found b.listed ∷ past_in mid = appended-past 0 (next_boot (past_in mid) plan found b.listed) mid noted b.appended in
    let facts = b.appended.same.facts in
    let loaded = b.appended.same.loaded in
    let r : new.core.rows ≡ rows_found found mid.core.doubt mid.core.rows = appended-rows 0 (next_boot (past_in mid) plan found b.listed) mid noted b.appended ka ∙ boot-rows mid plan found b.listed k in
    let d : new.core.doubt ≡ doubt_found found mid.core.doubt = appended-doubt 0 (next_boot (past_in mid) plan found b.listed) mid noted b.appended ka ∙ ap (doubt_found found) (sym k.stands.doubt) in
    let none : held (past_in mid) ≡ 0 = ap (λ x. blocks_out x (live (past_in mid))) hs ∙ ap (blocks_out []) l in
    let none_now : held (past_in new) ≡ 0 = ap held past in
    record {
      count = s.count;
      places = s.each;
      unloaded = λ e. u (sym loaded ∙ e);
      kept = λ e.
          subst (λ (x : Bool). KeepsSo x signs keeper new.core.rows new.core.doubt) (sym b.reopened)
          (subst (λ (x : List Row). KeepsSo (still_reopened found mid.reopened) signs keeper x new.core.doubt) (sym r)
          (subst (λ (x : Option Change). KeepsSo (still_reopened found mid.reopened) signs keeper (rows_found found mid.core.doubt mid.core.rows) x) (sym d) (t (sym loaded ∙ e))));
      capacity = c ∙ ap (λ (x : Facts). x.pool) (sym facts);
      free = ap (λ n. pool.free + n) (none_now ∙ sym none) ∙ f ∙ ap (λ (x : Facts). x.pool) (sym facts);
    }
