-- Judgements.
use Rattle.std.proofs.Common.{◌≡◌, ℕ, ◌<◌, ◌≤◌, ◌+◌, Bool, true, false, List, ◌∷◌, length, refl, ap, sym, ◌∙◌, subst, arith, ◌⊎◌, inl, inr}
use Rattle.std.proofs.lemmas.List.{length-map}
use Rattle.std.specs.Prelude.{Option, Some, None, if◌then◌else◌, ◌||◌, not, option_map}
use Rattle.daemon_core.proofs.ClaimFinish.{any-row}
use Rattle.daemon_core.proofs.PuttingOff.{suits-told}
use Rattle.fw_facts.specs.Views.{is_home, version_of, version_shown}
use Rattle.fw_facts.specs.declared.seen.Seen.{Seen}
use Rattle.fw_facts.specs.declared.view.DeviceView.{DeviceView}
use Rattle.outer_traits.specs.Faults.{Rose}
use Rattle.history_keeper.specs.Changes.{Suits}
use Rattle.history_keeper.specs.Histories.{is_unsettled}
use Rattle.history_keeper.specs.Signs.{KeeperSigns}
use Rattle.history_keeper.specs.declared.change.Change.{Change}
use Rattle.history_keeper.specs.declared.row.Row.{Row}
use Rattle.history_keeper.specs.declared.row.RowState.{RowState}
use Rattle.core_state.specs.CoreSteps.{advance_on}
use Rattle.update_log.specs.Holding.{is_live, live}
use Rattle.update_log.specs.Known.{row_of, rows, views}
use Rattle.update_log.specs.Legal.{may_judge}
use Rattle.update_log.specs.Pasts.{boots, finished, time_of}
use Rattle.update_log.specs.Steps.{judge, view_of_row}
use Rattle.update_log.specs.declared.event.Event.{Event}
use Rattle.update_log.specs.declared.event.Stored.{Stored}
use Rattle.daemon_core.specs.HouseLog.{Appended, IsAllowedSo, IsHouseLog, Runs}
use Rattle.daemon_core.specs.Commits.{StoredAs}
use Rattle.daemon_core.specs.House.{IsHouse}
use Rattle.daemon_core.specs.Housed.{basis_in, campaign_in, HouseLogView, Housed, past, past_in}
use Rattle.daemon_core.specs.Judging.{judged_by, judged_on, must_wait, standing, standing_of}
use Rattle.daemon_core.specs.Keeping.{HasRows, keeper_faults}
use Rattle.daemon_core.specs.Owed.{owed}
use Rattle.daemon_core.specs.Turns.{KeeperFared}
use Rattle.daemon_core.proofs.Fared.{calm-stored, counted-more, fared-quiet}
use Rattle.daemon_core.specs.declared.judged.Standing.{Standing}
use Rattle.daemon_core.proofs.HouseLogKept.{legal-next}
use Rattle.daemon_core.proofs.ClaimHouse.{IsReady, runs-takes}
use Rattle.daemon_core.proofs.CommitKept.{AsksOnly, house-asked, house-clear, stored-before}
use Rattle.daemon_core.proofs.Owed.{adds-legal}

-- What a row that is judged is, and the device that shows the version.
pub record IsJudged (past : List Event) (views : List DeviceView) (rows : List Row) (entry : ℕ) (version : List ℕ) (state : RowState) : Type 0 where
  pub row : Row
  pub view : DeviceView
  pub row_is : row_of rows entry ≡ Some row
  pub waits : may_judge past row.state entry ≡ true
  pub device : view_of_row views row ≡ Some view
  pub home : is_home view.seen ≡ true
  pub version_is : version_of view ≡ Some version
  pub state_is : state ≡ judge version row

may-judge : (past : List Event) (entry : ℕ) (state : RowState) → is_unsettled state ≡ true → must_wait past entry state ≡ false → may_judge past state entry ≡ true
may-judge past entry RowState.Begun u w = rw w refl
may-judge past entry RowState.NeedsReboot u w = at (is_live (live past) entry) (finished entry past) w
  where
    at : (a b : Bool) → (a || b) ≡ false → not b ≡ true
    at true b h = cc
    at false true h = cc
    at false false h = refl
may-judge past entry _ u w = cc

shown-home : (view : DeviceView) (version : List ℕ) → version_of view ≡ Some version → is_home view.seen ≡ true
shown-home view version h = at view.seen h
  where
    at : (s : Seen) → version_shown view.sheet s ≡ Some version → is_home s ≡ true
    at (Seen.Home raw mode) h = refl
    at Seen.Gone h = cc
    at Seen.Stranger h = cc

pub is-judged : (past : List Event) (views : List DeviceView) (rows : List Row) (entry : ℕ) (version : List ℕ) (state : RowState) → option_map (standing past views entry) (row_of rows entry) ≡ Some (Standing.Judged version state) → IsJudged past views rows entry version state
is-judged past views rows entry version state h = at-row (row_of rows entry) refl h
  where
    at-version : (row : Row) (view : DeviceView) → row_of rows entry ≡ Some row → is_unsettled row.state ≡ true → must_wait past entry row.state ≡ false → view_of_row views row ≡ Some view
        → (o : Option (List ℕ)) → version_of view ≡ o → judged_by row o ≡ Standing.Judged version state → IsJudged past views rows entry version state
    at-version row view r u w v None e g = cc
    at-version row view r u w v (Some shown) e g =
        let s : shown ≡ version = cc in
        let t : judge shown row ≡ state = cc in
        record {
          row = row;
          view = view;
          row_is = r;
          waits = may-judge past entry row.state u w;
          device = v;
          home = shown-home view shown e;
          version_is = e ∙ ap Some s;
          state_is = sym t ∙ ap (λ (x : List ℕ). judge x row) s;
        }

    at-view : (row : Row) → row_of rows entry ≡ Some row → is_unsettled row.state ≡ true → must_wait past entry row.state ≡ false
        → (o : Option DeviceView) → view_of_row views row ≡ o → judged_on row o ≡ Standing.Judged version state → IsJudged past views rows entry version state
    at-view row r u w None e g = cc
    at-view row r u w (Some view) e g = at-version row view r u w e (version_of view) refl g

    at-tests : (row : Row) → row_of rows entry ≡ Some row → (u w : Bool) → is_unsettled row.state ≡ u → must_wait past entry row.state ≡ w
        → (if u then (if w then Standing.Waits else judged_on row (view_of_row views row)) else Standing.Settled) ≡ Standing.Judged version state → IsJudged past views rows entry version state
    at-tests row r false w eu ew g = cc
    at-tests row r true true eu ew g = cc
    at-tests row r true false eu ew g = at-view row r eu ew (view_of_row views row) refl g

    at-row : (o : Option Row) → row_of rows entry ≡ o → option_map (standing past views entry) o ≡ Some (Standing.Judged version state) → IsJudged past views rows entry version state
    at-row None e g = cc
    at-row (Some row) e g =
        let k : standing past views entry row ≡ Standing.Judged version state = cc in
        at-tests row e (is_unsettled row.state) (must_wait past entry row.state) refl refl k

-- Such a judgement may come next.
pub judge-allowed : (a : HouseLogView) (client entry : ℕ) (version : List ℕ) (state : RowState) (stored : Stored) → IsHouseLog a → standing_of a entry ≡ Some (Standing.Judged version state) → (stored ≡ Stored.Yes) ⊎ (stored ≡ Stored.Fault)
    → IsAllowedSo (basis_in a) a.first (past_in a) (Event.Judge client entry version state stored)
judge-allowed a client entry version state stored k h s =
    let j = is-judged (past_in a) a.core.views a.core.rows entry version state h in
    λ plans. (
      j.row,
      j.view,
      record {
        row_is = subst (λ (rs : List Row). row_of rs entry ≡ Some j.row) k.stands.rows j.row_is;
        waits = j.waits;
        device = subst (λ (vs : List DeviceView). view_of_row vs j.row ≡ Some j.view) k.stands.views j.device;
        home = j.home;
        version_is = j.version_is;
        state_is = j.state_is;
        stored_is = s;
      },
    )

-- It asks for the advance of its row.
pub judge-asks : (a : HouseLogView) (client entry : ℕ) (version : List ℕ) (state : RowState) (stored : Stored) → IsHouseLog a
    → AsksOnly (basis_in a) (past_in a) (Event.Judge client entry version state stored) (advance_on (time_of (past_in a)) a.core.rows entry state) stored
judge-asks a client entry version state stored k =
    subst (λ (rs : List Row). AsksOnly (basis_in a) (past_in a) (Event.Judge client entry version state stored) (advance_on (time_of (past_in a)) rs entry state) stored) (sym k.stands.rows)
    (record { no_boot = refl; told = λ n. refl; same_tells = λ n. refl; faulty = λ n. refl; same_live = refl; same_steps = refl; same_holds = refl; rows_are = refl; doubt_is = refl })

-- The advance suits the rows.
pub judge-suits : (rows : List Row) (time entry : ℕ) (state : RowState) (row : Row) → row_of rows entry ≡ Some row → Suits (advance_on time rows entry state) rows
judge-suits rows time entry state row h = any-row rows entry row h

-- There is room for it.
pub judge-ready : (a : HouseLogView) (client entry : ℕ) (version : List ℕ) (state : RowState) (stored : Stored) → IsHouseLog a → Runs a → 0 < boots (past_in a) → owed (past_in a) + 1 ≤ a.room → standing_of a entry ≡ Some (Standing.Judged version state) → (stored ≡ Stored.Yes) ⊎ (stored ≡ Stored.Fault)
    → IsReady a (Event.Judge client entry version state stored)
judge-ready a client entry version state stored k r b room h s =
    let event : Event = Event.Judge client entry version state stored in
    let t = runs-takes a event r b refl in
    let w = judge-allowed a client entry version state stored k h s in
    let l = legal-next (basis_in a) a.first (past_in a) event k.legal t w in
    let less = adds-legal (campaign_in a l.0) (past_in a) event l.1 refl in
    record {
      takes = t;
      allowed = w;
      room = omega (arith, less, room);
      row = (let e = ap length k.stands.rows in let m = same-many a entry state stored in omega (arith, e, m));
    }
  where
    same-many : (a : HouseLogView) (entry : ℕ) (state : RowState) (stored : Stored) → length (rows (basis_in a) (Event.Judge client entry version state stored ∷ past_in a)) ≡ length (rows (basis_in a) (past_in a))
    same-many a entry state Stored.Yes = length-map (rows (basis_in a) (past_in a)) _
    same-many a entry state Stored.Fault = refl
    same-many a entry state Stored.NoMemory = refl
    same-many a entry state Stored.Unchanged = refl

-- The keeper fared as the log tells.
pub judge-fared : {K : Type 0} (signs : KeeperSigns K) (client entry : ℕ) (version : List ℕ) (state : RowState) (change : Change) (stored : Stored) (left : Option Change) (old new : Housed K) → past new ≡ Event.Judge client entry version state stored ∷ past old → StoredAs change stored (signs.tells old.keeper) (signs.tells new.keeper) left
    → (stored ≡ Stored.Fault → Rose (signs.faults old.keeper) (signs.faults new.keeper)) → (stored ≡ Stored.Fault) ⊎ (signs.faults new.keeper ≡ signs.faults old.keeper) → KeeperFared signs old new
judge-fared signs client entry version state change Stored.Fault left old new p s r q = counted-more signs old new (ap keeper_faults p) (r refl) (stored-before signs.tells old.keeper new.keeper change Stored.Fault left s)
judge-fared signs client entry version state change Stored.Yes left old new p s r q = fared-quiet signs old new (ap keeper_faults p) (calm-stored Stored.Yes refl q) (stored-before signs.tells old.keeper new.keeper change Stored.Yes left s)
judge-fared signs client entry version state change Stored.NoMemory left old new p s r q = fared-quiet signs old new (ap keeper_faults p) (calm-stored Stored.NoMemory refl q) (stored-before signs.tells old.keeper new.keeper change Stored.NoMemory left s)
judge-fared signs client entry version state change Stored.Unchanged left old new p s r q = absurd s

-- What wasn't for want of memory was stored, or met a fault.
pub done-stored : (change : Change) (stored : Stored) (old new : List Row → Type 0) (left : Option Change) → StoredAs change stored old new left → (stored ≡ Stored.NoMemory → ⊥) → (stored ≡ Stored.Yes) ⊎ (stored ≡ Stored.Fault)
done-stored change Stored.Yes old new left s n = inl refl
done-stored change Stored.Fault old new left s n = inr refl
done-stored change Stored.NoMemory old new left s n = absurd (n refl)
done-stored change Stored.Unchanged old new left s n = absurd s

-- The same over a house log that is equal to those that a call began with.
pub clear-over : {K : Type 0} (signs : KeeperSigns K) (h : Housed K) (b : HouseLogView) → h.house_log ≡ b → IsHouse signs h → IsHouseLog h.house_log → b.loaded ≡ true → Runs b → HasRows signs h.keeper h.house_log.core.rows None
clear-over signs h b e k a l r =
    house-clear signs h k a (subst (λ (x : HouseLogView). x.loaded ≡ true) (sym e) l) (subst Runs (sym e) r).on

pub suits-over : (o : List Row → Type 0) (a b : HouseLogView) (entry : ℕ) (version : List ℕ) (state : RowState) (change : Change) → a ≡ b → ((all : List Row) → o all → all ≡ a.core.rows) → standing_of b entry ≡ Some (Standing.Judged version state) → change ≡ advance_on (time_of (past_in a)) a.core.rows entry state
    → (all : List Row) → o all → Suits change all
suits-over o a b entry version state change e told h is =
    let j = is-judged (past_in a) a.core.views a.core.rows entry version state (subst (λ (x : HouseLogView). standing_of x entry ≡ Some (Standing.Judged version state)) (sym e) h) in
    suits-told o a.core.rows change told
    (subst (λ (x : Change). Suits x a.core.rows) (sym is) (judge-suits a.core.rows (time_of (past_in a)) entry state j.row j.row_is))

pub ready-over : (a b : HouseLogView) (client entry : ℕ) (version : List ℕ) (state : RowState) (stored : Stored) → a ≡ b → IsHouseLog a → Runs b → 0 < boots (past_in b) → owed (past_in b) + 1 ≤ b.room → standing_of b entry ≡ Some (Standing.Judged version state) → (stored ≡ Stored.Yes) ⊎ (stored ≡ Stored.Fault)
    → IsReady a (Event.Judge client entry version state stored)
ready-over a b client entry version state stored e k r n room h s =
    judge-ready a client entry version state stored k
    (subst Runs (sym e) r)
    (subst (λ (x : HouseLogView). 0 < boots (past_in x)) (sym e) n)
    (subst (λ (x : HouseLogView). owed (past_in x) + 1 ≤ x.room) (sym e) room)
    (subst (λ (x : HouseLogView). standing_of x entry ≡ Some (Standing.Judged version state)) (sym e) h) s

-- A house, after a judgement.
pub house-judged : {K : Type 0} (signs : KeeperSigns K) (client entry : ℕ) (version : List ℕ) (state : RowState) (stored : Stored) (change : Change) (old : Housed K) (b : HouseLogView) (new : HouseLogView) (keeper : K) → old.house_log ≡ b → IsHouse signs old → IsHouseLog old.house_log → IsHouseLog new
    → Appended client (Event.Judge client entry version state stored) old.house_log new → b.loaded ≡ true → Runs b → change ≡ advance_on (time_of (past old)) old.house_log.core.rows entry state → StoredAs change stored (signs.tells old.keeper) (signs.tells keeper) (signs.doubt keeper) → IsHouse signs (record old { house_log = new; keeper = keeper })
house-judged signs client entry version state stored change old b new keeper e h o k a l r is s =
    house-asked signs client (Event.Judge client entry version state stored) change stored old new keeper h o k a
    (subst (λ (x : HouseLogView). x.loaded ≡ true) (sym e) l)
    (subst Runs (sym e) r).on
    (subst (λ (x : Change). AsksOnly (basis_in old.house_log) (past old) (Event.Judge client entry version state stored) x stored) (sym is) (judge-asks old.house_log client entry version state stored o))
    s
