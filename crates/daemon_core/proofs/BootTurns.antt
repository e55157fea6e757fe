-- What a boot did, by its answer.
use Rattle.std.proofs.Common.{◌≡◌, ℕ, true, false, ◌+◌, ◌≤◌, ◌<◌, ◌-◌, ◌^◌, List, [], ◌∷◌, ◌++◌, refl, ap, sym, ◌∙◌, ◌⊎◌, inl, inr, arith, length, subst}
use Rattle.std.specs.Prelude.{None, Option, MatchBool, Result, Ok, Err, nat_le}
use Rattle.std.proofs.lemmas.Bool.{leb-true, leb-false}
use Rattle.fw_base.specs.declared.memory.NoMemory.{NoMemory}
use Rattle.outer_traits.specs.Faults.{Rose}
use Rattle.history_keeper.specs.declared.change.Change.{Change}
use Rattle.history_keeper.specs.declared.row.Row.{Row}
use Rattle.history_keeper.specs.Histories.{IsHistory}
use Rattle.history_keeper.specs.Keepers.{StillTold}
use Rattle.history_keeper.specs.Signs.{KeeperSigns}
use Rattle.update_log.proofs.Lists.{by_test}
use Rattle.update_log.specs.Crashes.{next_boot}
use Rattle.update_log.specs.declared.event.BoardSeen.{BoardSeen}
use Rattle.update_log.specs.declared.event.Event.{Event}
use Rattle.update_log.specs.declared.event.Found.{Found}
use Rattle.update_log.specs.declared.facts.BootPlan.{BootPlan}
use Rattle.update_log.specs.Holding.{holds, live}
use Rattle.update_log.specs.Known.{rows_found}
use Rattle.update_log.specs.Pasts.{boots, is_found_fault, past_of}
use Rattle.daemon_core.proofs.HouseLogKept.{appended-past}
use Rattle.daemon_core.proofs.Fared.{fared-quiet, fared-same}
use Rattle.daemon_core.proofs.KeptSo.{still-read}
use Rattle.daemon_core.specs.HouseLog.{roomier}
use Rattle.daemon_core.specs.Booting.{AllStarted, BoardsStarted, opened}
use Rattle.daemon_core.specs.Boots.{BootNoted, CouldntRead, IsReady, NoBoot, ReadOthers, SameGrounds, WentWell}
use Rattle.daemon_core.specs.House.{SameElsewhere}
use Rattle.daemon_core.specs.Housed.{HouseLogView, Housed, Place, past}
use Rattle.daemon_core.specs.Keeping.{HasRows, keeper_faults}
use Rattle.daemon_core.specs.Reading.{AreOthers, AreTold, CanBoot, FirstRead, IsUngiven, LaterRead, WasShown}
use Rattle.daemon_core.specs.Turns.{KeeperFared, ToldBefore}
use Rattle.daemon_core.specs.declared.reading.Loaded.{Loaded}

-- the house log with the same log
pub record SameLog (old new : HouseLogView) : Type 0 where
  pub facts : new.facts ≡ old.facts
  pub first : new.first ≡ old.first
  pub log : new.core.log ≡ old.core.log
  pub makers : new.makers ≡ old.makers

same-trans : (a b c : HouseLogView) → SameLog a b → SameLog b c → SameLog a c
same-trans a b c s t = record { facts = t.facts ∙ s.facts; first = t.first ∙ s.first; log = t.log ∙ s.log; makers = t.makers ∙ s.makers }

same-roomier : (old new : HouseLogView) → new ≡ roomier old new → SameLog old new
same-roomier old new e =
    record { facts = ap (λ (a : HouseLogView). a.facts) e; first = ap (λ (a : HouseLogView). a.first) e; log = ap (λ (a : HouseLogView). a.core.log) e; makers = ap (λ (a : HouseLogView). a.makers) e }

same-itself : (old new : HouseLogView) → new ≡ old → SameLog old new
same-itself old new e =
    record { facts = ap (λ (a : HouseLogView). a.facts) e; first = ap (λ (a : HouseLogView). a.first) e; log = ap (λ (a : HouseLogView). a.core.log) e; makers = ap (λ (a : HouseLogView). a.makers) e }

same-reopened : (old new : HouseLogView) → new ≡ record old { reopened = true } → SameLog old new
same-reopened old new e =
    record { facts = ap (λ (a : HouseLogView). a.facts) e; first = ap (λ (a : HouseLogView). a.first) e; log = ap (λ (a : HouseLogView). a.core.log) e; makers = ap (λ (a : HouseLogView). a.makers) e }

same-opened : (old new : HouseLogView) (all : List Row) (n : ℕ) → new ≡ opened all n old → SameLog old new
same-opened old new all n e =
    record { facts = ap (λ (a : HouseLogView). a.facts) e; first = ap (λ (a : HouseLogView). a.first) e; log = ap (λ (a : HouseLogView). a.core.log) e; makers = ap (λ (a : HouseLogView). a.makers) e }

same-refused : (old new : HouseLogView) (all : List Row) → new ≡ record old { opening = all } → SameLog old new
same-refused old new all e =
    record { facts = ap (λ (a : HouseLogView). a.facts) e; first = ap (λ (a : HouseLogView). a.first) e; log = ap (λ (a : HouseLogView). a.core.log) e; makers = ap (λ (a : HouseLogView). a.makers) e }

-- from the count of faults to what the log tells of them
rose-cases : (a b : ℕ) → Rose a b → (a + 1 ≤ b) ⊎ (2 ^ 64 - 1 ≤ b)
rose-cases a b r =
    by_test (nat_le (a + 1) b) _
    (λ t. inl (leb-true (a + 1) b t))
    (λ f. let g = leb-false (a + 1) b f in inr (omega (arith, r, g)))

module _ {K : Type 0} (signs : KeeperSigns K) (settled : K → K → Type 0) (old room mid new : Housed K) (plan : BootPlan)
    (roomy : room.house_log ≡ roomier old.house_log room.house_log) (elsewhere : SameElsewhere old room)
    (places : mid.places ≡ room.places) (pool : mid.pool ≡ room.pool) (counts : signs.faults room.keeper ≤ signs.faults mid.keeper) (told : ToldBefore signs.tells room.keeper mid.keeper) where
  pub counted : signs.faults old.keeper ≤ signs.faults mid.keeper
  counted = subst (λ (k : K). signs.faults k ≤ signs.faults mid.keeper) elsewhere.keeper counts

  told-mid : ToldBefore signs.tells old.keeper mid.keeper
  told-mid = subst (λ (k : K). ToldBefore signs.tells k mid.keeper) elsewhere.keeper told

  -- what reading left
  module _ (result : Result Loaded NoMemory)
      (first : room.house_log.loaded ≡ false → FirstRead signs result room.house_log mid.house_log room.keeper mid.keeper)
      (later : room.house_log.loaded ≡ true → (mid.house_log ≡ record room.house_log { reopened = true }) × LaterRead signs settled result room.house_log.core.rows room.house_log.core.doubt room.keeper mid.keeper) where
    first-same : (r : Result Loaded NoMemory) → FirstRead signs r room.house_log mid.house_log room.keeper mid.keeper → SameLog room.house_log mid.house_log
    first-same (Ok (Loaded.Found found)) f = same-opened room.house_log mid.house_log mid.house_log.opening mid.house_log.core.row_room f.0.opened_so
    first-same (Ok (Loaded.Bad entry)) f = same-refused room.house_log mid.house_log mid.house_log.opening f.0.same
    first-same (Ok Loaded.Fault) f = same-itself room.house_log mid.house_log f.0.same
    first-same (Err refused) f = same-itself room.house_log mid.house_log f.0.same

    pub same-log : SameLog old.house_log mid.house_log
    same-log = same-trans old.house_log room.house_log mid.house_log (same-roomier old.house_log room.house_log roomy)
        (by_test room.house_log.loaded _ (λ t. same-reopened room.house_log mid.house_log (later t).0) (λ l. first-same result (first l)))

    pub same-past : past mid ≡ past old
    same-past = ap past_of same-log.log

    grounds : SameGrounds old mid
    grounds = record { facts = same-log.facts; first = same-log.first; pool = pool ∙ elsewhere.pool }

    -- it left the room
    first-room : (r : Result Loaded NoMemory) → FirstRead signs r room.house_log mid.house_log room.keeper mid.keeper → mid.house_log.room ≡ room.house_log.room
    first-room (Ok (Loaded.Found found)) f = ap (λ (a : HouseLogView). a.room) f.0.opened_so
    first-room _ f = ap (λ (a : HouseLogView). a.room) f.0.same

    same-room : mid.house_log.room ≡ room.house_log.room
    same-room = by_test room.house_log.loaded _ (λ t. ap (λ (a : HouseLogView). a.room) (later t).0) (λ l. first-room result (first l))

    -- the boot can be put behind the log
    pub ready-now : (found : Found) (listed : List BoardSeen) (cap : ℕ) → holds (past old) ≡ [] → live (past old) ≡ [] → CanBoot signs found mid → listed ≡ [] → length old.places ≤ cap → 2 ≤ room.house_log.room
        → boots (past old) + 1 < 2 ^ 32 → plan.time ≤ 2 ^ 63 - 1 → IsReady signs plan found listed cap mid
    ready-now found listed cap h l can e n r few t =
        record {
          holds = ap holds same-past ∙ h;
          live = ap live same-past ∙ l;
          can = can;
          empty = e;
          enough = subst (λ (ps : List Place). length ps ≤ cap) (sym (places ∙ elsewhere.places)) n;
          room = subst (λ (x : ℕ). 2 ≤ x) (sym same-room) r;
          few = subst (λ (es : List Event). boots es + 1 < 2 ^ 32) (sym same-past) few;
          timely = t;
        }

    pub none-noted : mid.house_log.loaded ≡ old.house_log.loaded → (old.house_log.loaded ≡ false → StillTold (signs.tells old.keeper) (signs.tells mid.keeper)) → NoBoot signs.tells old mid
    none-noted l s = record { grounds = grounds; log = same-log.log; makers = same-log.makers; loaded = l; places = places ∙ elsewhere.places; stays = s }

    pub fared-none : signs.faults mid.keeper ≡ signs.faults room.keeper → KeeperFared signs old mid
    fared-none e = fared-quiet signs old mid (ap keeper_faults same-past) (e ∙ ap signs.faults elsewhere.keeper) told-mid

    -- what a boot put behind the log
    module _ (found : Found) (b : BoardsStarted plan found mid.house_log new.house_log mid.places new.places) (keeper : new.keeper ≡ mid.keeper) (pool_new : new.pool ≡ mid.pool) where
      pub noted : BootNoted plan found b.listed old new
      noted =
          record {
            grounds = record { facts = b.appended.same.facts ∙ same-log.facts; first = b.appended.same.first ∙ same-log.first; pool = pool_new ∙ pool ∙ elsewhere.pool };
            log = b.appended.log ∙ ap (λ (l : List Event). l ++ next_boot (past_of l) plan found b.listed ∷ []) same-log.log;
            makers = b.appended.makers ∙ ap (λ (m : List ℕ). m ++ 0 ∷ []) same-log.makers;
            started = subst (λ (ps : List Place). AllStarted plan ps new.places b.listed) (places ∙ elsewhere.places) b.started;
          }

      past-new : past new ≡ next_boot (past mid) plan found b.listed ∷ past mid
      past-new = appended-past 0 (next_boot (past mid) plan found b.listed) mid.house_log (record new.house_log { reopened = mid.house_log.reopened }) b.appended

      pub counts-new : signs.faults old.keeper ≤ signs.faults new.keeper
      counts-new = subst (λ (k : K). signs.faults old.keeper ≤ signs.faults k) (sym keeper) counted

      told-new : ToldBefore signs.tells old.keeper new.keeper
      told-new = subst (λ (k : K). ToldBefore signs.tells old.keeper k) (sym keeper) told-mid

      pub fared-well : is_found_fault found ≡ false → signs.faults mid.keeper ≡ signs.faults room.keeper → KeeperFared signs old new
      fared-well w e =
          let p : keeper_faults (past new) ≡ keeper_faults (past mid) = ap keeper_faults past-new ∙ rw w refl in
          fared-quiet signs old new (p ∙ ap keeper_faults same-past) (ap signs.faults keeper ∙ e ∙ ap signs.faults elsewhere.keeper) told-new

      pub fared-fault : is_found_fault found ≡ true → Rose (signs.faults room.keeper) (signs.faults mid.keeper) → KeeperFared signs old new
      fared-fault w r =
          let e : keeper_faults (past new) ≡ keeper_faults (past mid) + 1 = ap keeper_faults past-new ∙ rw w refl in
          let f : keeper_faults (past mid) ≡ keeper_faults (past old) = ap keeper_faults same-past in
          record {
            grows = omega (arith, e, f);
            counted = at (rose-cases (signs.faults room.keeper) (signs.faults mid.keeper) r);
            quiet = λ q. absurd (omega (arith, e, f, q));
            told = told-new;
          }
        where
          at : (signs.faults room.keeper + 1 ≤ signs.faults mid.keeper) ⊎ (2 ^ 64 - 1 ≤ signs.faults mid.keeper) → (keeper_faults (past new) + signs.faults old.keeper ≤ keeper_faults (past old) + signs.faults new.keeper) ⊎ (2 ^ 64 - 1 ≤ signs.faults new.keeper)
          at (inl h) =
              let e : keeper_faults (past new) ≡ keeper_faults (past mid) + 1 = ap keeper_faults past-new ∙ rw w refl in
              let f : keeper_faults (past mid) ≡ keeper_faults (past old) = ap keeper_faults same-past in
              let k : signs.faults room.keeper ≡ signs.faults old.keeper = ap signs.faults elsewhere.keeper in
              let n : signs.faults new.keeper ≡ signs.faults mid.keeper = ap signs.faults keeper in
              inl (omega (arith, e, f, h, k, n))
          at (inr h) = inr (subst (λ (k : K). 2 ^ 64 - 1 ≤ signs.faults k) (sym keeper) h)

-- no change was made of a keeper that stayed, or that reading alone was done to
pub ungiven-same : {K : Type 0} (settled : K → K → Type 0) (old new : K) → new ≡ old → IsUngiven settled old new
ungiven-same settled old new e = inr (λ first s. subst (λ (k : _). settled first k) (sym e) s)

pub ungiven-over : {K : Type 0} (settled : K → K → Type 0) (old room mid new : K) → room ≡ old → new ≡ mid → IsUngiven settled room mid → IsUngiven settled old new
ungiven-over settled old room mid new e k u =
    subst (λ (x : _). IsUngiven settled old x) (sym k) (subst (λ (x : _). IsUngiven settled x mid) e u)

-- what a boot did that found no room
pub turn-no_room : {K : Type 0} (signs : KeeperSigns K) (old room : Housed K) → room.house_log ≡ roomier old.house_log room.house_log → SameElsewhere old room
    → (NoBoot signs.tells old room × (room.house_log.opening ≡ old.house_log.opening)) × KeeperFared signs old room × (signs.faults old.keeper ≤ signs.faults room.keeper)
turn-no_room signs old room e s =
    let l = same-roomier old.house_log room.house_log e in
    let k : signs.faults room.keeper ≡ signs.faults old.keeper = ap signs.faults s.keeper in (
      (
        record {
          grounds = record { facts = l.facts; first = l.first; pool = s.pool };
          log = l.log;
          makers = l.makers;
          loaded = ap (λ (a : HouseLogView). a.loaded) e;
          places = s.places;
          stays = λ _ all t. subst (λ (x : _). signs.tells x all) s.keeper t;
        },
        ap (λ (a : HouseLogView). a.opening) e,
      ),
      fared-same signs old room (ap (λ (es : List Event). keeper_faults (past_of es)) l.log) s.keeper,
      omega (arith, k),
    )

module _ {K : Type 0} (signs : KeeperSigns K) (settled : K → K → Type 0) (old room mid new : Housed K) (plan : BootPlan)
    (roomy : room.house_log ≡ roomier old.house_log room.house_log) (elsewhere : SameElsewhere old room)
    (places : mid.places ≡ room.places) (pool : mid.pool ≡ room.pool) (counts : signs.faults room.keeper ≤ signs.faults mid.keeper) (told : ToldBefore signs.tells room.keeper mid.keeper) where
  loaded-was : room.house_log.loaded ≡ old.house_log.loaded
  loaded-was = ap (λ (a : HouseLogView). a.loaded) roomy

  opening-was : room.house_log.opening ≡ old.house_log.opening
  opening-was = ap (λ (a : HouseLogView). a.opening) roomy

  -- want of memory
  pub turn-none : (refused : NoMemory)
      → (room.house_log.loaded ≡ false → FirstRead signs (Err refused) room.house_log mid.house_log room.keeper mid.keeper)
      → (room.house_log.loaded ≡ true → (mid.house_log ≡ record room.house_log { reopened = true }) × LaterRead signs settled (Err refused) room.house_log.core.rows room.house_log.core.doubt room.keeper mid.keeper)
      → (NoBoot signs.tells old mid × (mid.house_log.opening ≡ old.house_log.opening)) × KeeperFared signs old mid × (signs.faults old.keeper ≤ signs.faults mid.keeper)
  turn-none refused first later =
      let loaded : mid.house_log.loaded ≡ room.house_log.loaded = by_test room.house_log.loaded _ (λ t. ap (λ (a : HouseLogView). a.loaded) (later t).0) (λ l. ap (λ (a : HouseLogView). a.loaded) (first l).0.same) in
      let opening : mid.house_log.opening ≡ room.house_log.opening = by_test room.house_log.loaded _ (λ t. ap (λ (a : HouseLogView). a.opening) (later t).0) (λ l. ap (λ (a : HouseLogView). a.opening) (first l).0.same) in (
        (
          none-noted signs settled old room mid new plan roomy elsewhere places pool counts told (Err refused) first later (loaded ∙ loaded-was)
              (λ l all t. subst (λ (k : K). signs.tells k all) elsewhere.keeper ((first (loaded-was ∙ l)).0.told_stay all t)),
          opening ∙ opening-was,
        ),
        fared-none signs settled old room mid new plan roomy elsewhere places pool counts told (Err refused) first later
            (by_test room.house_log.loaded _ (λ t. (later t).1.1) (λ l. (first l).1)),
        counted signs settled old room mid new plan roomy elsewhere places pool counts told,
      )

  -- other rows
  pub turn-others : (entry : ℕ)
      → (room.house_log.loaded ≡ false → FirstRead signs (Ok (Loaded.Bad entry)) room.house_log mid.house_log room.keeper mid.keeper)
      → (room.house_log.loaded ≡ true → (mid.house_log ≡ record room.house_log { reopened = true }) × LaterRead signs settled (Ok (Loaded.Bad entry)) room.house_log.core.rows room.house_log.core.doubt room.keeper mid.keeper)
      → ReadOthers signs.tells entry old mid × KeeperFared signs old mid × (signs.faults old.keeper ≤ signs.faults mid.keeper)
  turn-others entry first later =
      let loaded : mid.house_log.loaded ≡ room.house_log.loaded = by_test room.house_log.loaded _ (λ t. ap (λ (a : HouseLogView). a.loaded) (later t).0) (λ l. ap (λ (a : HouseLogView). a.loaded) (first l).0.same) in (
        record {
          none = none-noted signs settled old room mid new plan roomy elsewhere places pool counts told (Ok (Loaded.Bad entry)) first later (loaded ∙ loaded-was)
              (λ l all t. subst (λ (k : K). signs.tells k all) elsewhere.keeper ((first (loaded-was ∙ l)).0.told_stay all t));
          first = λ l.
              let f = (first (loaded-was ∙ l)).0 in
              (record { at = f.at; faulty = f.faulty; entry_is = f.entry_is }, subst (λ (k : K). AreTold (signs.tells k) (signs.tells mid.keeper) mid.house_log.opening) elsewhere.keeper f.told_are);
          later = λ t.
              let w = later (loaded-was ∙ t) in
              let o = w.1.0 in (
                ap (λ (a : HouseLogView). a.opening) w.0 ∙ opening-was,
                o.silent,
                (
                  o.loaded,
                  subst (λ (rs : List Row). AreOthers entry o.loaded rs old.house_log.core.doubt) (ap (λ (a : HouseLogView). a.core.rows) roomy)
                      (subst (λ (d : Option Change). AreOthers entry o.loaded room.house_log.core.rows d) (ap (λ (a : HouseLogView). a.core.doubt) roomy) o.others),
                ),
              );
        },
        fared-none signs settled old room mid new plan roomy elsewhere places pool counts told (Ok (Loaded.Bad entry)) first later
            (by_test room.house_log.loaded _ (λ t. (later t).1.1) (λ l. (first l).1)),
        counted signs settled old room mid new plan roomy elsewhere places pool counts told,
      )

  -- a boot that couldn't read
  pub turn-fault : (first : room.house_log.loaded ≡ false → FirstRead signs (Ok Loaded.Fault) room.house_log mid.house_log room.keeper mid.keeper)
      → (later : room.house_log.loaded ≡ true → (mid.house_log ≡ record room.house_log { reopened = true }) × LaterRead signs settled (Ok Loaded.Fault) room.house_log.core.rows room.house_log.core.doubt room.keeper mid.keeper)
      → (b : BoardsStarted plan Found.Fault mid.house_log new.house_log mid.places new.places) → new.keeper ≡ mid.keeper → new.pool ≡ mid.pool
      → ((listed : List BoardSeen) × CouldntRead signs.tells plan listed old new) × KeeperFared signs old new × (signs.faults old.keeper ≤ signs.faults new.keeper)
  turn-fault first later b keeper pool_new =
      let loaded : mid.house_log.loaded ≡ room.house_log.loaded = by_test room.house_log.loaded _ (λ t. ap (λ (a : HouseLogView). a.loaded) (later t).0) (λ l. ap (λ (a : HouseLogView). a.loaded) (first l).0.same) in
      let opening : mid.house_log.opening ≡ room.house_log.opening = by_test room.house_log.loaded _ (λ t. ap (λ (a : HouseLogView). a.opening) (later t).0) (λ l. ap (λ (a : HouseLogView). a.opening) (first l).0.same) in
      let rose : Rose (signs.faults room.keeper) (signs.faults mid.keeper) = by_test room.house_log.loaded _ (λ t. (later t).1.1) (λ l. (first l).1) in (
        (
          b.listed,
          record {
            noted = noted signs settled old room mid new plan roomy elsewhere places pool counts told (Ok Loaded.Fault) first later Found.Fault b keeper pool_new;
            loaded = b.appended.same.loaded ∙ loaded ∙ loaded-was;
            opening = b.appended.same.opening ∙ opening ∙ opening-was;
            stays = λ l all t. subst (λ (k : K). signs.tells k all) elsewhere.keeper ((first (loaded-was ∙ l)).0.told_stay all (subst (λ (k : K). signs.tells k all) keeper t));
          },
        ),
        fared-fault signs settled old room mid new plan roomy elsewhere places pool counts told (Ok Loaded.Fault) first later Found.Fault b keeper pool_new refl rose,
        counts-new signs settled old room mid new plan roomy elsewhere places pool counts told (Ok Loaded.Fault) first later Found.Fault b keeper pool_new,
      )

  -- one that went well
  module _ (found : Found)
      (first : room.house_log.loaded ≡ false → FirstRead signs (Ok (Loaded.Found found)) room.house_log mid.house_log room.keeper mid.keeper)
      (later : room.house_log.loaded ≡ true → (mid.house_log ≡ record room.house_log { reopened = true }) × LaterRead signs settled (Ok (Loaded.Found found)) room.house_log.core.rows room.house_log.core.doubt room.keeper mid.keeper)
      (b : BoardsStarted plan found mid.house_log new.house_log mid.places new.places) (keeper : new.keeper ≡ mid.keeper) (pool_new : new.pool ≡ mid.pool)
      (rows_are : new.house_log.core.rows ≡ rows_found found mid.house_log.core.doubt mid.house_log.core.rows) where
    was-read : is_found_fault found ≡ false
    was-read = by_test room.house_log.loaded _ (λ t. (later t).1.0.well) (λ l. ap is_found_fault (first l).0.found_is)

    now-loaded : mid.house_log.loaded ≡ true
    now-loaded = by_test room.house_log.loaded _ (λ t. ap (λ (a : HouseLogView). a.loaded) (later t).0 ∙ t) (λ l. ap (λ (a : HouseLogView). a.loaded) (first l).0.opened_so)

    mid-keeps : HasRows signs mid.keeper (rows_found found mid.house_log.core.doubt mid.house_log.core.rows) None
    mid-keeps =
        by_test room.house_log.loaded _
        (λ t. subst (λ (a : HouseLogView). HasRows signs mid.keeper (rows_found found a.core.doubt a.core.rows) None) (sym (later t).0) (later t).1.0.keeps)
        (λ l.
        let f = (first l).0 in
        let all : rows_found found mid.house_log.core.doubt mid.house_log.core.rows ≡ mid.house_log.opening =
        ap (λ (x : Found). rows_found x mid.house_log.core.doubt mid.house_log.core.rows) f.found_is ∙ ap (λ (a : HouseLogView). a.core.rows) f.opened_so in
        subst (λ (rs : List Row). HasRows signs mid.keeper rs None) (sym all) f.keeps)

    opened-well : MatchBool old.house_log.loaded (new.house_log.opening ≡ old.house_log.opening) (IsHistory new.house_log.opening × AreTold (signs.tells old.keeper) (signs.tells new.keeper) new.house_log.opening)
    opened-well =
        by_test old.house_log.loaded _
        (λ t. rw t (b.appended.same.opening ∙ ap (λ (a : HouseLogView). a.opening) (later (loaded-was ∙ t)).0 ∙ opening-was))
        (λ l.
        let f = (first (loaded-was ∙ l)).0 in
        let o : mid.house_log.opening ≡ new.house_log.opening = sym b.appended.same.opening in
        let told_are : AreTold (signs.tells old.keeper) (signs.tells new.keeper) new.house_log.opening =
        subst (λ (k : K). AreTold (signs.tells old.keeper) (signs.tells k) new.house_log.opening) (sym keeper)
        (subst (λ (k : K). AreTold (signs.tells k) (signs.tells mid.keeper) new.house_log.opening) elsewhere.keeper
        (subst (λ (rs : List Row). AreTold (signs.tells room.keeper) (signs.tells mid.keeper) rs) o f.told_are)) in
        rw l (subst IsHistory o f.history, told_are))

    -- what the reopened keeper showed
    shown-well : old.house_log.loaded ≡ true → WasShown signs.tells settled new.house_log.core.rows old.keeper new.keeper
    shown-well t =
        let w = later (loaded-was ∙ t) in
        let same : new.house_log.core.rows ≡ rows_found found room.house_log.core.doubt room.house_log.core.rows = rows_are ∙ ap (λ (a : HouseLogView). rows_found found a.core.doubt a.core.rows) w.0 in
        subst (λ (k : K). WasShown signs.tells settled new.house_log.core.rows old.keeper k) (sym keeper)
        (subst (λ (k : K). WasShown signs.tells settled new.house_log.core.rows k mid.keeper) elsewhere.keeper
        (subst (λ (rs : List Row). WasShown signs.tells settled rs room.keeper mid.keeper) (sym same) w.1.0.shown))

    pub turn-well : ((f : Found) × (listed : List BoardSeen) × WentWell signs settled plan f listed old new) × KeeperFared signs old new × (signs.faults old.keeper ≤ signs.faults new.keeper)
    turn-well = (
      (
        found,
        b.listed,
        record {
          noted = noted signs settled old room mid new plan roomy elsewhere places pool counts told (Ok (Loaded.Found found)) first later found b keeper pool_new;
          read = was-read;
          loaded = b.appended.same.loaded ∙ now-loaded;
          reopened = b.reopened ∙ still-read found mid.house_log.reopened was-read;
          opening = opened-well;
          shown = shown-well;
          keeps = subst (λ (k : K). HasRows signs k new.house_log.core.rows None) (sym keeper) (subst (λ (rs : List Row). HasRows signs mid.keeper rs None) (sym rows_are) mid-keeps);
        },
      ),
      fared-well signs settled old room mid new plan roomy elsewhere places pool counts told (Ok (Loaded.Found found)) first later found b keeper pool_new was-read
          (by_test room.house_log.loaded _ (λ t. (later t).1.1) (λ l. (first l).1)),
      counts-new signs settled old room mid new plan roomy elsewhere places pool counts told (Ok (Loaded.Found found)) first later found b keeper pool_new,
    )
