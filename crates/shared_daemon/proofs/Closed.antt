-- How a daemon begins, and what is left as it ends.
use Rattle.std.proofs.Common.{All, ◌≡◌, ℕ, ◌<◌, ◌≤◌, ◌+◌, suc, eqb, true, false, List, [], ◌∷◌, length, map, get_or, refl, ap, sym, ◌∙◌, subst, ⊎_elim, append-nil, zero-add, arith}
use Rattle.std.specs.Prelude.{None, Some}
use Rattle.std.specs.List.{list_any, range_with_len}
use Rattle.std.proofs.lemmas.Bool.{cases_lt}
use Rattle.std.proofs.lemmas.List.{get_or-map}
use Rattle.std.proofs.lemmas.List.FromFn.{get_or-range_with_len, length-range_with_len}
use Rattle.history_keeper.specs.Signs.{KeeperSigns}
use Rattle.update_log.specs.declared.live.Held.{Held}
use Rattle.update_log.specs.declared.live.LiveEntry.{LiveEntry}
use Rattle.update_log.specs.Holding.{blocks_out, held, hold_of, holds, live}
use Rattle.update_log.specs.Legal.{IsFree}
use Rattle.daemon_core.specs.HouseLog.{IsHouseLog}
use Rattle.daemon_core.specs.House.{IsHouse}
use Rattle.daemon_core.specs.Housed.{Housed, past}
use Rattle.daemon_core.specs.Parts.{AllHome}
use Rattle.daemon_core.proofs.PartsKept.{house-home}
use Rattle.turn_lock.specs.Lists.{BeginsWith, beyond, made_by}
use Rattle.turn_lock.specs.Shown.{HasItsEntries, IsFresh, IsReady, LockId, PassView, new_pass}
use Rattle.turn_lock.proofs.Counting.{beyond_append, made_by-past}
use Rattle.shared_daemon.specs.declared.entry.Entry.{Entry}
use Rattle.shared_daemon.specs.Calls.{Meets}
use Rattle.shared_daemon.specs.Closings.{IsFreePass}
use Rattle.shared_daemon.specs.Entries.{chronicle, maker_of, past_seen}
use Rattle.shared_daemon.specs.Names.{HasNothing, IsLogOf, IsPass, KeepsName, Name}
use Rattle.shared_daemon.proofs.Logs.{eqb-own, past-entries}
use Rattle.shared_daemon.proofs.Others.{free-stays}
use Rattle.shared_daemon.proofs.Seeing.{log-named, others-since, stays}

-- A house whose log is that of its name as the daemon begins.
pub start-named : {K : Type 0} (signs : KeeperSigns K) (name : Name) (h : Housed K) → KeepsName signs name h → IsHouseLog h.house_log → chronicle h ≡ name.start → IsLogOf name name.start
start-named signs name h n k e =
    subst (λ (l : List Entry). IsLogOf name l) e
    (log-named signs name h n k ([], e ∙ sym (append-nil name.start)))

beyond-own : (list : List Entry) → beyond list list ≡ []
beyond-own list = ap (λ (l : List Entry). beyond list l) (sym (append-nil list)) ∙ beyond_append list []

pass-begun : (lock : LockId) (name : Name) (pass : PassView Entry) → IsLogOf name name.start → IsReady lock pass → IsFresh name.start pass → IsPass lock name pass
pass-begun lock name pass l r f =
    record {
      ready = r;
      base = f.1;
      log = subst (λ (x : List Entry). IsLogOf name x) (sym f.0) l;
      mine =
          f.2
          ∙ ap (λ (x : List Entry). made_by maker_of pass.number x) (sym (beyond-own name.start))
          ∙ ap (λ (x : List Entry). made_by maker_of pass.number (beyond name.start x)) (sym f.0);
    }

pub passes-begun : (lock : LockId) (name : Name) (passes : List (PassView Entry)) → IsLogOf name name.start → All (IsReady lock) passes → All (IsFresh name.start) passes → All (IsPass lock name) passes
passes-begun lock name passes l r f = λ i d low. pass-begun lock name (get_or passes i d) l (r i d low) (f i d low)

-- Where no client has a hold, there is none; and so with live entries.
some-none : (x : Held) → Some x ≡ None → ⊥
some-none x e = cc

held-step : (x : Held) (rest : List Held) → hold_of (x ∷ rest) x.client ≡ None → ⊥
held-step x rest e = some-none x (sym (rw (eqb-own x.client) refl) ∙ e)

pub none-held : (all : List Held) → ((client : ℕ) → hold_of all client ≡ None) → all ≡ []
none-held [] free = refl
none-held (x ∷ rest) free = absurd (held-step x rest (free x.client))

live-step : (x : LiveEntry) (rest : List LiveEntry) → list_any (λ l. eqb l.client x.client) (x ∷ rest) ≡ false → ⊥
live-step x rest e =
    let on : list_any (λ (l : LiveEntry). eqb l.client x.client) (x ∷ rest) ≡ true = rw (eqb-own x.client) refl in
    let clash : true ≡ false = sym on ∙ e in
    cc

pub none-live : (all : List LiveEntry) → ((client : ℕ) → list_any (λ l. eqb l.client client) all ≡ false) → all ≡ []
none-live [] free = refl
none-live (x ∷ rest) free = absurd (live-step x rest (free x.client))

count-map : (passes : List (PassView Entry)) → length (map (λ (p : PassView Entry). p.number) passes) ≡ length passes
count-map [] = refl
count-map (p ∷ passes) = ap suc (count-map passes)

module _ (name : Name) (log : List Entry) where
  -- A client whose pass has nothing out.
  pass-free : (lock : LockId) (pass : PassView Entry) → IsLogOf name log → IsPass lock name pass → IsFreePass pass → BeginsWith log pass.seen → HasItsEntries maker_of name.start log pass → IsFree (past_seen log) pass.number
  pass-free lock pass l p f b m =
      let met : Meets name pass.number pass.seen log = record { begins = b; others = others-since name pass.number pass.seen log p.log b (sym p.mine ∙ m); log = l } in
      free-stays name.basis name.first pass.number (past_seen pass.seen) (past_seen log) (stays name pass.number pass.seen log p.log met) f

  -- One that has no pass.
  stranger-free : (seats client : ℕ) → IsLogOf name log → IsLogOf name name.start → HasNothing name.start → All (λ (e : Entry). maker_of e < seats) (beyond name.start log) → seats ≤ client → IsFree (past_seen log) client
  stranger-free seats client l s nothing makers high =
      let met : Meets name client name.start log = record { begins = l.begins; others = made_by-past maker_of seats client (beyond name.start log) high makers; log = l } in
      free-stays name.basis name.first client (past_seen name.start) (past_seen log) (stays name client name.start log s met)
      (record { hold = ap (λ (h : List Held). hold_of h client) nothing.0; live = ap (λ (x : List LiveEntry). list_any (λ (e : LiveEntry). eqb e.client client) x) nothing.1 })

  number-at : (passes : List (PassView Entry)) (seats client : ℕ) (d : PassView Entry) → map (λ (p : PassView Entry). p.number) passes ≡ range_with_len 0 seats → client < length passes → client < seats → (get_or passes client d).number ≡ client
  number-at passes seats client d e low high =
      sym (get_or-map (λ (p : PassView Entry). p.number) passes client d 0 low) ∙ ap (λ (l : List ℕ). get_or l client 0) e ∙ get_or-range_with_len 0 seats client 0 high ∙ zero-add client

  pub passes-count : (passes : List (PassView Entry)) (seats : ℕ) → map (λ (p : PassView Entry). p.number) passes ≡ range_with_len 0 seats → length passes ≡ seats
  passes-count passes seats e = sym (count-map passes) ∙ ap length e ∙ length-range_with_len 0 seats

  -- All passes have nothing out, so nothing is.
  pub nothing-left : (lock : LockId) (passes : List (PassView Entry)) (seats : ℕ) → IsLogOf name log → IsLogOf name name.start → HasNothing name.start → map (λ (p : PassView Entry). p.number) passes ≡ range_with_len 0 seats → All (IsPass lock name) passes → All IsFreePass passes
      → All (λ (p : PassView Entry). BeginsWith log p.seen) passes → All (HasItsEntries maker_of name.start log) passes → All (λ (e : Entry). maker_of e < seats) (beyond name.start log) → HasNothing log
  nothing-left lock passes seats l s nothing numbers are free begins mine makers =
      let count : length passes ≡ seats = passes-count passes seats numbers in
      let d : PassView Entry = new_pass lock name.start 0 in
      let own : (client : ℕ) → client < seats → IsFree (past_seen log) client =
      λ client low. let at : client < length passes = omega arith in
      subst (λ (i : ℕ). IsFree (past_seen log) i) (number-at passes seats client d numbers at low)
      (pass-free lock (get_or passes client d) l (are client d at) (free client d at) (begins client d at) (mine client d at)) in
      let each : (client : ℕ) → IsFree (past_seen log) client =
      λ client. ⊎_elim (λ (low : client < seats). own client low) (λ (high : seats ≤ client). stranger-free seats client l s nothing makers high) (cases_lt client seats) in (
        none-held (holds (past_seen log)) (λ client. (each client).hold),
        none-live (live (past_seen log)) (λ client. (each client).live),
      )

-- Where nothing is out, all boards are at home and all blocks are free.
pub home-left : {K : Type 0} (signs : KeeperSigns K) (h : Housed K) → IsHouseLog h.house_log → IsHouse signs h → HasNothing (chronicle h) → AllHome h.places
home-left signs h k w n =
    house-home signs h w (ap live (sym (past-entries h.house_log k)) ∙ n.1)

nothing-held : {K : Type 0} (h : Housed K) → IsHouseLog h.house_log → HasNothing (chronicle h) → held (past h) ≡ 0
nothing-held h k n =
    ap held (sym (past-entries h.house_log k))
    ∙ ap (λ (hs : List Held). blocks_out hs (live (past_seen (chronicle h)))) n.0
    ∙ ap (λ (ls : List LiveEntry). blocks_out [] ls) n.1

pub free-left : {K : Type 0} (signs : KeeperSigns K) (h : Housed K) → IsHouseLog h.house_log → IsHouse signs h → HasNothing (chronicle h) → h.pool.free ≡ h.house_log.facts.pool
free-left signs h k w n =
    let none : held (past h) ≡ 0 = nothing-held h k n in
    let all : h.pool.free + held (past h) ≡ h.house_log.facts.pool = w.free in
    omega (arith, none, all)
