-- A house whose daemon begins, and one whose daemon closed.
use Rattle.std.proofs.Common.{◌≡◌, ◌⊎◌, ℕ, ◌<◌, ◌≤◌, ◌+◌, ◌-◌, ◌^◌, Bool, false, List, refl, ap, sym, ◌∙◌, subst, inl, inr, arith}
use Rattle.emulated_boards.specs.declared.fault.PlannedFault.{PlannedFault}
use Rattle.history_keeper.specs.declared.row.Row.{Row}
use Rattle.history_keeper.specs.Signs.{KeeperSigns}
use Rattle.update_log.specs.declared.event.Event.{Event}
use Rattle.update_log.specs.declared.facts.Facts.{Facts}
use Rattle.update_log.specs.Holding.{holds, live}
use Rattle.update_log.specs.Known.{Basis, basis_of, rows}
use Rattle.update_log.specs.Pasts.{boots, off}
use Rattle.daemon_core.specs.HouseLog.{IsHouseLog, SameFacts}
use Rattle.daemon_core.specs.Housed.{basis_in, Housed, past, rows_before}
use Rattle.daemon_core.specs.Keeping.{keeper_faults}
use Rattle.daemon_core.specs.Parts.{AllHome}
use Rattle.daemon_core.specs.Turns.{KeeperFared}
use Rattle.daemon_core.specs.Planned.{HavePlans, KeepsPlans}
use Rattle.daemon_core.proofs.LogLaws.{loaded-on}
use Rattle.daemon_core.proofs.Planned.{keeps-picked, plans-picked}
use Rattle.client_plays.specs.Endings.{AtRest, HouseWent, IsCounted, IsIdle, ReadLast, WentThrough}
use Rattle.client_plays.specs.Faults.{FaultsTold}
use Rattle.client_plays.specs.Moments.{Grew, Moment, mine}
use Rattle.client_plays.proofs.RestLaws.{grew-faulted}
use Rattle.shared_daemon.specs.Entries.{chronicle, past_seen}
use Rattle.shared_daemon.specs.Names.{HasNothing, KeepsName, Name}
use Rattle.shared_daemon.proofs.Logs.{past-entries}
use Rattle.shared_daemon.proofs.Seeing.{before-named}
use Rattle.daemon_tasks.specs.Begins.{CanBegin, IsNameOf, name_of}
use Rattle.daemon_tasks.specs.Stays.{rows_at}
use Rattle.daemon_tasks.specs.Waits.{rows_seen}
use Rattle.daemon_tasks.proofs.Pasts.{on-read}

-- Each fault of the keeper that the log tells stays counted, and the last boot read the history still.
pub rest-counted : {K : Type 0} (signs : KeeperSigns K) (old mid : Housed K) → AtRest signs old mid → IsCounted signs old → IsCounted signs mid
rest-counted signs old mid rest c = both c rest.counted.counted rest.counts
  where
    both : IsCounted signs old → (keeper_faults (past mid) + signs.faults old.keeper ≤ keeper_faults (past old) + signs.faults mid.keeper) ⊎ (2 ^ 64 - 1 ≤ signs.faults mid.keeper) → signs.faults old.keeper ≤ signs.faults mid.keeper → IsCounted signs mid
    both (inl x) (inl y) z = inl (omega arith)
    both (inr x) (inl y) z = inr (omega arith)
    both x (inr y) z = inr y

pub rest-read : {K : Type 0} (signs : KeeperSigns K) (old mid : Housed K) → Grew (past old) (past mid) → AtRest signs old mid → ReadLast old → ReadLast mid
rest-read signs old mid g rest r f = rest.same.reopened ∙ r (sym (grew-faulted (past old) (past mid) g) ∙ f)

module _ {K : Type 0} (signs : KeeperSigns K) where
  -- A daemon may begin round a house that was booted, and isn't off.
  pub can-begin : (h : Housed K) → IsHouseLog h.house_log → 0 < boots (past h) → off (past h) ≡ false → IsCounted signs h → IsIdle (past h) → ReadLast h → CanBegin signs h
  can-begin h k b o c i r =
      record { loaded = loaded-on h.house_log.loaded (past h) k.unloaded b o; reopened = r (on-read (past h) o); booted = b; counted = c; idle = i }

  first-counted : (h : Housed K) → IsCounted signs h → (keeper_faults (past h) + (signs.faults h.keeper - keeper_faults (past h)) ≤ signs.faults h.keeper) ⊎ (2 ^ 64 - 1 ≤ signs.faults h.keeper)
  first-counted h (inl c) = inl (omega arith)
  first-counted h (inr c) = inr c

  pub its-name : (h : Housed K) → IsNameOf signs (name_of signs h) h
  its-name h =
      record {
        facts_are = refl;
        first_are = refl;
        plans_are = refl;
        opening_is = refl;
        boots_are = refl;
        start_is = refl;
        start_faults_are = refl;
        start_told_is = refl;
        first_faults_are = refl;
        came_so = λ c. c;
        told_so = λ all t. (all, t);
      }

  -- It has the name that it has as the daemon begins.
  pub begins-named : (name : Name) (h : Housed K) → IsNameOf signs name h → CanBegin signs h → KeepsName signs name h
  begins-named name h e b =
      record {
        facts_are = sym e.facts_are;
        first_are = sym e.first_are;
        opening_is = sym e.opening_is;
        loaded = b.loaded;
        reopened = b.reopened;
        booted = subst (λ (n : ℕ). 0 < n) (sym e.boots_are) b.booted;
        boots_are = sym e.boots_are;
        planned = subst (λ (plans : List (List PlannedFault)). HavePlans plans h.places) (sym e.plans_are) (plans-picked h.places);
        counted =
            subst (λ (first : ℕ). (keeper_faults (past h) + first ≤ signs.faults h.keeper) ⊎ (2 ^ 64 - 1 ≤ signs.faults h.keeper)) (sym e.first_faults_are)
            (first-counted h b.counted);
        counts = (let start = e.start_faults_are in omega (arith, start));
        grows = (let start = e.start_told_is in omega (arith, start));
        quiet = λ _. sym e.start_faults_are;
        told = e.told_so;
      }

  pub nothing-out : (h : Housed K) → IsHouseLog h.house_log → IsIdle (past h) → HasNothing (chronicle h)
  nothing-out h k i =
      let e = past-entries h.house_log k in
      (ap (λ (p : List Event). holds p) e ∙ i.no_hold, ap (λ (p : List Event). live p) e ∙ i.no_live)

  idle-left : (h : Housed K) → IsHouseLog h.house_log → HasNothing (chronicle h) → IsIdle (past h)
  idle-left h k n =
      let e = past-entries h.house_log k in
      record {
        no_hold = ap (λ (p : List Event). holds p) (sym e) ∙ n.0;
        no_live = ap (λ (p : List Event). live p) (sym e) ∙ n.1;
      }

  -- What its name says as the daemon begins, of the house.
  module _ (name : Name) (old : Housed K) (e : IsNameOf signs name old) (b : CanBegin signs old) (k : IsHouseLog old.house_log) where
    pub rows-so : name.basis.opening ≡ rows_before old.house_log
    rows-so = sym (before-named signs name old (begins-named name old e b))

    pub old-past : past_seen name.start ≡ past old
    old-past = ap past_seen e.start_is ∙ past-entries old.house_log k

    pub rows-start : rows_seen name name.start ≡ rows_at old.house_log
    rows-start =
        ap (λ (f : Facts). rows (basis_of f name.basis.opening) (past_seen name.start)) e.facts_are
        ∙ ap (λ (o : List Row). rows (basis_of old.house_log.facts o) (past_seen name.start)) rows-so
        ∙ ap (λ (p : List Event). rows (basis_in old.house_log) p) old-past

    -- The daemon closed.
    module _ (new : Housed K) (w : IsHouseLog new.house_log) (n : KeepsName signs name new) where
      -- All boards were at home as it began, so the name has the plans of all.
      plans-so : AllHome old.places → KeepsPlans old.places new.places
      plans-so home = keeps-picked old.places new.places home (subst (λ (plans : List (List PlannedFault)). HavePlans plans new.places) e.plans_are n.planned)

      same-facts : SameFacts old.house_log new.house_log
      same-facts =
          record {
            facts = n.facts_are ∙ e.facts_are;
            first = n.first_are ∙ e.first_are;
            opening = n.opening_is ∙ e.opening_is;
            loaded = n.loaded ∙ sym b.loaded;
            reopened = n.reopened ∙ sym b.reopened;
          }

      counted-so : (first : ℕ) → first ≡ signs.faults old.keeper - keeper_faults (past old) → (keeper_faults (past new) + first ≤ signs.faults new.keeper) ⊎ (2 ^ 64 - 1 ≤ signs.faults new.keeper) → (keeper_faults (past new) + signs.faults old.keeper ≤ keeper_faults (past old) + signs.faults new.keeper) ⊎ (2 ^ 64 - 1 ≤ signs.faults new.keeper)
      counted-so first f (inl c) = inl (omega arith)
      counted-so first f (inr c) = inr c

      fared-so : KeeperFared signs old new
      fared-so =
          record {
            grows = (let start = e.start_told_is in let g = n.grows in omega (arith, start, g));
            counted = counted-so name.first_faults e.first_faults_are n.counted;
            quiet = λ q. n.quiet (q ∙ sym e.start_told_is) ∙ e.start_faults_are;
            told = λ all t. e.came_so (n.told all t);
          }

      pub rest-so : AllHome old.places → HasNothing (chronicle new) → AtRest signs old new
      rest-so home nothing =
          record {
            idle = idle-left new w nothing;
            same = same-facts;
            counted = fared-so;
            counts = (let start = e.start_faults_are in let c = n.counts in omega (arith, start, c));
            plans = plans-so home;
          }

      -- What a log of the name says, of the house.
      pub new-past : past_seen (chronicle new) ≡ past new
      new-past = past-entries new.house_log w

      -- What the daemon did, by its log, it did to the house.
      pub went-so : {X : Type 0} (wanting : Bool) (Play : Basis → X → List Moment → Type 0) (xs : List X) → AllHome old.places → HasNothing (chronicle new) → WentThrough wanting 0 (Play name.basis) xs (past_seen name.start) (past_seen (chronicle new))
          → HouseWent signs wanting 0 (Play (basis_in old.house_log)) xs old new
      went-so wanting Play xs home nothing w =
          record {
            went = subst (λ (f : Facts). WentThrough wanting 0 (Play (basis_of f (rows_before old.house_log))) xs (past old) (past new)) e.facts_are
                (subst (λ (o : List Row). WentThrough wanting 0 (Play (basis_of name.basis.facts o)) xs (past old) (past new)) rows-so
                (subst (λ (es : List Event). WentThrough wanting 0 (Play name.basis) xs es (past new)) old-past
                (subst (λ (es : List Event). WentThrough wanting 0 (Play name.basis) xs (past_seen name.start) es) new-past w)));
            rest = rest-so home nothing;
          }

      pub told-so : (x y : ℕ) → FaultsTold (mine 0 (past_seen name.start)) (mine 0 (past_seen (chronicle new))) x y → FaultsTold (mine 0 (past old)) (mine 0 (past new)) x y
      told-so x y t =
          subst (λ (es : List Event). FaultsTold (mine 0 es) (mine 0 (past new)) x y) old-past
          (subst (λ (es : List Event). FaultsTold (mine 0 (past_seen name.start)) (mine 0 es) x y) new-past t)
