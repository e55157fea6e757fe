-- A house keeps its name over every call.
use Rattle.std.proofs.Common.{◌≡◌, ◌⊎◌, ℕ, ◌≤◌, ◌+◌, ◌-◌, ◌^◌, true, false, List, ◌∷◌, refl, ap, sym, ◌∙◌, inl, inr, ⊎_elim, arith}
use Rattle.std.specs.Prelude.{Result, Ok, Err}
use Rattle.history_keeper.specs.Signs.{KeeperSigns}
use Rattle.update_log.specs.declared.event.Event.{Event}
use Rattle.update_log.specs.Pasts.{boots, is_boot, meets_fault, off, past_of}
use Rattle.daemon_core.specs.declared.off.Off.{Off}
use Rattle.daemon_core.specs.declared.stop.Stop.{Stop}
use Rattle.daemon_core.specs.HouseLog.{Appended, SameFacts, Unchanged}
use Rattle.daemon_core.specs.Goes.{TurnedOrOff}
use Rattle.daemon_core.specs.Housed.{HouseLogView, Housed, past, past_in}
use Rattle.daemon_core.specs.Keeping.{keeper_faults}
use Rattle.daemon_core.specs.Turns.{KeeperFared, Turned, WentOff}
use Rattle.daemon_core.proofs.HouseLogKept.{appended-past, boots-same}
use Rattle.daemon_core.proofs.Fared.{fared-same}
use Rattle.daemon_core.specs.Planned.{HavePlans}
use Rattle.shared_daemon.specs.Names.{KeepsName, Name}
use Rattle.daemon_core.proofs.Planned.{plans-same}

-- The log stayed, or one event was put behind it that is no boot; and perhaps none that met a fault of the
-- keeper.
abbrev pub Grew : ℕ → HouseLogView → HouseLogView → Type 0
Grew client old new = Unchanged old new ⊎ ((event : Event) × (is_boot event ≡ false) × Appended client event old new)

abbrev pub GrewCalm : ℕ → HouseLogView → HouseLogView → Type 0
GrewCalm client old new = Unchanged old new ⊎ ((event : Event) × (is_boot event ≡ false) × (meets_fault event ≡ false) × Appended client event old new)

pub calm-grew : (client : ℕ) (old new : HouseLogView) → GrewCalm client old new → Grew client old new
calm-grew client old new g = ⊎_elim (λ (u : Unchanged old new). inl u) (λ (a : (event : Event) × (is_boot event ≡ false) × (meets_fault event ≡ false) × Appended client event old new). inr (a.0, a.1, a.3)) g

-- So what no event but a boot changes stays.
pub grew-facts : (client : ℕ) (old new : HouseLogView) → Grew client old new → SameFacts old new
grew-facts client old new g = ⊎_elim (λ (u : Unchanged old new). u.same) (λ (a : (event : Event) × (is_boot event ≡ false) × Appended client event old new). a.2.same) g

pub grew-boots : (client : ℕ) (old new : HouseLogView) → Grew client old new → boots (past_in new) ≡ boots (past_in old)
grew-boots client old new g =
    ⊎_elim (λ (u : Unchanged old new). ap (λ (l : List Event). boots (past_of l)) u.log)
    (λ (a : (event : Event) × (is_boot event ≡ false) × Appended client event old new). ap boots (appended-past client a.0 old new a.2) ∙ boots-same (past_in old) a.0 a.1) g

calm-same : (past : List Event) (event : Event) → meets_fault event ≡ false → keeper_faults (event ∷ past) ≡ keeper_faults past
calm-same past event e = rw e refl

pub calm-faults : (client : ℕ) (old new : HouseLogView) → GrewCalm client old new → keeper_faults (past_in new) ≡ keeper_faults (past_in old)
calm-faults client old new g =
    ⊎_elim (λ (u : Unchanged old new). ap (λ (l : List Event). keeper_faults (past_of l)) u.log)
    (λ (a : (event : Event) × (is_boot event ≡ false) × (meets_fault event ≡ false) × Appended client event old new). ap keeper_faults (appended-past client a.0 old new a.3) ∙ calm-same (past_in old) a.0 a.2) g

-- Faults stay counted.
counted-still : (end was now counted told first : ℕ) → (was + first ≤ counted) ⊎ (end ≤ counted) → (now + counted ≤ was + told) ⊎ (end ≤ told) → counted ≤ told → (now + first ≤ told) ⊎ (end ≤ told)
counted-still end was now counted told first h c more =
    ⊎_elim
    (λ (w : was + first ≤ counted). ⊎_elim (λ (m : now + counted ≤ was + told). inl (omega arith)) (λ (m : end ≤ told). inr m) c)
    (λ (w : end ≤ counted). inr (omega arith)) h

module _ {K : Type 0} (signs : KeeperSigns K) (name : Name) (client : ℕ) (old new : Housed K) where
  pub keeps-counted : KeepsName signs name old → Grew client old.house_log new.house_log → KeeperFared signs old new → signs.faults old.keeper ≤ signs.faults new.keeper → HavePlans name.plans new.places → KeepsName signs name new
  keeps-counted n g f c p =
      let s = grew-facts client old.house_log new.house_log g in
      record {
        facts_are = s.facts ∙ n.facts_are;
        first_are = s.first ∙ n.first_are;
        opening_is = s.opening ∙ n.opening_is;
        loaded = s.loaded ∙ n.loaded;
        reopened = s.reopened ∙ n.reopened;
        booted = n.booted;
        boots_are = grew-boots client old.house_log new.house_log g ∙ n.boots_are;
        planned = p;
        counted = counted-still (2 ^ 64 - 1) (keeper_faults (past old)) (keeper_faults (past new)) (signs.faults old.keeper) (signs.faults new.keeper) name.first_faults n.counted f.counted c;
        counts = (let k = n.counts in omega (arith, k, c));
        grows = (let was = n.grows in let more = f.grows in omega (arith, was, more));
        quiet = λ e.
            let was = n.grows in
            let more = f.grows in
            let start : keeper_faults (past old) ≡ name.start_told = omega (arith, was, more, e) in
            f.quiet (e ∙ sym start) ∙ n.quiet start;
        told = λ all t. let before = f.told all t in n.told before.0 before.1;
      }

  pub keeps-calm : KeepsName signs name old → GrewCalm client old.house_log new.house_log → new.keeper ≡ old.keeper → HavePlans name.plans new.places → KeepsName signs name new
  keeps-calm n g k p =
      let f : signs.faults new.keeper ≡ signs.faults old.keeper = ap signs.faults k in
      keeps-counted n (calm-grew client old.house_log new.house_log g) (fared-same signs old new (calm-faults client old.house_log new.house_log g) k) (omega arith) p

  -- The places are as before.
  pub same-plans : KeepsName signs name old → new.places ≡ old.places → HavePlans name.plans new.places
  same-plans n e = plans-same name.plans old.places new.places e n.planned

-- How each kind of call lets the log grow.
pub off-calm : (client : ℕ) (old new : HouseLogView) → WentOff client old new → GrewCalm client old new
off-calm client old new w =
    ⊎_elim (λ (u : (off (past_in old) ≡ true) × Unchanged old new). inl u.1)
    (λ (a : (off (past_in old) ≡ false) × Appended client Event.Cut old new). inr (Event.Cut, refl, refl, a.1)) w

pub turned-calm : {A : Type 0} (client : ℕ) (event : A → Event) (result : Result A Stop) (old new : HouseLogView) → ((a : A) → is_boot (event a) ≡ false) → ((a : A) → meets_fault (event a) ≡ false) → Turned client event result old new → GrewCalm client old new
turned-calm client event (Ok a) old new b f t = inr (event a, b a, f a, t.1)
turned-calm client event (Err Stop.Off) old new b f t = off-calm client old new t
turned-calm client event (Err Stop.NoMemory) old new b f t = inl t.1

pub turned-grew : {A : Type 0} (client : ℕ) (event : A → Event) (result : Result A Stop) (old new : HouseLogView) → ((a : A) → is_boot (event a) ≡ false) → Turned client event result old new → Grew client old new
turned-grew client event (Ok a) old new b t = inr (event a, b a, t.1)
turned-grew client event (Err Stop.Off) old new b t = calm-grew client old new (off-calm client old new t)
turned-grew client event (Err Stop.NoMemory) old new b t = inl t.1

pub went-calm : {A : Type 0} (client : ℕ) (event : A → Event) (result : Result A Off) (old new : HouseLogView) → ((a : A) → is_boot (event a) ≡ false) → ((a : A) → meets_fault (event a) ≡ false) → TurnedOrOff client event result old new → GrewCalm client old new
went-calm client event (Ok a) old new b f t = inr (event a, b a, f a, t.1)
went-calm client event (Err stop) old new b f t = off-calm client old new t
