-- The daemon resumed its entries, by the log as it closed.
use Rattle.std.proofs.Common.{◌≡◌, ◌≢◌, ℕ, ◌<◌, ◌≤◌, Bool, List, [], ◌∷◌, ◌++◌, All, map, length, get_or, zero, suc, refl, ap, sym, ◌∙◌, subst, arith}
use Rattle.std.proofs.lemmas.List.Elements.{All-cons, All-head, All-nil}
use Rattle.std.proofs.lemmas.List.FromFn.{get_or-range_with_len}
use Rattle.std.specs.List.{range_with_len}
use Rattle.update_log.specs.Pasts.{off}
use Rattle.client_plays.specs.Endings.{WentThrough}
use Rattle.client_plays.specs.Faults.{FaultsTold}
use Rattle.client_plays.specs.Moments.{Moment, mine}
use Rattle.client_plays.specs.Scripts.{PlayedSo}
use Rattle.turn_lock.specs.Lists.{BeginsWith, beyond}
use Rattle.turn_lock.specs.Shown.{HasItsEntries, IsFresh, LockId, PassView}
use Rattle.shared_daemon.specs.declared.entry.Entry.{Entry}
use Rattle.shared_daemon.specs.Entries.{maker_of, past_seen}
use Rattle.shared_daemon.specs.Names.{IsLogOf, IsPass, Name}
use Rattle.shared_daemon.proofs.Closed.{passes-count}
use Rattle.script_runs.specs.Passes.{PassWent, own}
use Rattle.daemon_tasks.proofs.JudgeLoops.{still-played}
use Rattle.daemon_tasks.proofs.OnePass.{off-later, own-after, own-counted, stranger-quiet}
use Rattle.daemon_tasks.proofs.Pasts.{log-grew}

-- What is put on nothing stands alone.
pub back-again : {A : Type 0} (all passes : List A) (p : A) → all ≡ passes ++ p ∷ [] → passes ≡ [] → all ≡ p ∷ []
back-again all passes p e n = e ∙ ap (λ (l : List _). l ++ p ∷ []) n

-- Nobody but the daemon has a number below 1.
above : (n : ℕ) → n ≢ 0 → 1 ≤ n
above zero h = absurd (h refl)
above (suc n) h = omega arith

module _ (name : Name) (lock : LockId) (log : List Entry) (old new : PassView Entry) (z : old.number ≡ 0) (p : IsPass lock name old) (q : IsPass lock name new) (f : IsFresh name.start old) (l : IsLogOf name log) (b : BeginsWith log new.seen)
    (m : HasItsEntries maker_of name.start log new) where
  start-log : IsLogOf name name.start
  start-log = subst (λ (list : List Entry). IsLogOf name list) f.0 p.log

  pub went-closed : {X : Type 0} (wanting : Bool) (Play : X → List Moment → Type 0) (xs : List X) → All (λ (e : Entry). maker_of e < 1) (beyond name.start log) → PassWent wanting Play xs old new → WentThrough wanting 0 Play xs (past_seen name.start) (past_seen log)
  went-closed wanting Play xs makers w =
      record {
        moments = w.moments;
        did = record {
          own = subst (λ (n : ℕ). mine n (past_seen log) ≡ mine n (past_seen name.start) ++ w.moments) z (own-after name log start-log l lock old new q w.did.same f b m w.moments w.did.own_are);
          others = λ other h. stranger-quiet name log start-log l 1 other (above other h) makers;
          grew = log-grew name log start-log l;
        };
        plays = subst (λ (n : ℕ). PlayedSo (off (past_seen log)) wanting n Play xs w.moments) z
            (still-played old.number Play xs w.moments (off (past_seen new.seen)) (off (past_seen log)) wanting wanting (off-later name log start-log l lock old new q w.did.same f b m) (λ x. x) w.plays);
      }

  pub told-closed : new.number ≡ old.number → (x y : ℕ) → FaultsTold (own old) (own new) x y → FaultsTold (mine 0 (past_seen name.start)) (mine 0 (past_seen log)) x y
  told-closed same x y t =
      subst (λ (n : ℕ). FaultsTold (mine n (past_seen name.start)) (mine n (past_seen log)) x y) z (own-counted name log start-log l lock old new q same f b m x y t)

-- ---- the only pass

pub one-pass : (Q : PassView Entry → Type 0) (pass : PassView Entry) → Q pass → All Q (pass ∷ [])
one-pass Q pass q = All-cons Q pass [] q (All-nil Q)

pub only-pass : (Q : PassView Entry → Type 0) (passes : List (PassView Entry)) (pass : PassView Entry) → passes ≡ pass ∷ [] → All Q passes → Q pass
only-pass Q passes pass e a = All-head Q pass [] (subst (λ (l : List (PassView Entry)). All Q l) e a)

-- Of one pass that is taken from the end nothing is left.
nothing-before : (front : List (PassView Entry)) (own : PassView Entry) → length (front ++ own ∷ []) ≡ 1 → front ≡ []
nothing-before [] own n = refl
nothing-before (x ∷ []) own n = absurd (omega arith)
nothing-before (x ∷ y ∷ front) own n = absurd (omega arith)

pub one-left : (name : Name) (passes front : List (PassView Entry)) (own : PassView Entry) → passes ≡ front ++ own ∷ [] → map (λ (p : PassView Entry). p.number) passes ≡ range_with_len 0 1 → (front ≡ []) × (passes ≡ own ∷ []) × (own.number ≡ 0)
one-left name passes front own e n =
    let count : length passes ≡ 1 = passes-count name [] passes 1 n in
    let none : front ≡ [] = nothing-before front own (sym (ap length e) ∙ count) in
    let one : passes ≡ own ∷ [] = e ∙ ap (λ (l : List (PassView Entry)). l ++ own ∷ []) none in
    let number : own.number ∷ [] ≡ range_with_len 0 1 = ap (map (λ (p : PassView Entry). p.number)) (sym one) ∙ n in
    (none, one, ap (λ (l : List ℕ). get_or l 0 0) number ∙ get_or-range_with_len 0 1 0 0 (omega arith))

pub one-number : (passes : List (PassView Entry)) (pass : PassView Entry) → passes ≡ pass ∷ [] → pass.number ≡ 0 → map (λ (p : PassView Entry). p.number) passes ≡ range_with_len 0 1
one-number passes pass e z = ap (map (λ (p : PassView Entry). p.number)) e ∙ ap (λ (n : ℕ). n ∷ []) z
