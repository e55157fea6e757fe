-- How a keeper fared over calls that follow each other.
use Rattle.std.proofs.Common.{◌≡◌, ◌⊎◌, ℕ, ◌≤◌, ◌+◌, ◌-◌, ◌^◌, true, false, List, inl, inr, refl, ap, sym, ◌∙◌, subst, arith}
use Rattle.std.specs.Prelude.{Option, Result, Ok, Err, nat_le}
use Rattle.std.proofs.lemmas.Bool.{leb-true, leb-false}
use Rattle.outer_traits.specs.Faults.{Rose}
use Rattle.history_keeper.specs.declared.change.Change.{Change}
use Rattle.history_keeper.specs.declared.refusal.KeeperRefusal.{KeeperRefusal}
use Rattle.history_keeper.specs.declared.row.Row.{Row}
use Rattle.history_keeper.specs.Keepers.{StillTold, ToldWith}
use Rattle.history_keeper.specs.Signs.{KeeperSigns}
use Rattle.update_log.proofs.Lists.{by_test}
use Rattle.update_log.specs.declared.event.Stored.{Stored}
use Rattle.update_log.specs.Pasts.{is_fault}
use Rattle.daemon_core.specs.Housed.{Housed, past}
use Rattle.daemon_core.specs.Keeping.{keeper_faults}
use Rattle.daemon_core.specs.Turns.{KeeperFared, ToldBefore}

-- ---- what was told before

module _ {K : Type 0} (told : K → List Row → Type 0) where
  pub told-same : (old new : K) → new ≡ old → ToldBefore told old new
  told-same old new k all t = (all, subst (λ (x : K). told x all) k t)

  pub told-still : (old new : K) → StillTold (told old) (told new) → ToldBefore told old new
  told-still old new s all t = (all, s all t)

  pub told-both : (old mid new : K) → ToldBefore told old mid → ToldBefore told mid new → ToldBefore told old new
  told-both old mid new a b all t = let m = b all t in a m.0 m.1

  -- after a change that was made, and after one that wasn't
  pub told-with : (old new : K) (change : Change) → ToldWith change (told old) (told new) → ToldBefore told old new
  told-with old new change h all t = let before = h all t in (before.0, before.1)

pub told-left : {K : Type 0} (signs : KeeperSigns K) (old new : K) (left : Option Change) → StillTold (signs.tells old) (signs.tells new) × (signs.doubt new ≡ left) → ToldBefore signs.tells old new
told-left signs old new left h = told-still signs.tells old new h.0

-- ---- what was no fault

pub calm-ok : {A P : Type 0} (result : Result A KeeperRefusal) (x : A) → result ≡ Ok x → (result ≡ Err KeeperRefusal.Fault) ⊎ P → P
calm-ok result x e (inl q) = cc
calm-ok result x e (inr p) = p

pub calm-memory : {A P : Type 0} (result : Result A KeeperRefusal) → result ≡ Err KeeperRefusal.NoMemory → (result ≡ Err KeeperRefusal.Fault) ⊎ P → P
calm-memory result e (inl q) = cc
calm-memory result e (inr p) = p

pub calm-stored : {P : Type 0} (stored : Stored) → is_fault stored ≡ false → (stored ≡ Stored.Fault) ⊎ P → P
calm-stored stored c (inl e) = let bad : true ≡ false = sym (ap is_fault e) ∙ c in cc
calm-stored stored c (inr p) = p

-- ---- all that the keeper shows

-- Two counts that rose one after the other.
counted-over : (end was mid now before between after : ℕ) → (mid + before ≤ was + between) ⊎ (end ≤ between) → (now + between ≤ mid + after) ⊎ (end ≤ after) → between ≤ after → (now + before ≤ was + after) ⊎ (end ≤ after)
counted-over end was mid now before between after (inl a) (inl b) c = inl (omega (arith, a, b))
counted-over end was mid now before between after (inl a) (inr b) c = inr b
counted-over end was mid now before between after (inr a) b c = inr (omega (arith, a, c))

module _ {K : Type 0} (signs : KeeperSigns K) where
  -- The log tells no more faults, and the keeper is the same.
  pub fared-same : (old new : Housed K) → keeper_faults (past new) ≡ keeper_faults (past old) → new.keeper ≡ old.keeper → KeeperFared signs old new
  fared-same old new e k =
      let f : signs.faults new.keeper ≡ signs.faults old.keeper = ap signs.faults k in
      record {
        grows = omega (arith, e);
        counted = inl (omega (arith, e, f));
        quiet = λ _. f;
        told = told-same signs.tells old.keeper new.keeper k;
      }

  -- The log tells no more faults, and the keeper counted none.
  pub fared-quiet : (old new : Housed K) → keeper_faults (past new) ≡ keeper_faults (past old) → signs.faults new.keeper ≡ signs.faults old.keeper → ToldBefore signs.tells old.keeper new.keeper → KeeperFared signs old new
  fared-quiet old new e f t = record { grows = omega (arith, e); counted = inl (omega (arith, e, f)); quiet = λ _. f; told = t }

  pub fared-both : (old mid new : Housed K) → KeeperFared signs old mid → KeeperFared signs mid new → signs.faults mid.keeper ≤ signs.faults new.keeper → KeeperFared signs old new
  fared-both old mid new a b c =
      let first = a.grows in
      let later = b.grows in
      record {
        grows = omega (arith, first, later);
        counted = counted-over (2 ^ 64 - 1) (keeper_faults (past old)) (keeper_faults (past mid)) (keeper_faults (past new)) (signs.faults old.keeper) (signs.faults mid.keeper) (signs.faults new.keeper) a.counted b.counted c;
        quiet = λ e.
            let between : keeper_faults (past mid) ≡ keeper_faults (past old) = omega (arith, first, later, e) in
            let after : keeper_faults (past new) ≡ keeper_faults (past mid) = omega (arith, first, later, e) in
            b.quiet after ∙ a.quiet between;
        told = told-both signs.tells old.keeper mid.keeper new.keeper a.told b.told;
      }

  -- The house is as it was.
  pub fared-here : (h : Housed K) → KeeperFared signs h h
  fared-here h = record { grows = omega arith; counted = inl (omega arith); quiet = λ _. refl; told = λ all t. (all, t) }

  -- The log tells one fault more, and the keeper counted it.
  pub counted-more : (old new : Housed K) → keeper_faults (past new) ≡ keeper_faults (past old) + 1 → Rose (signs.faults old.keeper) (signs.faults new.keeper) → ToldBefore signs.tells old.keeper new.keeper → KeeperFared signs old new
  counted-more old new e h t =
      record {
        grows = omega (arith, e);
        counted = by_test (nat_le (signs.faults old.keeper + 1) (2 ^ 64 - 1)) ((keeper_faults (past new) + signs.faults old.keeper ≤ keeper_faults (past old) + signs.faults new.keeper) ⊎ (2 ^ 64 - 1 ≤ signs.faults new.keeper))
            (λ y. let l = leb-true _ _ y in inl (omega (arith, e, h, l)))
            (λ f. let l = leb-false _ _ f in inr (omega (arith, h, l)));
        quiet = λ same. absurd (omega (arith, e, same));
        told = t;
      }
