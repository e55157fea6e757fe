-- Going through a list of things, over a house.
use Rattle.std.proofs.Common.{◌≡◌, ◌⊎◌, ℕ, ◌<◌, Bool, true, false, List, [], ◌∷◌, ◌++◌, refl, ap, sym, ◌∙◌, subst, inl, inr, arith}
use Rattle.std.specs.List.{list_any}
use Rattle.history_keeper.specs.declared.row.Row.{Row}
use Rattle.history_keeper.specs.Signs.{KeeperSigns}
use Rattle.update_log.specs.Pasts.{boots, is_boot}
use Rattle.update_log.specs.declared.event.Event.{Event}
use Rattle.update_log.proofs.Lists.{by_test}
use Rattle.daemon_core.specs.HouseLog.{SameFacts}
use Rattle.daemon_core.specs.Housed.{HouseLogView, Housed, past, rows_before, rows_taken}
use Rattle.daemon_core.proofs.Fared.{fared-both, fared-here}
use Rattle.daemon_core.proofs.Planned.{keeps-both, keeps-here}
use Rattle.daemon_core.specs.Keeping.{last_faulted}
use Rattle.client_plays.specs.Moments.{Grew, Moment}
use Rattle.client_plays.specs.Scripts.{PlayedSo, PlaysAll, PlaysUntil}
use Rattle.client_plays.specs.Endings.{AtRest, IsIdle, SoFar}
use Rattle.client_plays.proofs.MomentLaws.{did-nothing, grew-boots}
use Rattle.client_plays.proofs.ScriptLaws.{all-more}

pub same-both : (old mid new : HouseLogView) → SameFacts old mid → SameFacts mid new → SameFacts old new
same-both old mid new a b =
    record {
      facts = b.facts ∙ a.facts;
      first = b.first ∙ a.first;
      opening = b.opening ∙ a.opening;
      loaded = b.loaded ∙ a.loaded;
      reopened = b.reopened ∙ a.reopened;
    }

pub rest-both : {K : Type 0} (signs : KeeperSigns K) (old mid new : Housed K) → AtRest signs old mid → AtRest signs mid new → AtRest signs old new
rest-both signs old mid new a b =
    record {
      idle = b.idle;
      same = same-both old.house_log mid.house_log new.house_log a.same b.same;
      counted = fared-both signs old mid new a.counted b.counted b.counts;
      counts = omega arith;
      plans = keeps-both old.places mid.places new.places a.plans b.plans;
    }

pub rest-here : {K : Type 0} (signs : KeeperSigns K) (h : Housed K) → IsIdle (past h) → AtRest signs h h
rest-here signs h i =
    record {
      idle = i;
      same = record { facts = refl; first = refl; opening = refl; loaded = refl; reopened = refl };
      counted = fared-here signs h;
      counts = omega arith;
      plans = keeps-here h.places;
    }

-- Nothing was done yet.
pub so_far-nothing : {K X : Type 0} (signs : KeeperSigns K) (wanting : Bool) (client : ℕ) (Play : X → List Moment → Type 0) (h : Housed K) → IsIdle (past h) → SoFar signs wanting client Play [] h h
so_far-nothing signs wanting client Play h i =
    record { moments = []; did = did-nothing client (past h); plays = refl; rest = rest-here signs h i }

-- What was played is still played where memory is told to be wanting.
pub still-played : {X : Type 0} (now wanting : Bool) (client : ℕ) (Play : X → List Moment → Type 0) (xs : List X) (moments : List Moment) → (now ≡ true) ⊎ (now ≡ wanting) → PlaysAll wanting client Play xs moments → PlaysAll now client Play xs moments
still-played now wanting client Play xs moments h p =
    let P : Bool → Type 0 = λ b. PlaysAll b client Play xs moments in
    elim h [ inl e ↦ subst P (sym e) (all-more client Play xs moments wanting p) | inr e ↦ subst P (sym e) p ]

-- The next thing was left, in a boot that is off.
pub so-left : {X : Type 0} (is_off wanting : Bool) (client : ℕ) (Play : X → List Moment → Type 0) (xs : List X) (moments : List Moment) → is_off ≡ true → PlaysUntil wanting client Play xs moments → PlayedSo is_off wanting client Play xs moments
so-left true wanting client Play xs moments e p = p
so-left false wanting client Play xs moments e p = cc

-- A boot that ran goes on running.
pub still-booted : {K X : Type 0} (signs : KeeperSigns K) (wanting : Bool) (client : ℕ) (Play : X → List Moment → Type 0) (done : List X) (old new : Housed K) → SoFar signs wanting client Play done old new → 0 < boots (past old) → 0 < boots (past new)
still-booted signs wanting client Play done old new s b = subst (λ (n : ℕ). 0 < n) (sym (grew-boots (past old) (past new) s.did.grew)) b

-- The facts and the rows before the log are the same all along.
pub before-same : (old new : HouseLogView) → SameFacts old new → rows_before new ≡ rows_before old
before-same old new s = ap (λ (b : Bool). rows_taken b new.opening) s.loaded ∙ ap (λ (o : List Row). rows_taken old.loaded o) s.opening

-- The last boot is that which was played.
faulted-more : (more past : List Event) → list_any is_boot more ≡ false → last_faulted (more ++ past) ≡ last_faulted past
faulted-more [] past b = refl
faulted-more (event ∷ more) past b =
    by_test (is_boot event) _
    (λ t. let bad : true ≡ false = rw t at b in cc)
    (λ f. rw f (faulted-more more past (rw f at b)))

pub grew-faulted : (old new : List Event) → Grew old new → last_faulted new ≡ last_faulted old
grew-faulted old new g = ap last_faulted g.are ∙ faulted-more g.more old g.no_boot
