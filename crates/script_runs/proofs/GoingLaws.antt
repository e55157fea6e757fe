-- Going through a list of things.
use Rattle.std.proofs.Common.{◌≡◌, ℕ, Bool, true, false, List, [], ◌∷◌, ◌++◌, refl, sym, subst, inl, inr}
use Rattle.std.specs.Prelude.{Option, Some, None}
use Rattle.client_plays.proofs.RestLaws.{still-played, so-left}
use Rattle.update_log.specs.Pasts.{off}
use Rattle.update_log.specs.Known.{Basis}
use Rattle.client_scripts.specs.declared.item.Item.{Item}
use Rattle.client_plays.specs.declared.played.Played.{Played}
use Rattle.client_plays.specs.Endings.{EndsSo, OnceMore}
use Rattle.client_plays.specs.Moments.{Moment}
use Rattle.client_plays.specs.Plays.{Plays}
use Rattle.client_plays.specs.Scripts.{PlayedSo, PlaysUntil}
use Rattle.client_plays.specs.Tools.{Files, means_of}
use Rattle.plugin_trait.specs.Steps.{PluginSteps}
use Rattle.client_plays.proofs.ScriptLaws.{all-push, so-all, until-left}
use Rattle.turn_lock.specs.Shown.{PassView}
use Rattle.shared_daemon.specs.declared.entry.Entry.{Entry}
use Rattle.shared_daemon.specs.Closings.{IsFreePass}
use Rattle.shared_daemon.specs.Entries.{past_seen}
use Rattle.script_runs.specs.Passes.{Did, Ended, PassWent, SoFar, told_of}
use Rattle.script_runs.proofs.DidLaws.{did-both, did-nothing}

-- What a client did who played one thing more: it was played; or it was left for want of memory, and
-- that is told; or it was left in a boot that is off.
pub record EndedMore (told : Option Bool) (wanting : Bool) (Play : List Moment → Type 0) (old new : PassView Entry) : Type 0 where
  pub moments : List Moment
  pub did : Did moments old new
  pub more : OnceMore told wanting old.number Play (past_seen new.seen) moments

pub more-told : (played : Played) (told : Option Bool) (wanting : Bool) (Play : List Moment → Type 0) (old new : PassView Entry) → told ≡ told_of played wanting → Ended played Play old new → EndedMore told wanting Play old new
more-told played told wanting Play old new e p =
    record { moments = p.moments; did = p.did; more = subst (λ (t : Option Bool). OnceMore t wanting old.number Play (past_seen new.seen) p.moments) (sym e) (once played wanting p.ends) }
  where
    once : (x : Played) (w : Bool) → EndsSo x old.number Play (past_seen new.seen) p.moments → OnceMore (told_of x w) w old.number Play (past_seen new.seen) p.moments
    once Played.Done true h = (inl refl, inl h)
    once Played.Done false h = (inr refl, h)
    once Played.NoMemory w h = (inl refl, inr h)
    once Played.Off w h = h

-- Nothing was done yet.
pub so_far-nothing : {X : Type 0} (wanting : Bool) (Play : X → List Moment → Type 0) (pass : PassView Entry) → IsFreePass pass → SoFar wanting Play [] pass pass
so_far-nothing wanting Play pass f = record { moments = []; did = did-nothing pass f; plays = refl }

-- One thing more was played.
pub so_far-more : {X : Type 0} (now wanting : Bool) (Play : X → List Moment → Type 0) (done : List X) (x : X) (old mid new : PassView Entry) → SoFar wanting Play done old mid → EndedMore (Some now) wanting (Play x) mid new → SoFar now Play (done ++ x ∷ []) old new
so_far-more now wanting Play done x old mid new s m =
    let more : OnceMore (Some now) wanting old.number (Play x) (past_seen new.seen) m.moments =
    subst (λ (n : ℕ). OnceMore (Some now) wanting n (Play x) (past_seen new.seen) m.moments) s.did.same m.more in
    record {
      moments = s.moments ++ m.moments;
      did = did-both s.moments m.moments old mid new s.did.own_are s.did.same m.did;
      plays = all-push now old.number Play done x s.moments m.moments (still-played now wanting old.number Play done s.moments more.0 s.plays) more.1;
    }

pub went-left : {X : Type 0} (wanting : Bool) (Play : X → List Moment → Type 0) (done : List X) (x : X) (others all : List X) (old mid new : PassView Entry) → done ++ x ∷ others ≡ all → SoFar wanting Play done old mid → EndedMore None wanting (Play x) mid new → PassWent wanting Play all old new
went-left wanting Play done x others all old mid new e s m =
    let more : OnceMore None wanting old.number (Play x) (past_seen new.seen) m.moments =
    subst (λ (n : ℕ). OnceMore None wanting n (Play x) (past_seen new.seen) m.moments) s.did.same m.more in
    let until : PlaysUntil wanting old.number Play (done ++ x ∷ others) (s.moments ++ m.moments) = until-left wanting old.number Play done x others s.moments m.moments s.plays more.0 in
    record {
      moments = s.moments ++ m.moments;
      did = did-both s.moments m.moments old mid new s.did.own_are s.did.same m.did;
      plays = subst (λ (xs : List _). PlayedSo (off (past_seen new.seen)) wanting old.number Play xs (s.moments ++ m.moments)) e
          (so-left (off (past_seen new.seen)) wanting old.number Play (done ++ x ∷ others) (s.moments ++ m.moments) more.1 until);
    }

-- All were played.
pub went-all : {X : Type 0} (wanting : Bool) (Play : X → List Moment → Type 0) (all : List X) (old new : PassView Entry) → SoFar wanting Play all old new → PassWent wanting Play all old new
went-all wanting Play all old new s =
    record { moments = s.moments; did = s.did; plays = so-all (off (past_seen new.seen)) wanting old.number Play all s.moments s.plays }

-- The same plays, by a pass and a shelf that are told the same of.
pub same-plays : (basis : Basis) (plugins : ℕ → PluginSteps) (told : Option Bool) (wanting : Bool) (item : Item) (files now : Files) (old mid new : PassView Entry) → now ≡ files → mid.number ≡ old.number → EndedMore told wanting (Plays basis (means_of now plugins) mid.number item) mid new
    → EndedMore told wanting (Plays basis (means_of files plugins) old.number item) mid new
same-plays basis plugins told wanting item files now old mid new f n m =
    subst (λ (k : ℕ). EndedMore told wanting (Plays basis (means_of files plugins) k item) mid new) n
    (subst (λ (x : Files). EndedMore told wanting (Plays basis (means_of x plugins) mid.number item) mid new) f m)
