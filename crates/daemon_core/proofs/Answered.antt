-- What a call answers, by how its turn began.
use Rattle.std.proofs.Common.{◌≡◌, ℕ, List, [], ◌∷◌, ◌++◌, ap, ◌∙◌, inl, inr}
use Rattle.std.specs.Prelude.{Err}
use Rattle.update_log.specs.declared.event.Event.{Event}
use Rattle.daemon_core.specs.HouseLog.{Appended, Entered, Unchanged, roomier}
use Rattle.daemon_core.specs.Housed.{HouseLogView}
use Rattle.daemon_core.specs.Turns.{Turned}
use Rattle.daemon_core.specs.declared.stop.Stop.{Stop}

-- More room is no change of the facts and the log.
pub roomier-same : (old new : HouseLogView) → new ≡ roomier old new → Unchanged old new
roomier-same old new e =
    record {
      same = record {
        facts = ap (λ (a : HouseLogView). a.facts) e;
        first = ap (λ (a : HouseLogView). a.first) e;
        opening = ap (λ (a : HouseLogView). a.opening) e;
        loaded = ap (λ (a : HouseLogView). a.loaded) e;
        reopened = ap (λ (a : HouseLogView). a.reopened) e;
      };
      log = ap (λ (a : HouseLogView). a.core.log) e;
      makers = ap (λ (a : HouseLogView). a.makers) e;
    }

pub same-unchanged : (old new : HouseLogView) → new ≡ old → Unchanged old new
same-unchanged old new e =
    record {
      same = record {
        facts = ap (λ (a : HouseLogView). a.facts) e;
        first = ap (λ (a : HouseLogView). a.first) e;
        opening = ap (λ (a : HouseLogView). a.opening) e;
        loaded = ap (λ (a : HouseLogView). a.loaded) e;
        reopened = ap (λ (a : HouseLogView). a.reopened) e;
      };
      log = ap (λ (a : HouseLogView). a.core.log) e;
      makers = ap (λ (a : HouseLogView). a.makers) e;
    }

-- Two that changed nothing, one after the other.
pub unchanged-on : (old mid new : HouseLogView) → Unchanged old mid → Unchanged mid new → Unchanged old new
unchanged-on old mid new u v =
    record {
      same = record {
        facts = v.same.facts ∙ u.same.facts;
        first = v.same.first ∙ u.same.first;
        opening = v.same.opening ∙ u.same.opening;
        loaded = v.same.loaded ∙ u.same.loaded;
        reopened = v.same.reopened ∙ u.same.reopened;
      };
      log = v.log ∙ u.log;
      makers = v.makers ∙ u.makers;
    }

-- A turn that didn't begin.
pub stopped : (A : Type 0) {B : Type 0} (client events : ℕ) (event : B → Event) (stop : Stop) (old new : HouseLogView) → Entered {A = A} client events (Err stop) old new → Turned client event (Err stop) old new
stopped A client events event Stop.Off old new (inl e) = inl (e.0, same-unchanged old new e.1)
stopped A client events event Stop.Off old new (inr e) = inr (e.0, e.2)
stopped A client events event Stop.NoMemory old new e = (e.0, roomier-same old new e.1)

-- What was put behind the log after it began.
pub unchanged-appended : (client : ℕ) (event : Event) (old mid new : HouseLogView) → Unchanged old mid → Appended client event mid new → Appended client event old new
unchanged-appended client event old mid new u a =
    record {
      same = record {
        facts = a.same.facts ∙ u.same.facts;
        first = a.same.first ∙ u.same.first;
        opening = a.same.opening ∙ u.same.opening;
        loaded = a.same.loaded ∙ u.same.loaded;
        reopened = a.same.reopened ∙ u.same.reopened;
      };
      log = a.log ∙ ap (λ (l : List Event). l ++ event ∷ []) u.log;
      makers = a.makers ∙ ap (λ (l : List ℕ). l ++ client ∷ []) u.makers;
    }
