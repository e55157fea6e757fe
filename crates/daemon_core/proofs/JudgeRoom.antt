-- A judgement for which room was made first.
use Rattle.std.proofs.Common.{◌≡◌, ℕ, ap, sym, ◌∙◌, subst, inl, inr}
use Rattle.std.specs.Prelude.{IsSome, Result, Ok, Err}
use Rattle.update_log.specs.declared.event.Event.{Event}
use Rattle.update_log.specs.Known.{row_of}
use Rattle.update_log.specs.Pasts.{off}
use Rattle.daemon_core.specs.HouseLog.{Runs, roomier}
use Rattle.daemon_core.specs.Housed.{HouseLogView, past_in}
use Rattle.daemon_core.specs.Judging.{JudgeTurned, standing_of}
use Rattle.daemon_core.specs.Turns.{WentOff}
use Rattle.daemon_core.specs.declared.judged.Judged.{Judged}
use Rattle.daemon_core.specs.declared.stop.Stop.{Stop}
use Rattle.daemon_core.proofs.Answered.{roomier-same, unchanged-appended, unchanged-on}

module _ (old mid : HouseLogView) (e : mid ≡ roomier old mid) where
  -- the boot is off where it was
  pub off-same : off (past_in mid) ≡ off (past_in old)
  off-same = ap (λ (a : HouseLogView). off (past_in a)) e

  -- each row is there, and stands as it stood
  pub row-there : (entry : ℕ) → IsSome (row_of old.core.rows entry) → IsSome (row_of mid.core.rows entry)
  row-there entry h = subst (λ (a : HouseLogView). IsSome (row_of a.core.rows entry)) (sym e) h

  standing-same : (entry : ℕ) → standing_of mid entry ≡ standing_of old entry
  standing-same entry = ap (λ (a : HouseLogView). standing_of a entry) e

  runs-before : Runs mid → Runs old
  runs-before r = let s : Runs (roomier old mid) = subst Runs e r in record { on = s.on; below = s.below }

  went-before : (client : ℕ) (new : HouseLogView) → WentOff client mid new → WentOff client old new
  went-before client new (inl w) = inl (sym off-same ∙ w.0, unchanged-on old mid new (roomier-same old mid e) w.1)
  went-before client new (inr w) = inr (sym off-same ∙ w.0, unchanged-appended client Event.Cut old mid new (roomier-same old mid e) w.1)

  -- so what came of the judgement came of it with the room
  pub judged-after : (client entry : ℕ) (result : Result Judged Stop) (new : HouseLogView) → JudgeTurned client entry result mid new → JudgeTurned client entry result old new
  judged-after client entry (Ok (Judged.Done state stored)) new j = (
    runs-before j.0,
    (j.1.0, sym (standing-same entry) ∙ j.1.1, unchanged-appended client (Event.Judge client entry j.1.0 state stored) old mid new (roomier-same old mid e) j.1.2),
  )
  judged-after client entry (Ok Judged.Absent) new j = (sym off-same ∙ j.0, sym (standing-same entry) ∙ j.1, unchanged-on old mid new (roomier-same old mid e) j.2)
  judged-after client entry (Ok Judged.Waits) new j = (sym off-same ∙ j.0, sym (standing-same entry) ∙ j.1, unchanged-on old mid new (roomier-same old mid e) j.2)
  judged-after client entry (Ok Judged.Settled) new j = (sym off-same ∙ j.0, sym (standing-same entry) ∙ j.1, unchanged-on old mid new (roomier-same old mid e) j.2)
  judged-after client entry (Err Stop.Off) new j = went-before client new j
  judged-after client entry (Err Stop.NoMemory) new j = (sym off-same ∙ j.0, unchanged-on old mid new (roomier-same old mid e) j.1)
