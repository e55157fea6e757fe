-- How the shelves stand to the log of a campaign.
use Rattle.std.proofs.Common.{◌≡◌, ◌⊎◌, ℕ, ◌≤◌, ◌+◌, ◌-◌, ◌^◌, List, [], ap, inl, inr, arith}
use Rattle.std.specs.Prelude.{min}
use Rattle.update_log.specs.declared.event.Event.{Event}
use Rattle.update_log.specs.Pasts.{past_of}
use Rattle.daemon_core.specs.Housed.{Housed, past}
use Rattle.client_plays.specs.Faults.{ShelvesCount, shelf_faults}
use Rattle.client_plays.specs.Tools.{ShelfTold, ShelvesStay}
use Rattle.fwupd_service.specs.Campaigns.{ShelvesStand}

rose-by : (most before told was is : ℕ) → before ≡ 0 → (told + was ≤ before + is) ⊎ (most ≤ is) → min (was + told) most ≤ is
rose-by most before told was is z (inl l) = omega arith
rose-by most before told was is z (inr l) = omega arith

-- The house was new, so the log tells what was counted since.
pub shelves-stand : {K : Type 0} (old new : Housed K) (was now : List ShelfTold) → old.house_log.core.log ≡ [] → ShelvesStay was now → ShelvesCount (past old) (past new) was now → ShelvesStand new.house_log.core.log was now
shelves-stand old new was now n s c =
    record {
      stay = s;
      counted = λ place w i a b.
          let none : shelf_faults place (past old) ≡ 0 = ap (λ (log : List Event). shelf_faults place (past_of log)) n in
          rose-by (2 ^ 64 - 1) (shelf_faults place (past old)) (shelf_faults place (past new)) w.faults i.faults none (c place w i a b);
    }
