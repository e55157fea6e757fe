-- What a keeper of marks over a database is.
use Rattle.std.specs.Prelude.{◌==◌, ℕ, Bool, List, Option, find, option_map, refl}
use Rattle.std.specs.Coded.{Coded, code_by, coded×, coded_ℕ, coded_bool, coded_list, coded_option}
use Rattle.outer_traits.specs.Plans.{one_more}
use Rattle.history_keeper.specs.declared.plan.KeeperPlan.{KeeperPlan}
use Rattle.history_keeper.specs.contracts.plan.KeeperPlan as keeper_plan
use Rattle.report_queue.specs.declared.memory_marks.DoubtfulMark.{DoubtfulMark}
use Rattle.report_queue.specs.contracts.memory_marks.DoubtfulMark as doubt_of
use Rattle.sqlite.specs.Held.{Held, held_code}

-- Its connection, its doubtful mark, the calls that fail, how many calls and faults there were, and whether it tells
-- its marks.
pub record Keeping (D : Type 0) : Type 0 where
  pub connection : Held D
  pub doubt : Option DoubtfulMark
  pub plan : List KeeperPlan
  pub calls : ℕ
  pub faults : ℕ
  pub tells : Bool

abbrev pub keeping_code : {D : Type 0} → Coded D → Coded (Keeping D)
keeping_code {D} store =
    code_by (Held D × (Option DoubtfulMark × (List KeeperPlan × (ℕ × (ℕ × Bool)))))
    (coded× (held_code store) (coded× (coded_option doubt_of.the_row.coded) (coded× (coded_list keeper_plan.the_row.coded) (coded× coded_ℕ (coded× coded_ℕ coded_bool)))))
    (λ k. (k.connection, (k.doubt, (k.plan, (k.calls, (k.faults, k.tells))))))
    (λ p. record { connection = p.0; doubt = p.1.0; plan = p.1.1.0; calls = p.1.1.1.0; faults = p.1.1.1.1.0; tells = p.1.1.1.1.1 })
    (λ _. refl)

-- What is planned for the next call: the first in the plan that has its number.
abbrev pub planned : {D : Type 0} → Keeping D → Option KeeperPlan
planned keeping = find (λ plan. plan.call == one_more keeping.calls) keeping.plan

-- The keeper after a call that was planned to fail.
abbrev pub after_fault : {D : Type 0} → Keeping D → Keeping D
after_fault keeping = record keeping { calls = one_more keeping.calls; faults = one_more keeping.faults }

-- The doubtful entry.
abbrev pub doubtful : {D : Type 0} → Keeping D → Option ℕ
doubtful keeping = option_map (λ doubt. doubt.entry) keeping.doubt
