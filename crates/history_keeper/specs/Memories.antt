-- A keeper in memory.
use Rattle.std.specs.Prelude.{◌≡◌, ◌==◌, ℕ, Bool, true, false, List, Option, Some, None, find, option_map}
use Rattle.outer_traits.specs.Plans.{one_more}
use Rattle.history_keeper.specs.declared.row.Row.{Row}
use Rattle.history_keeper.specs.declared.change.Change.{Change}
use Rattle.history_keeper.specs.declared.plan.KeeperPlan.{KeeperPlan}
use Rattle.history_keeper.specs.declared.plan.Doubt.{Doubt}
use Rattle.history_keeper.specs.Changes.{changed}

-- Its rows, its doubtful change, the calls that fail, and how many calls and faults there were.
pub record Memory : Type 0 where
  pub rows : List Row
  pub doubt : Option Doubt
  pub plan : List KeeperPlan
  pub calls : ℕ
  pub faults : ℕ

-- A keeper before its first call.
abbrev pub unused : List Row → List KeeperPlan → Memory
unused rows plan = record { rows = rows; doubt = None; plan = plan; calls = 0; faults = 0 }

-- What is planned for the next call: the first in the plan that has its number.
abbrev pub planned : Memory → Option KeeperPlan
planned memory = find (λ plan. plan.call == one_more memory.calls) memory.plan

-- The doubtful change.
abbrev pub doubtful : Memory → Option Change
doubtful memory = option_map (λ doubt. doubt.change) memory.doubt

-- The rows with the doubtful change, where the plan keeps it.
abbrev pub kept : Option Doubt → List Row → List Row
kept None rows = rows
kept (Some doubt) rows = kept_if doubt.keep doubt.change rows
  where
    kept_if : Bool → Change → List Row → List Row
    kept_if true change rows = changed change rows
    kept_if false change rows = rows

-- After a call that did not fail.
abbrev pub after_call : Memory → Memory
after_call memory = record memory { calls = one_more memory.calls }

-- After a call that failed.
abbrev pub after_fault : Memory → Memory
after_fault memory = record memory { calls = one_more memory.calls; faults = one_more memory.faults }

-- It has these rows.
abbrev pub has_rows : Memory → List Row → Type 0
has_rows memory all = memory.rows ≡ all

-- It is what a reopening made of the first: the doubtful change is there where the plan keeps it, and
-- nothing is in doubt.
abbrev pub is_settled : Memory → Memory → Type 0
is_settled first memory = (memory.rows ≡ kept first.doubt first.rows) × (doubtful memory ≡ None)
