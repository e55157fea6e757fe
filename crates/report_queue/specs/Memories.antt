-- A keeper of marks in memory.
use Rattle.std.specs.Prelude.{◌≡◌, ◌==◌, ℕ, Bool, true, false, List, [], ◌∷◌, ◌++◌, Option, Some, None, find, option_map}
use Rattle.outer_traits.specs.Plans.{one_more}
use Rattle.history_keeper.specs.declared.plan.KeeperPlan.{KeeperPlan}
use Rattle.report_queue.specs.declared.memory_marks.DoubtfulMark.{DoubtfulMark}

-- Its marked entries, its doubtful mark, the calls that fail, and how many calls and faults there were.
pub record MarkMemory : Type 0 where
  pub marks : List ℕ
  pub doubt : Option DoubtfulMark
  pub plan : List KeeperPlan
  pub calls : ℕ
  pub faults : ℕ

-- A keeper before its first call.
abbrev pub unused : List ℕ → List KeeperPlan → MarkMemory
unused marks plan = record { marks = marks; doubt = None; plan = plan; calls = 0; faults = 0 }

-- What is planned for the next call: the first in the plan that has its number.
abbrev pub planned : MarkMemory → Option KeeperPlan
planned memory = find (λ plan. plan.call == one_more memory.calls) memory.plan

-- The doubtful entry.
abbrev pub doubtful : MarkMemory → Option ℕ
doubtful memory = option_map (λ doubt. doubt.entry) memory.doubt

-- The marks with the doubtful one, where the plan keeps it.
abbrev pub kept : Option DoubtfulMark → List ℕ → List ℕ
kept None marks = marks
kept (Some doubt) marks = kept_if doubt.keep doubt.entry marks
  where
    kept_if : Bool → ℕ → List ℕ → List ℕ
    kept_if true entry marks = marks ++ entry ∷ []
    kept_if false entry marks = marks

-- After a call that did not fail.
abbrev pub after_call : MarkMemory → MarkMemory
after_call memory = record memory { calls = one_more memory.calls }

-- After a call that failed.
abbrev pub after_fault : MarkMemory → MarkMemory
after_fault memory = record memory { calls = one_more memory.calls; faults = one_more memory.faults }

-- It has these marks.
abbrev pub has_marks : MarkMemory → List ℕ → Type 0
has_marks memory all = memory.marks ≡ all
