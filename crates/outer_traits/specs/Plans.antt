-- What an object in memory is: its bytes, and which of its calls fail.
use Rattle.std.specs.Prelude.{ℕ, ◌+◌, ◌-◌, ◌^◌, min, List, Contains}

-- The numbers of the calls that fail, from 1; how many calls there were, and how many of them failed.
pub record Plan : Type 0 where
  pub failing : List ℕ
  pub calls : ℕ
  pub faults : ℕ

-- A plan before its first call.
abbrev pub fresh : List ℕ → Plan
fresh failing = record { failing = failing; calls = 0; faults = 0 }

-- One more, up to the end of a count.
abbrev pub one_more : ℕ → ℕ
one_more n = min (n + 1) (2 ^ 64 - 1)

-- The next call is one of those that fail.
abbrev pub FailsNext : Plan → Type 0
FailsNext plan = Contains plan.failing (one_more plan.calls)

-- The plan after a call that did not fail.
abbrev pub after_call : Plan → Plan
after_call plan = record plan { calls = one_more plan.calls }

-- The plan after a call that failed.
abbrev pub after_fault : Plan → Plan
after_fault plan = record plan { calls = one_more plan.calls; faults = one_more plan.faults }

-- A source in memory: the bytes that are left, and the most that one read gives.
pub record MemoryInput : Type 0 where
  pub left : List ℕ
  pub piece : ℕ
  pub plan : Plan

-- A sink in memory: the bytes that it took, and the most that it can hold.
pub record MemoryOutput : Type 0 where
  pub taken : List ℕ
  pub room : ℕ
  pub plan : Plan

-- A shelf in memory: its files.
pub record MemoryFiles : Type 0 where
  pub files : List (List ℕ × List ℕ)
  pub plan : Plan
