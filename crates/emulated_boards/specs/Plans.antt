-- Planned faults: which call of a board has which fault.
use Rattle.std.specs.Prelude.{ℕ, ◌==◌, nat_le, List, ◌∷◌, map, Option, find, count_by}
use Rattle.std.specs.List.Sorted.{IsStrictlyIncreasing}
use Rattle.std.specs.Option.{option_map}
use Rattle.emulated_boards.specs.declared.fault.BoardFault.{BoardFault}
use Rattle.emulated_boards.specs.declared.fault.PlannedFault.{PlannedFault}

-- a plan names calls from 1 on, in their order, each once
abbrev pub IsPlan : List PlannedFault → Type 0
IsPlan plan = IsStrictlyIncreasing (0 ∷ map (λ next. next.call) plan)

-- the fault that the plan names for this call
abbrev pub planned : List PlannedFault → ℕ → Option BoardFault
planned plan call = option_map (λ next. next.fault) (find (λ next. next.call == call) plan)

-- how many faults were met: those that are planned for the calls so far
abbrev pub fault_count : List PlannedFault → ℕ → ℕ
fault_count plan calls = count_by (λ next. nat_le next.call calls) plan
