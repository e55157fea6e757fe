-- How far a claim in each state has come.
use Rattle.std.specs.Prelude.{◌≡◌, ℕ, ◌≤◌, ◌<◌, Option, Some, None, length}
use Rattle.emulated_boards.specs.Conditions.{view_of}
use Rattle.update_log.specs.declared.event.Op.{Op}
use Rattle.update_log.specs.declared.trace.Trace.{Trace}
use Rattle.device_claims.specs.declared.claim.Parts.{Parts}
use Rattle.update_log.specs.Steps.{last_seen, next_step, op_number}
use Rattle.device_claims.specs.Limits.{Limits}

-- The step is the next one of the entry.
abbrev pub IsNext : Op → Trace → Type 0
IsNext op trace = next_step trace ≡ Some op

-- The number of a step that may come next; 7 where none does.
abbrev pub number_or_end : Option Op → ℕ
number_or_end (Some op) = op_number op
number_or_end None = 7

-- A claim in a state: it made at most so many steps and has room for so many marks, its next step is
-- one of those, and what its last step saw is what the board shows.
pub record Stands (limits : Limits) (parts : Parts) : Type 0 where
  pub few : length parts.trace.steps ≤ limits.most
  pub room : limits.room ≤ parts.board.room
  pub earliest : limits.earliest ≤ number_or_end (next_step parts.trace)
  pub latest : number_or_end (next_step parts.trace) ≤ limits.latest
  pub shown : 0 < length parts.trace.steps → last_seen parts.trace.steps ≡ view_of parts.board.condition
