-- Boards, and the table of what a step does to one.
use Rattle.std.specs.Prelude.{◌≡◌, ℕ, ◌+◌, ◌-◌, ◌^◌, ◌≤◌, min, Bool, true, false, not, ◌&&◌, is_some, List, [], ◌∷◌, ◌++◌, length, Option, Some, None, Result, Ok, Err, ⊤, if◌then◌else◌}
use Rattle.fw_facts.specs.declared.seen.Mode.{Mode}
use Rattle.fw_facts.specs.declared.seen.Mode.TheVariants.{Runtime, Bootloader}
use Rattle.emulated_boards.specs.declared.fault.BoardFault.{BoardFault}
use Rattle.emulated_boards.specs.declared.fault.BoardFault.TheVariants as faults
use Rattle.emulated_boards.specs.declared.fault.PlannedFault.{PlannedFault}
use Rattle.emulated_boards.specs.declared.image.Image.{Image}
use Rattle.emulated_boards.specs.declared.mark.Mark.{Mark}
use Rattle.emulated_boards.specs.declared.mark.Mark.TheVariants.{Entered, Began, Ended, Left}
use Rattle.emulated_boards.specs.declared.condition.Presence.{Presence}
use Rattle.emulated_boards.specs.declared.condition.Presence.TheVariants as present
use Rattle.emulated_boards.specs.declared.condition.Condition.{Condition}
use Rattle.emulated_boards.specs.Conditions.{away, runs, torn}
use Rattle.emulated_boards.specs.Plans.{planned, fault_count}

-- a board: what it carries and shows, its journal and the room in it, the faults that are planned for
-- it, how many calls were made and how many of them had a fault
pub record BoardState : Type 0 where
  pub condition : Condition
  pub journal : List Mark
  pub room : ℕ
  pub plan : List PlannedFault
  pub calls : ℕ
  pub faults : ℕ
  pub counted : faults ≡ fault_count plan calls

-- ---- the steps

-- what a plugin may do with a board; a write is for an entry, and of an image
pub data Step : Type 0 where
  enter_loader : Step
  program : ℕ → Image → Step
  stage : ℕ → Image → Step
  leave_loader : Step
  look : Step

abbrev pub is_home : Presence → Bool
is_home present.Home = true
is_home present.Gone = false
is_home present.Stranger = false

abbrev pub is_runtime : Mode → Bool
is_runtime Runtime = true
is_runtime Bootloader = false

-- a board at home enters its boot loader from runtime mode
abbrev pub can_enter : Condition → Bool
can_enter it = is_home it.presence && is_runtime it.mode

-- and leaves it for a good image
abbrev pub can_leave : Condition → Bool
can_leave it = is_home it.presence && (not (is_runtime it.mode) && is_some it.image.raw)

-- ---- the table: what a step leaves, without a fault and with each

abbrev pub left_by : Step → Option BoardFault → Condition → Condition
left_by enter_loader None it = if can_enter it then record it { mode = Bootloader } else it
left_by (program entry image) None it = runs image it
left_by (stage entry image) None it = record it { staged = Some image }
left_by leave_loader None it = if can_leave it then record it { mode = Runtime } else it
left_by look None it = it
left_by (program entry image) (Some faults.Failed) it = it
left_by (program entry image) (Some faults.Torn) it = torn it
left_by (program entry image) (Some faults.Gone) it = away faults.Gone (torn it)
left_by (program entry image) (Some faults.Stranger) it = away faults.Stranger (torn it)
left_by step (Some fault) it = away fault it

-- the marks that it adds: of a write both, one where it broke off, none where it failed at once
abbrev pub marks_by : Step → Option BoardFault → Condition → List Mark
marks_by enter_loader None it = if can_enter it then Entered ∷ [] else []
marks_by (program entry image) None it = Began entry ∷ Ended entry image.digest ∷ []
marks_by (stage entry image) None it = Began entry ∷ Ended entry image.digest ∷ []
marks_by leave_loader None it = if can_leave it then Left ∷ [] else []
marks_by look None it = []
marks_by (program entry image) (Some faults.Failed) it = []
marks_by (stage entry image) (Some faults.Failed) it = []
marks_by (program entry image) (Some fault) it = Began entry ∷ []
marks_by (stage entry image) (Some fault) it = Began entry ∷ []
marks_by step (Some fault) it = []

-- a step answers the fault that is planned for this call, and is well without one
abbrev pub answer_by : Option BoardFault → Result ⊤ BoardFault
answer_by None = Ok tt
answer_by (Some fault) = Err fault

-- the number of the next call; it stays at 2^64 - 1, which no plan names
abbrev pub next_call : ℕ → ℕ
next_call calls = min (calls + 1) (2 ^ 64 - 1)

-- the step took the board from old to new, and answered so
pub record BoardStep (old : BoardState) (step : Step) (answer : Result ⊤ BoardFault) (new : BoardState) : Type 0 where
  pub calls : new.calls ≡ next_call old.calls
  pub faults : new.faults ≡ old.faults + (if is_some (planned old.plan new.calls) then 1 else 0)
  pub answers : answer ≡ answer_by (planned old.plan new.calls)
  pub condition : new.condition ≡ left_by step (planned old.plan new.calls) old.condition
  pub journal : new.journal ≡ old.journal ++ marks_by step (planned old.plan new.calls) old.condition
  pub plan : new.plan ≡ old.plan
  pub room : old.room ≤ new.room + length (marks_by step (planned old.plan new.calls) old.condition)

-- ---- beside the steps

-- only what the board carries and shows may have changed
pub record SameRecords (old new : BoardState) : Type 0 where
  pub journal : new.journal ≡ old.journal
  pub room : new.room ≡ old.room
  pub plan : new.plan ≡ old.plan
  pub calls : new.calls ≡ old.calls
  pub faults : new.faults ≡ old.faults

-- only the room for marks may have changed
pub record SameBoard (old new : BoardState) : Type 0 where
  pub condition : new.condition ≡ old.condition
  pub journal : new.journal ≡ old.journal
  pub plan : new.plan ≡ old.plan
  pub calls : new.calls ≡ old.calls
  pub faults : new.faults ≡ old.faults
