-- What a plugin's steps may do to a board.
use Rattle.std.specs.Prelude.{◌≡◌, ℕ, ◌+◌, ◌≤◌, ◌<◌, ◌⊎◌, List, [], ◌∷◌, ◌++◌, length, Some, None, Result, Ok, ⊤, OnOk, OnErr, IsErr, zero, suc}
use Rattle.block_pool.specs.Views.{SealedBytes}
use Rattle.fw_facts.specs.declared.seen.Mode.{Mode}
use Rattle.fw_facts.specs.declared.seen.Mode.TheVariants.{Runtime, Bootloader}
use Rattle.emulated_boards.specs.declared.fault.BoardFault.{BoardFault}
use Rattle.emulated_boards.specs.declared.image.Image.{Image}
use Rattle.emulated_boards.specs.declared.mark.Mark.{Mark}
use Rattle.emulated_boards.specs.declared.mark.Mark.TheVariants.{Entered, Began, Ended, Left}
use Rattle.emulated_boards.specs.declared.condition.Presence.{Presence}
use Rattle.emulated_boards.specs.declared.condition.Presence.TheVariants.{Home, Gone, Stranger}
use Rattle.emulated_boards.specs.Boards.{BoardState, BoardStep, Step}

-- ---- what every step keeps

-- These board steps, one behind the other, took the board from old to new.
abbrev pub Taken : List Step → BoardState → BoardState → Type 0
Taken [] old new = new ≡ old
Taken (step ∷ steps) old new =
    (between : BoardState) × (answer : Result ⊤ BoardFault) × BoardStep old step answer between × Taken steps between new

-- The board was changed by its own steps alone.
pub record ByBoardSteps (old new : BoardState) : Type 0 where
  pub steps : List Step
  pub taken : Taken steps old new

-- The board itself is not in its port.
abbrev pub IsAway : Presence → Type 0
IsAway Home = ⊥
IsAway Gone = Unit {0}
IsAway Stranger = Unit {0}

-- What every step of a plugin keeps, whatever it does: it answers Ok exactly where no fault of the
-- board rose, the plan of faults stays, and a board leaves its port by a fault alone, and never
-- comes back.
pub record KeepsRules (old : BoardState) (answer : Result ⊤ BoardFault) (new : BoardState) : Type 0 where
  pub by_steps : ByBoardSteps old new
  pub well : OnOk answer (new.faults ≡ old.faults)
  pub failed : OnErr answer (old.faults < new.faults)
  pub plan : new.plan ≡ old.plan
  pub presence : (new.condition.presence ≡ old.condition.presence) ⊎ ((old.faults < new.faults) × IsAway new.condition.presence)

-- ---- what a step leaves: marks, images and the mode

-- The step put these marks behind the others, and took no more room than they need.
pub record Adds (marks : List Mark) (old new : BoardState) : Type 0 where
  pub journal : new.journal ≡ old.journal ++ marks
  pub room : old.room ≤ new.room + length marks

-- The image, and the one that is staged, stay.
pub record KeepsImages (old new : BoardState) : Type 0 where
  pub image : new.condition.image ≡ old.condition.image
  pub staged : new.condition.staged ≡ old.condition.staged

-- No mark: images and mode stay.
pub record Unmarked (old new : BoardState) : Type 0 where
  pub adds : Adds [] old new
  pub images : KeepsImages old new
  pub mode : new.condition.mode ≡ old.condition.mode

-- The boot loader was entered: images stay.
pub record LoaderEntered (old new : BoardState) : Type 0 where
  pub adds : Adds (Entered ∷ []) old new
  pub images : KeepsImages old new
  pub mode : new.condition.mode ≡ Bootloader

-- The boot loader was left: images stay.
pub record LoaderLeft (old new : BoardState) : Type 0 where
  pub adds : Adds (Left ∷ []) old new
  pub images : KeepsImages old new
  pub mode : new.condition.mode ≡ Runtime

-- The mode is as before, or that of the boot loader.
abbrev pub SameOrLoader : Mode → Mode → Type 0
SameOrLoader old new = (new ≡ old) ⊎ (new ≡ Bootloader)

-- A write began, and did not end: the staged image stays, and the image stays or is bad.
pub record WriteBroken (entry : ℕ) (old new : BoardState) : Type 0 where
  pub adds : Adds (Began entry ∷ []) old new
  pub image : (new.condition.image ≡ old.condition.image) ⊎ (new.condition.image.raw ≡ None)
  pub staged : new.condition.staged ≡ old.condition.staged
  pub mode : SameOrLoader old.condition.mode new.condition.mode

-- The payload is the image, and the staged image stays.
pub record Programmed (payload : Image) (old new : BoardState) : Type 0 where
  pub image : new.condition.image ≡ payload
  pub staged : new.condition.staged ≡ old.condition.staged

-- The payload is the staged image, and the image stays.
pub record Staged (payload : Image) (old new : BoardState) : Type 0 where
  pub image : new.condition.image ≡ old.condition.image
  pub staged : new.condition.staged ≡ Some payload

-- A write began and ended: one of the two images is the payload, and the other stays.
pub record WriteWhole (entry : ℕ) (payload : Image) (old new : BoardState) : Type 0 where
  pub adds : Adds (Began entry ∷ Ended entry payload.digest ∷ []) old new
  pub images : Programmed payload old new ⊎ Staged payload old new
  pub mode : SameOrLoader old.condition.mode new.condition.mode

-- ---- the six steps, by what each may leave

-- Prepare, reload and cleanup leave no mark.
pub record Plain (old : BoardState) (answer : Result ⊤ BoardFault) (new : BoardState) : Type 0 where
  pub rules : KeepsRules old answer new
  pub left : Unmarked old new

-- Detach leaves no mark, or that the boot loader was entered.
pub record Detached (old : BoardState) (answer : Result ⊤ BoardFault) (new : BoardState) : Type 0 where
  pub rules : KeepsRules old answer new
  pub left : Unmarked old new ⊎ LoaderEntered old new

-- Attach leaves no mark, or that the boot loader was left.
pub record Attached (old : BoardState) (answer : Result ⊤ BoardFault) (new : BoardState) : Type 0 where
  pub rules : KeepsRules old answer new
  pub left : Unmarked old new ⊎ LoaderLeft old new

-- A write leaves no mark, or that it began, or that it began and ended, and this where it answers Ok.
pub record Written (entry : ℕ) (payload : Image) (old : BoardState) (answer : Result ⊤ BoardFault) (new : BoardState) : Type 0 where
  pub rules : KeepsRules old answer new
  pub left : (Unmarked old new × IsErr answer) ⊎ ((WriteBroken entry old new × IsErr answer) ⊎ WriteWhole entry payload old new)

-- ---- a step that does nothing

-- The board is as it was, and all is well.
pub record Untouched (old : BoardState) (answer : Result ⊤ BoardFault) (new : BoardState) : Type 0 where
  pub board : new ≡ old
  pub well : answer ≡ Ok tt

-- ---- what a plugin tells of itself

-- What each step of a plugin gives: the board before, the answer, and the board after. A write gives it for
-- an entry and a payload.
pub record PluginSteps : Type 1 where
  pub prepare : BoardState → Result ⊤ BoardFault → BoardState → Type 0
  pub detach : BoardState → Result ⊤ BoardFault → BoardState → Type 0
  pub write : ℕ → SealedBytes → BoardState → Result ⊤ BoardFault → BoardState → Type 0
  pub attach : BoardState → Result ⊤ BoardFault → BoardState → Type 0
  pub reload : BoardState → Result ⊤ BoardFault → BoardState → Type 0
  pub cleanup : BoardState → Result ⊤ BoardFault → BoardState → Type 0

-- Those of no plugin: it makes no step.
abbrev pub no_steps : PluginSteps
no_steps =
    record {
      prepare = λ old answer new. ⊥;
      detach = λ old answer new. ⊥;
      write = λ entry payload old answer new. ⊥;
      attach = λ old answer new. ⊥;
      reload = λ old answer new. ⊥;
      cleanup = λ old answer new. ⊥;
    }

-- The steps of the plugin at a place of a list, where there is one.
abbrev pub steps_at : {P : Type 0} → (P → PluginSteps) → List P → ℕ → PluginSteps
steps_at steps [] place = no_steps
steps_at steps (p ∷ plugins) zero = steps p
steps_at steps (p ∷ plugins) (suc place) = steps_at steps plugins place
