-- The steps that a plugin made of an entry, and the events that tell them.
use Rattle.std.specs.Prelude.{◌≡◌, ℕ, Bool, true, false, List, [], ◌∷◌, Option, Some, None, Result, ⊤}
use Rattle.block_pool.specs.Views.{SealedBytes}
use Rattle.fw_facts.specs.declared.seen.Seen.{Seen}
use Rattle.emulated_boards.specs.Boards.{BoardState}
use Rattle.emulated_boards.specs.Conditions.{view_of}
use Rattle.emulated_boards.specs.declared.fault.BoardFault.{BoardFault}
use Rattle.emulated_boards.specs.declared.mark.Mark.{Mark}
use Rattle.plugin_trait.specs.Steps.{PluginSteps}
use Rattle.update_log.specs.declared.event.Event.{Event}
use Rattle.update_log.specs.declared.event.Op.{Op}
use Rattle.device_claims.specs.Claims.{StepGives}

-- A step that was made, as its end tells it.
pub record StepMade : Type 0 where
  pub op : Op
  pub outcome : Result ⊤ BoardFault
  pub told : List Mark
  pub seen : Seen

-- The start and the end of each step, in order.
abbrev pub step_events : ℕ → ℕ → List StepMade → List Event
step_events client entry [] = []
step_events client entry (s ∷ rest) =
    Event.Start client entry s.op ∷ Event.End client entry s.op s.outcome s.told s.seen ∷ step_events client entry rest

-- The start of a step that wasn't ended, where there is one.
abbrev pub start_events : ℕ → ℕ → Option Op → List Event
start_events client entry None = []
start_events client entry (Some op) = Event.Start client entry op ∷ []

-- A cut, where the client met one.
abbrev pub cut_events : Bool → List Event
cut_events true = Event.Cut ∷ []
cut_events false = []

-- A plugin made these steps of an entry, one after the other, with that payload: from the board as it was to the
-- board as it is. The end of each shows the board as its step left it.
abbrev pub AreMade : PluginSteps → ℕ → SealedBytes → BoardState → List StepMade → BoardState → Type 0
AreMade by entry payload was [] is = is ≡ was
AreMade by entry payload was (s ∷ rest) is =
    (next : BoardState) × StepGives by s.op entry payload was s.outcome next × (s.seen ≡ view_of next.condition) × AreMade by entry payload next rest is

-- It made a step more, where one was started, which wasn't ended.
abbrev pub IsBegun : PluginSteps → ℕ → SealedBytes → BoardState → Option Op → Type 0
IsBegun by entry payload board None = Unit {0}
IsBegun by entry payload board (Some op) = (answer : Result ⊤ BoardFault) × (next : BoardState) × StepGives by op entry payload board answer next
