-- How a stop of the input or of the opening is told as an end.
use Rattle.campaign_inputs.specs.declared.opening.OpenStop.{OpenStop}
use Rattle.campaign_inputs.specs.declared.opening.OpenStop.TheVariants as stops
use Rattle.campaign_inputs.specs.declared.input.InputStop.{InputStop}
use Rattle.campaign_inputs.specs.declared.input.InputStop.TheVariants as inputs
use Rattle.document_commands.specs.declared.ended.Ended.{Ended}
use Rattle.document_commands.specs.declared.ended.Ended.TheVariants as ends

-- The end of a command that only reads a site.
abbrev pub told_input : InputStop → Ended
told_input inputs.SourceFault = ends.SourceFault
told_input inputs.TooLong = ends.TooLong
told_input (inputs.Document place reason) = ends.Document place reason
told_input inputs.NoMemory = ends.NoMemory

-- The stop may come where any number of clients is allowed.
abbrev pub IsOfAny : OpenStop → Type 0
IsOfAny (stops.TooManyClients asked shelves) = ⊥
IsOfAny _ = Unit {0}

-- The end that it is told as.
abbrev pub told_stop : OpenStop → Ended
told_stop stops.SourceFault = ends.SourceFault
told_stop stops.TooLong = ends.TooLong
told_stop (stops.Document place reason) = ends.Document place reason
told_stop (stops.TooManyClients asked shelves) = ends.NoMemory
told_stop (stops.Plugins fault) = ends.Plugins fault
told_stop stops.NoMemory = ends.NoMemory
