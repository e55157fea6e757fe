-- What is heard of an input, from what came and what it states.
use Rattle.std.proofs.Common.{ℕ, ◌≤◌, List, length, Option, Result, Ok, Err}
use Rattle.std.specs.Prelude.{IfOk}
use Rattle.outer_traits.specs.Sources.{Came, AtEnd, SomeCame, MoreCame}
use Rattle.site_types.specs.declared.site.Site.{Site}
use Rattle.campaign_inputs.specs.declared.input.InputStop.{InputStop}
use Rattle.campaign_inputs.specs.declared.input.InputStop.TheVariants.{SourceFault, TooLong, Document, NoMemory}
use Rattle.campaign_inputs.specs.Limits.{CanBeRun}
use Rattle.campaign_inputs.proofs.ReadSites.{can_be_run}
use Rattle.campaign_inputs.specs.Inputs.{Heard, HeardInput, TellsSite, WasRead, document_max, stated}

heard_so : (r : Result Site InputStop) (bytes : List ℕ) (left : Option (List ℕ)) → WasRead bytes left → TellsSite (stated bytes) r → Heard r bytes left
heard_so (Ok site) bytes left read told = (read, told)
heard_so (Err SourceFault) bytes left read told = tt
heard_so (Err TooLong) bytes left read told = absurd told
heard_so (Err (Document place reason)) bytes left read told = (read, told)
heard_so (Err NoMemory) bytes left read told = tt

-- all of the input came
pub heard_whole : (r : Result Site InputStop) (bytes : List ℕ) (old new : Option (List ℕ)) → Came bytes old new → AtEnd new
    → length bytes ≤ document_max → TellsSite (stated bytes) r → HeardInput r old new
heard_whole r bytes old new came ended within told = record {
  bytes = bytes;
  came = came;
  heard = heard_so r bytes new (record { within = within; ended = ended }) told;
}

-- more came than may come
pub heard_too_long : (old new : Option (List ℕ)) → MoreCame document_max old new → HeardInput (Err TooLong) old new
heard_too_long old new more = record { bytes = more.bytes; came = more.came; heard = more.more }

-- reading stopped before
pub heard_fault : (old new : Option (List ℕ)) → SomeCame old new → HeardInput (Err SourceFault) old new
heard_fault old new some = record { bytes = some.bytes; came = some.came; heard = tt }

pub heard_no_memory : (old new : Option (List ℕ)) → SomeCame old new → HeardInput (Err NoMemory) old new
heard_no_memory old new some = record { bytes = some.bytes; came = some.came; heard = tt }

-- the site that is stated can be run
pub limits_so : (r : Result Site InputStop) (bytes : List ℕ) → TellsSite (stated bytes) r → IfOk r CanBeRun
limits_so (Ok site) bytes told = can_be_run bytes site told
limits_so (Err SourceFault) bytes told = tt
limits_so _ bytes told = tt
