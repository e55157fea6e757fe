-- What came from the source, and the site that it states.
use Rattle.std.specs.Prelude.{◌≡◌, ℕ, ◌<◌, ◌≤◌, List, length, Option, Result, Ok, Err}
use Rattle.outer_traits.specs.Sources.{Came, AtEnd}
use Rattle.site_types.specs.declared.site.Site.{Site}
use Rattle.site_files.specs.Sites.{site_of}
use Rattle.site_files.specs.Told.{in_words}
use Rattle.site_files.specs.declared.fault.SiteFault.{SiteFault}
use Rattle.site_files.specs.declared.fault.SiteFault.TheVariants as told
use Rattle.campaign_inputs.specs.declared.input.InputStop.{InputStop}
use Rattle.campaign_inputs.specs.declared.input.InputStop.TheVariants as stops

-- the most bytes of a document
abbrev pub document_max : ℕ
document_max = 16777216

-- the site that bytes state, or their first fault with its place in words
abbrev pub stated : List ℕ → Result Site SiteFault
stated bytes = in_words (site_of bytes)

-- the bytes are all of the input, and not too many
pub record WasRead (bytes : List ℕ) (left : Option (List ℕ)) : Type 0 where
  pub within : length bytes ≤ document_max
  pub ended : AtEnd left

-- the answer is the site that is stated or its first fault, unless there was no memory
abbrev pub TellsSite : Result Site SiteFault → Result Site InputStop → Type 0
TellsSite stated (Ok site) = stated ≡ Ok site
TellsSite stated (Err stops.SourceFault) = ⊥
TellsSite stated (Err stops.TooLong) = ⊥
TellsSite stated (Err (stops.Document place reason)) = stated ≡ Err (told.Document place reason)
TellsSite stated (Err stops.NoMemory) = Unit {0}

-- what the answer says of the bytes that came, and of what the source has left
abbrev pub Heard : Result Site InputStop → List ℕ → Option (List ℕ) → Type 0
Heard (Ok site) bytes left = WasRead bytes left × (stated bytes ≡ Ok site)
Heard (Err stops.SourceFault) bytes left = Unit {0}
Heard (Err stops.TooLong) bytes left = document_max < length bytes
Heard (Err (stops.Document place reason)) bytes left = WasRead bytes left × (stated bytes ≡ Err (told.Document place reason))
Heard (Err stops.NoMemory) bytes left = Unit {0}

-- these bytes came from the source, and the answer says so of them
pub record HeardInput (answer : Result Site InputStop) (old new : Option (List ℕ)) : Type 0 where
  pub bytes : List ℕ
  pub came : Came bytes old new
  pub heard : Heard answer bytes new
