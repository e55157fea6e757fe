-- How `check` and `remotes` end.
use Rattle.std.specs.Prelude.{◌≡◌, ℕ, ◌<◌, List, [], ◌∷◌, length, Option, Ok, Err}
use Rattle.outer_traits.specs.Sources.{Came}
use Rattle.outer_traits.specs.Sinks.{Took, TookFront}
use Rattle.site_types.specs.declared.site.Site.{Site}
use Rattle.release_catalogue.specs.declared.place.Place.{Place}
use Rattle.release_catalogue.specs.declared.reason.Reason.{Reason}
use Rattle.site_files.specs.declared.fault.SiteFault.TheVariants as told
use Rattle.command_outputs.specs.declared.check.Sections.{Sections}
use Rattle.release_catalogue.specs.Components.{releases_in}
use Rattle.site_remotes.specs.declared.told.SiteRemote.{SiteRemote}
use Rattle.command_outputs.specs.Printed.{check_output, remotes_output}
use Rattle.document_commands.specs.declared.ended.Ended.{Ended}
use Rattle.document_commands.specs.declared.ended.Ended.TheVariants as ends
use Rattle.campaign_inputs.specs.Inputs.{WasRead, document_max, stated}

-- how many components the first remote has, which is the section `components`
abbrev pub own_components : List SiteRemote → ℕ
own_components [] = 0
own_components (own ∷ remotes) = own.components

-- how many entries the sections of a site have
abbrev pub sections_of : Site → Sections
sections_of site = record {
  boards = length site.boards;
  components = own_components site.remotes;
  clients = length site.features;
  boots = length site.boots;
}

-- what `check` prints of a site, and what `remotes` does
abbrev pub checked : Site → List ℕ
checked site = check_output (sections_of site)

abbrev pub remotes_told : Site → List ℕ
remotes_told site = remotes_output site.remotes (releases_in site.catalogue)

-- all of the input came, and states this site
pub record States (bytes : List ℕ) (left : Option (List ℕ)) (site : Site) : Type 0 where
  pub read : WasRead bytes left
  pub stated : stated bytes ≡ Ok site

-- the sink took the whole text of such a site, or a front of it
pub record Printed (text : Site → List ℕ) (bytes : List ℕ) (left before after : Option (List ℕ)) : Type 0 where
  pub site : Site
  pub states : States bytes left site
  pub took : Took (text site) before after

pub record PrintedFront (text : Site → List ℕ) (bytes : List ℕ) (left before after : Option (List ℕ)) : Type 0 where
  pub site : Site
  pub states : States bytes left site
  pub took : TookFront (text site) before after

-- the input came whole, its first fault is told, and nothing was printed
pub record IsNoDocument (bytes : List ℕ) (left before after : Option (List ℕ)) (place : Place) (reason : Reason) : Type 0 where
  pub read : WasRead bytes left
  pub stated : stated bytes ≡ Err (told.Document place reason)
  pub nothing : after ≡ before

-- more came than a document has, and nothing was printed
pub record IsTooLong (bytes : List ℕ) (before after : Option (List ℕ)) : Type 0 where
  pub more : document_max < length bytes
  pub nothing : after ≡ before

-- what an end says of the bytes that came, of what the source has left, and of what the sink took
abbrev pub Ends : (Site → List ℕ) → Ended → List ℕ → Option (List ℕ) → Option (List ℕ) → Option (List ℕ) → Type 0
Ends text ends.Done bytes left before after = Printed text bytes left before after
Ends text ends.SourceFault bytes left before after = after ≡ before
Ends text ends.TooLong bytes left before after = IsTooLong bytes before after
Ends text (ends.Document place reason) bytes left before after = IsNoDocument bytes left before after place reason
Ends text (ends.Plugins fault) bytes left before after = ⊥
Ends text ends.SinkFault bytes left before after = PrintedFront text bytes left before after
Ends text ends.NoMemory bytes left before after = after ≡ before

-- these bytes came from the source, and the end says so of them
pub record DocumentEnds (text : Site → List ℕ) (ended : Ended) (old new before after : Option (List ℕ)) : Type 0 where
  pub bytes : List ℕ
  pub came : Came bytes old new
  pub ends : Ends text ended bytes new before after

abbrev pub CheckEnds : Ended → Option (List ℕ) → Option (List ℕ) → Option (List ℕ) → Option (List ℕ) → Type 0
CheckEnds ended old new before after = DocumentEnds checked ended old new before after

abbrev pub RemotesEnds : Ended → Option (List ℕ) → Option (List ℕ) → Option (List ℕ) → Option (List ℕ) → Type 0
RemotesEnds ended old new before after = DocumentEnds remotes_told ended old new before after

-- how printing a text ends
abbrev pub PrintedOr : List ℕ → Ended → Option (List ℕ) → Option (List ℕ) → Type 0
PrintedOr text ends.Done before after = Took text before after
PrintedOr text ends.SinkFault before after = TookFront text before after
PrintedOr text ends.NoMemory before after = after ≡ before
PrintedOr text _ before after = ⊥
