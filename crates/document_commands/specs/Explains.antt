-- How `explain` ends.
use Rattle.std.specs.Prelude.{◌≡◌, ℕ, ◌<◌, List, [], ◌∷◌, length, map, Option, None}
use Rattle.outer_traits.specs.Sources.{Came}
use Rattle.outer_traits.specs.Sinks.{Took, TookFront}
use Rattle.fw_facts.specs.declared.machine.MachineFacts.{MachineFacts}
use Rattle.fw_facts.specs.declared.seen.Seen.{Seen}
use Rattle.plugin_order.specs.declared.sheet.PluginSheet.{PluginSheet}
use Rattle.emulated_boards.specs.Conditions.{fresh, view_of}
use Rattle.emulated_boards.specs.Images.{image_of}
use Rattle.update_log.specs.declared.facts.BootPlan.{BootPlan}
use Rattle.update_log.specs.declared.facts.Facts.{Facts}
use Rattle.update_log.specs.declared.facts.PluginVetoes.{PluginVetoes}
use Rattle.site_types.specs.declared.site.Site.{Site}
use Rattle.site_types.specs.declared.site.SiteBoard.{SiteBoard}
use Rattle.site_types.specs.declared.campaign.Campaign.{Campaign}
use Rattle.campaign_inputs.specs.declared.opening.ClientLimit.TheVariants as limits
use Rattle.campaign_inputs.specs.Inputs.{document_max}
use Rattle.campaign_inputs.specs.Opened.{CantArrange, IsNoDocument, States}
use Rattle.campaign_inputs.specs.Settled.{IsCampaignOf}
use Rattle.command_outputs.specs.Explained.{explained}
use Rattle.first_boots.specs.FirstBoot.{first_boot}
use Rattle.document_commands.specs.declared.ended.Ended.{Ended}
use Rattle.document_commands.specs.declared.ended.Ended.TheVariants as ends

-- What a board of the site shows in its first image.
abbrev pub first_of : SiteBoard → Seen
first_of board = view_of (fresh (image_of board.image))

-- A boot at time 0, without a limit, and with no board absent.
abbrev pub undisturbed : BootPlan
undisturbed = record { time = 0; limit = None; absent = [] }

-- What is printed over these facts, after such a boot of boards that show this: the requirements and the
-- verdict on an ask of client 1.
abbrev pub printed_of : Facts → List Seen → List ℕ → List ℕ → List ℕ
printed_of facts shown port version = explained facts (first_boot undisturbed shown ∷ []) port version

-- These bytes are all of the input, and state a site; the campaign is the site's, with these plugins; and
-- this is what is printed of it.
pub record Explains (sheets : List PluginSheet) (vetoes : MachineFacts → List PluginVetoes) (port version : List ℕ) (bytes : List ℕ) (left : Option (List ℕ)) (text : List ℕ) : Type 0 where
  pub site : Site
  pub states : States bytes left site
  pub campaign : Campaign
  pub settled : IsCampaignOf site sheets (vetoes site.machine) campaign
  pub text_is : text ≡ printed_of campaign.facts (map first_of site.boards) port version

-- The sink took the whole of it, or a front of it.
pub record TookWhole (sheets : List PluginSheet) (vetoes : MachineFacts → List PluginVetoes) (port version : List ℕ) (bytes : List ℕ) (left before after : Option (List ℕ)) : Type 0 where
  pub text : List ℕ
  pub explains : Explains sheets vetoes port version bytes left text
  pub took : Took text before after

pub record TookPart (sheets : List PluginSheet) (vetoes : MachineFacts → List PluginVetoes) (port version : List ℕ) (bytes : List ℕ) (left before after : Option (List ℕ)) : Type 0 where
  pub text : List ℕ
  pub explains : Explains sheets vetoes port version bytes left text
  pub took : TookFront text before after

-- What an end says of the bytes that came, of what the source has left, and of what the sink took.
abbrev pub ExplainEndsSo : List PluginSheet → (MachineFacts → List PluginVetoes) → List ℕ → List ℕ → Ended → List ℕ → Option (List ℕ) → Option (List ℕ) → Option (List ℕ) → Type 0
ExplainEndsSo sheets vetoes port version ends.Done bytes left before after = TookWhole sheets vetoes port version bytes left before after
ExplainEndsSo sheets vetoes port version ends.SourceFault bytes left before after = after ≡ before
ExplainEndsSo sheets vetoes port version ends.TooLong bytes left before after = (document_max < length bytes) × (after ≡ before)
ExplainEndsSo sheets vetoes port version (ends.Document place reason) bytes left before after = IsNoDocument bytes left place reason × (after ≡ before)
ExplainEndsSo sheets vetoes port version (ends.Plugins fault) bytes left before after = CantArrange limits.Any sheets fault bytes left × (after ≡ before)
ExplainEndsSo sheets vetoes port version ends.SinkFault bytes left before after = TookPart sheets vetoes port version bytes left before after
ExplainEndsSo sheets vetoes port version ends.NoMemory bytes left before after = after ≡ before

-- These bytes came from the source, and the end says so of them.
pub record ExplainEnds (sheets : List PluginSheet) (vetoes : MachineFacts → List PluginVetoes) (port version : List ℕ) (ended : Ended) (old new before after : Option (List ℕ)) : Type 0 where
  pub bytes : List ℕ
  pub came : Came bytes old new
  pub ends : ExplainEndsSo sheets vetoes port version ended bytes new before after

-- How printing ends.
abbrev pub TextPrinted : List ℕ → Ended → Option (List ℕ) → Option (List ℕ) → Type 0
TextPrinted text ends.Done before after = Took text before after
TextPrinted text ends.SinkFault before after = TookFront text before after
TextPrinted text ends.NoMemory before after = after ≡ before
TextPrinted text _ before after = ⊥
