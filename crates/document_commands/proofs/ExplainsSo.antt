-- How `explain` ends, from what was opened and what was printed.
use Rattle.std.proofs.Common.{◌≡◌, ℕ, List, [], ◌∷◌, Option, map, refl, sym, ap, ◌∙◌}
use Rattle.std.specs.Prelude.{All}
use Rattle.std.proofs.lemmas.List.Elements.{All-weaker}
use Rattle.update_log.specs.declared.event.Event.{Event}
use Rattle.update_log.specs.declared.facts.BootPlan.{BootPlan}
use Rattle.update_log.specs.declared.facts.Facts.{Facts}
use Rattle.update_log.specs.Pasts.{past_of}
use Rattle.campaign_inputs.specs.Begin.{IsAsMade}
use Rattle.command_outputs.specs.Explained.{explained}
use Rattle.fw_facts.specs.declared.machine.MachineFacts.{MachineFacts}
use Rattle.fw_facts.specs.declared.seen.Seen.{Seen}
use Rattle.plugin_order.specs.declared.sheet.PluginSheet.{PluginSheet}
use Rattle.emulated_boards.specs.Boards.{BoardState}
use Rattle.emulated_boards.specs.Conditions.{view_of}
use Rattle.update_log.specs.declared.facts.PluginVetoes.{PluginVetoes}
use Rattle.site_types.specs.declared.campaign.Campaign.{Campaign}
use Rattle.site_types.specs.declared.site.SiteBoard.{SiteBoard}
use Rattle.site_making.specs.Settled.{Start, new_board, start_of}
use Rattle.campaign_inputs.specs.declared.opening.ClientLimit.TheVariants as limits
use Rattle.campaign_inputs.specs.declared.opening.OpenStop.{OpenStop}
use Rattle.campaign_inputs.specs.declared.opening.OpenStop.TheVariants as stops
use Rattle.campaign_inputs.specs.Opened.{HasStopped, IsOpened, StopsAt}
use Rattle.first_boots.specs.FirstBoot.{IsAsMade as IsFresh, first_boot, shown_by}
use Rattle.document_commands.specs.declared.ended.Ended.{Ended}
use Rattle.document_commands.specs.declared.ended.Ended.TheVariants as ends
use Rattle.document_commands.specs.Explains.{ExplainEnds, ExplainEndsSo, Explains, TextPrinted, first_of, printed_of, undisturbed}
use Rattle.document_commands.specs.Stops.{IsOfAny, told_stop}

-- new boards show what the site's first images do
shown_first : (boards : List BoardState) (site_boards : List SiteBoard) → map start_of boards ≡ map new_board site_boards → map shown_by boards ≡ map first_of site_boards
shown_first boards site_boards e =
    seen_of boards ∙ ap (map (λ (s : Start). view_of s.condition)) e ∙ sym (first_seen site_boards)
  where
    seen_of : (bs : List BoardState) → map shown_by bs ≡ map (λ (s : Start). view_of s.condition) (map start_of bs)
    seen_of [] = refl
    seen_of (b ∷ bs) = ap (λ (xs : List Seen). shown_by b ∷ xs) (seen_of bs)

    first_seen : (bs : List SiteBoard) → map first_of bs ≡ map (λ (s : Start). view_of s.condition) (map new_board bs)
    first_seen [] = refl
    first_seen (b ∷ bs) = ap (λ (xs : List Seen). first_of b ∷ xs) (first_seen bs)

-- the campaign was opened, and printed
pub ends_printed : (sheets : List PluginSheet) (vetoes : MachineFacts → List PluginVetoes) (port version : List ℕ) (ended : Ended) (campaign : Campaign) (old new before after : Option (List ℕ))
    → IsOpened limits.Any sheets vetoes old new campaign
    → TextPrinted (printed_of campaign.facts (map shown_by campaign.boards.items) port version) ended before after
    → ExplainEnds sheets vetoes port version ended old new before after
ends_printed sheets vetoes port version ended campaign old new before after opened printed =
    record { bytes = opened.bytes; came = opened.came; ends = so ended printed } where
      whole : List ℕ
      whole = printed_of campaign.facts (map shown_by campaign.boards.items) port version

      explains : Explains sheets vetoes port version opened.bytes new whole
      explains = record {
        site = opened.site;
        states = opened.states;
        campaign = campaign;
        settled = opened.settled;
        text_is = ap (λ (shown : List Seen). printed_of campaign.facts shown port version) (shown_first campaign.boards.items opened.site.boards opened.settled.boards);
      }

      so : (e : Ended) → TextPrinted whole e before after → ExplainEndsSo sheets vetoes port version e opened.bytes new before after
      so ends.Done p = record { text = whole; explains = explains; took = p }
      so ends.SinkFault p = record { text = whole; explains = explains; took = p }
      so ends.NoMemory p = p
      so _ p = absurd p

-- no campaign was opened
pub ends_stopped : (sheets : List PluginSheet) (vetoes : MachineFacts → List PluginVetoes) (port version : List ℕ) (stop : OpenStop) (old new before : Option (List ℕ))
    → HasStopped limits.Any sheets stop old new → ExplainEnds sheets vetoes port version (told_stop stop) old new before before
ends_stopped sheets vetoes port version stop old new before h =
    record { bytes = h.bytes; came = h.came; ends = so stop h.stops } where
      so : (s : OpenStop) → StopsAt limits.Any sheets s h.bytes new → ExplainEndsSo sheets vetoes port version (told_stop s) h.bytes new before before
      so stops.SourceFault p = refl
      so stops.TooLong p = (p, refl)
      so (stops.Document place reason) p = (p, refl)
      so (stops.TooManyClients asked shelves) p = refl
      so (stops.Plugins fault) p = (p, refl)
      so stops.NoMemory p = refl

pub of_any : (sheets : List PluginSheet) (stop : OpenStop) (old new : Option (List ℕ)) → HasStopped limits.Any sheets stop old new → IsOfAny stop
of_any sheets stop old new h = so stop h.stops where
  so : (s : OpenStop) → StopsAt limits.Any sheets s h.bytes new → IsOfAny s
  so stops.SourceFault p = tt
  so stops.TooLong p = tt
  so (stops.Document place reason) p = tt
  so (stops.TooManyClients asked shelves) p = absurd p.passed
  so (stops.Plugins fault) p = tt
  so stops.NoMemory p = tt

-- only a fault of the source is told as one, and none as a fault of the sink
pub source_told : (stop : OpenStop) → told_stop stop ≡ ends.SourceFault → stop ≡ stops.SourceFault
source_told stops.SourceFault e = refl
source_told _ e = cc

pub no_sink_told : (stop : OpenStop) → told_stop stop ≡ ends.SinkFault → ⊥
no_sink_told stops.SourceFault e = cc
no_sink_told _ e = cc

-- boards that are as made are so for the first boot, and the text is that of this boot
pub as_made : (boards : List BoardState) → All IsAsMade boards → All IsFresh boards
as_made boards all = All-weaker IsAsMade IsFresh (λ b h. (h.image, h.condition)) boards all

pub printed_text : (facts : Facts) (boot : BootPlan) (log : List Event) (boards same : List BoardState) (port version : List ℕ) → boot ≡ undisturbed → log ≡ first_boot boot (map shown_by same) ∷ [] → same ≡ boards
    → explained facts (past_of log) port version ≡ printed_of facts (map shown_by boards) port version
printed_text facts boot log boards same port version u l b = rw (l, b, u) refl
