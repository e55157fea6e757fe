-- How `check` and `remotes` end, from what was heard and what was printed.
use Rattle.std.proofs.Common.{◌≡◌, ℕ, List, Option, Ok, Err, refl}
use Rattle.site_types.specs.declared.site.Site.{Site}
use Rattle.document_commands.specs.declared.ended.Ended.{Ended}
use Rattle.document_commands.specs.declared.ended.Ended.TheVariants as ends
use Rattle.campaign_inputs.specs.declared.input.InputStop.{InputStop}
use Rattle.campaign_inputs.specs.declared.input.InputStop.TheVariants as stops
use Rattle.campaign_inputs.specs.Inputs.{HeardInput}
use Rattle.document_commands.specs.Stops.{told_input}
use Rattle.document_commands.specs.Ends.{DocumentEnds, Ends, PrintedOr, States}

-- the site was read, and its text printed
pub ends_printed : (text : Site → List ℕ) (ended : Ended) (site : Site) (old new before after : Option (List ℕ)) → HeardInput (Ok site) old new
    → PrintedOr (text site) ended before after → DocumentEnds text ended old new before after
ends_printed text ended site old new before after heard printed =
    record { bytes = heard.bytes; came = heard.came; ends = so ended printed } where
      states : States heard.bytes new site
      states = record { read = heard.heard.0; stated = heard.heard.1 }

      so : (e : Ended) → PrintedOr (text site) e before after → Ends text e heard.bytes new before after
      so ends.Done p = record { site = site; states = states; took = p }
      so ends.SinkFault p = record { site = site; states = states; took = p }
      so ends.NoMemory p = p
      so _ p = absurd p

-- no site was read, and nothing printed
pub ends_told : (text : Site → List ℕ) (stop : InputStop) (old new before : Option (List ℕ)) → HeardInput (Err stop) old new → DocumentEnds text (told_input stop) old new before before
ends_told text stops.SourceFault old new before heard = record { bytes = heard.bytes; came = heard.came; ends = refl }
ends_told text stops.TooLong old new before heard =
    record { bytes = heard.bytes; came = heard.came; ends = record { more = heard.heard; nothing = refl } }
ends_told text (stops.Document place reason) old new before heard =
    record { bytes = heard.bytes; came = heard.came; ends = record { read = heard.heard.0; stated = heard.heard.1; nothing = refl } }
ends_told text stops.NoMemory old new before heard = record { bytes = heard.bytes; came = heard.came; ends = refl }

-- only a fault of the source is told as one, and none as a fault of the sink
pub source_told : (stop : InputStop) → told_input stop ≡ ends.SourceFault → stop ≡ stops.SourceFault
source_told stops.SourceFault e = refl
source_told _ e = cc

pub no_sink_told : (stop : InputStop) → told_input stop ≡ ends.SinkFault → ⊥
no_sink_told stops.SourceFault e = cc
no_sink_told _ e = cc
