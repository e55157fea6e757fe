-- That `check`, `remotes`, `explain` and `ids` print where nothing keeps them from it.
use Rattle.std.proofs.Common.{ℕ, List, sym, subst, inl, inr}
use Rattle.std.specs.Prelude.{Option}
use Rattle.fw_facts.specs.declared.machine.MachineFacts.{MachineFacts}
use Rattle.outer_traits.specs.Sinks.{Took}
use Rattle.plugin_order.specs.Arranged.{CanBeArranged}
use Rattle.plugin_order.specs.declared.sheet.PluginSheet.{PluginSheet}
use Rattle.update_log.specs.declared.facts.PluginVetoes.{PluginVetoes}
use Rattle.site_types.specs.declared.site.Site.{Site}
use Rattle.campaign_inputs.specs.declared.opening.ClientLimit.TheVariants as limits
use Rattle.command_outputs.specs.Printed.{ids_output}
use Rattle.document_commands.specs.declared.ended.Ended.{Ended}
use Rattle.document_commands.specs.declared.ended.Ended.TheVariants as ends
use Rattle.document_commands.specs.Ends.{DocumentEnds, checked, remotes_told}
use Rattle.document_commands.specs.Explains.{ExplainEnds}
use Rattle.run_status.specs.declared.status.Status.{Status}
use Rattle.run_status.specs.declared.status.Status.TheVariants as statuses
use Rattle.fwupd_service.specs.Commands.{Checked, Explained, Identified, RemotesTold, Written, ended_status}
use Rattle.fwupd_service.specs.Complete.{InputGave, SiteExplained, WorkDone}
use Rattle.fwupd_service.specs.Tops.{Left}
use Rattle.fwupd_service.specs.Worlds.{World}
use Rattle.fwupd_service.proofs.Completing.{arranged-well}

-- ---- `check` and `remotes`

-- A text of the site alone was printed.
of-site : (text : Site → List ℕ) (ended : Ended) (old new before after : Option (List ℕ)) → DocumentEnds text ended old new before after
    → InputGave limits.Any (ended_status ended) old new (λ site. WorkDone (Took (text site) before after) (ended_status ended))
of-site text ends.Done old new before after d =
    record {
      bytes = d.bytes;
      came = d.came;
      gave = inl (record { site = d.ends.site; read = d.ends.states.read; states = d.ends.states.stated; allowed = tt; done = d.ends.took });
    }
of-site text ends.SinkFault old new before after d =
    record {
      bytes = d.bytes;
      came = d.came;
      gave = inl (record { site = d.ends.site; read = d.ends.states.read; states = d.ends.states.stated; allowed = tt; done = tt });
    }
of-site text ends.TooLong old new before after d = record { bytes = d.bytes; came = d.came; gave = inr d.ends.more }
of-site text (ends.Document place reason) old new before after d =
    record { bytes = d.bytes; came = d.came; gave = inr (record { read = d.ends.read; stated = d.ends.stated }) }
of-site text (ends.Plugins fault) old new before after d = absurd d.ends
of-site text ends.SourceFault old new before after d = record { bytes = d.bytes; came = d.came; gave = inr tt }
of-site text ends.NoMemory old new before after d = record { bytes = d.bytes; came = d.came; gave = inr tt }

module _ {K : Type 0} where
  pub check-complete : (status : Status) (keeper : K) (left : Left K) (before after : World) → Checked status keeper left before after
      → InputGave limits.Any status before.unread after.unread (λ site. WorkDone (Took (checked site) before.written after.written) status)
  check-complete status keeper left before after c =
      subst (λ (s : Status). InputGave limits.Any s before.unread after.unread (λ site. WorkDone (Took (checked site) before.written after.written) s)) (sym c.status_is)
      (of-site checked c.ended before.unread after.unread before.written after.written c.ends)

  pub remotes-complete : (status : Status) (keeper : K) (left : Left K) (before after : World) → RemotesTold status keeper left before after
      → InputGave limits.Any status before.unread after.unread (λ site. WorkDone (Took (remotes_told site) before.written after.written) status)
  remotes-complete status keeper left before after c =
      subst (λ (s : Status). InputGave limits.Any s before.unread after.unread (λ site. WorkDone (Took (remotes_told site) before.written after.written) s)) (sym c.status_is)
      (of-site remotes_told c.ended before.unread after.unread before.written after.written c.ends)

-- ---- `explain`

of-install : (sheets : List PluginSheet) (vetoes : MachineFacts → List PluginVetoes) (port version : List ℕ) (ended : Ended) (old new before after : Option (List ℕ)) → ExplainEnds sheets vetoes port version ended old new before after → CanBeArranged sheets
    → InputGave limits.Any (ended_status ended) old new (λ site. WorkDone (SiteExplained sheets vetoes port version site before after) (ended_status ended))
of-install sheets vetoes port version ends.Done old new before after d can =
    record {
      bytes = d.bytes;
      came = d.came;
      gave =
          inl (record {
            site = d.ends.explains.site;
            read = d.ends.explains.states.read;
            states = d.ends.explains.states.stated;
            allowed = tt;
            done =
                record {
                  campaign = d.ends.explains.campaign;
                  settled = d.ends.explains.settled;
                  printed = subst (λ (text : List ℕ). Took text before after) d.ends.explains.text_is d.ends.took;
                };
          });
    }
of-install sheets vetoes port version ends.SinkFault old new before after d can =
    record {
      bytes = d.bytes;
      came = d.came;
      gave = inl (record { site = d.ends.explains.site; read = d.ends.explains.states.read; states = d.ends.explains.states.stated; allowed = tt; done = tt });
    }
of-install sheets vetoes port version ends.TooLong old new before after d can = record { bytes = d.bytes; came = d.came; gave = inr d.ends.0 }
of-install sheets vetoes port version (ends.Document place reason) old new before after d can = record { bytes = d.bytes; came = d.came; gave = inr d.ends.0 }
of-install sheets vetoes port version (ends.Plugins fault) old new before after d can = absurd (arranged-well sheets fault can d.ends.0.cause)
of-install sheets vetoes port version ends.SourceFault old new before after d can = record { bytes = d.bytes; came = d.came; gave = inr tt }
of-install sheets vetoes port version ends.NoMemory old new before after d can = record { bytes = d.bytes; came = d.came; gave = inr tt }

module _ {K : Type 0} where
  pub explain-complete : (sheets : List PluginSheet) (vetoes : MachineFacts → List PluginVetoes) (port version : List ℕ) (status : Status) (keeper : K) (left : Left K) (before after : World)
      → Explained sheets vetoes port version status keeper left before after → CanBeArranged sheets
      → InputGave limits.Any status before.unread after.unread (λ site. WorkDone (SiteExplained sheets vetoes port version site before.written after.written) status)
  explain-complete sheets vetoes port version status keeper left before after c can =
      subst (λ (s : Status). InputGave limits.Any s before.unread after.unread (λ site. WorkDone (SiteExplained sheets vetoes port version site before.written after.written) s)) (sym c.status_is)
      (of-install sheets vetoes port version c.ended before.unread after.unread before.written after.written c.ends can)

-- ---- `ids`

written-whole : (text : List ℕ) (status : Status) (before after : Option (List ℕ)) → Written text status before after → WorkDone (Took text before after) status
written-whole text statuses.Done before after w = w
written-whole text statuses.SinkFault before after w = tt
written-whole text statuses.NoMemory before after w = tt
written-whole text _ before after w = absurd w

module _ {K : Type 0} where
  pub ids-complete : (texts : List (List ℕ)) (status : Status) (keeper : K) (left : Left K) (before after : World) → Identified texts status keeper left before after
      → WorkDone (Took (ids_output texts) before.written after.written) status
  ids-complete texts status keeper left before after i = written-whole (ids_output texts) status before.written after.written i.written
