-- The plugins of a campaign.
use Rattle.std.specs.Prelude.{◌≡◌, ℕ, List, map}
use Rattle.fw_facts.specs.declared.machine.MachineFacts.{MachineFacts}
use Rattle.fw_facts.specs.declared.machine.VetoRule.{VetoRule}
use Rattle.plugin_order.specs.declared.sheet.PluginSheet.{PluginSheet}
use Rattle.plugin_trait.specs.Steps.{PluginSteps, steps_at}
use Rattle.update_log.specs.declared.facts.Facts.{Facts}
use Rattle.update_log.specs.declared.facts.PluginVetoes.{PluginVetoes}
use Rattle.site_making.specs.Settled.{vetoes_of}
use Rattle.campaign_inputs.specs.Settled.{AreRunning}

-- What plugins of a kind say of themselves: their sheets, the vetoes that they have, and what their steps give.
pub record PluginWords (Q : Type 0) : Type 1 where
  pub sheet : Q → PluginSheet
  pub vetoes : Q → List VetoRule
  pub steps : Q → PluginSteps

abbrev pub plugin_words : {Q : Type 0} → (Q → PluginSheet) → (Q → List VetoRule) → (Q → PluginSteps) → PluginWords Q
plugin_words sheet vetoes steps = record { sheet = sheet; vetoes = vetoes; steps = steps }

-- The plugins that the program brings: their sheets, the vetoes that they have on a machine, and what plugins of their
-- kind say of themselves.
pub record Plugins (Q : Type 0) : Type 1 where
  pub sheets : List PluginSheet
  pub vetoes : MachineFacts → List PluginVetoes
  pub words : PluginWords Q

abbrev pub plugins_with : {Q : Type 0} → List PluginSheet → (MachineFacts → List PluginVetoes) → PluginWords Q → Plugins Q
plugins_with sheets vetoes words = record { sheets = sheets; vetoes = vetoes; words = words }

-- These plugins are brought.
abbrev pub plugins_of : {Q : Type 0} → (Q → PluginSheet) → (Q → MachineFacts → List VetoRule) → (Q → List VetoRule) → (Q → PluginSteps) → List Q → Plugins Q
plugins_of sheet vetoes_on vetoes steps plugins =
    plugins_with (map sheet plugins) (λ machine. map (λ p. vetoes_of (sheet p) (vetoes_on p machine)) plugins) (plugin_words sheet vetoes steps)

-- Of plugins with these sheets, these run: the enabled ones, in the order of the arrangement. Their vetoes, each with
-- the name of its plugin, are those of the facts, in that order.
pub record AreStarted {Q : Type 0} (words : PluginWords Q) (sheets : List PluginSheet) (facts : Facts) (started : List Q) : Type 0 where
  pub running : AreRunning sheets (map words.sheet started)
  pub vetoes : facts.vetoes ≡ map (λ p. vetoes_of (words.sheet p) (words.vetoes p)) started

-- What the steps of the one at each place give.
abbrev pub work_of : {Q : Type 0} → PluginWords Q → List Q → ℕ → PluginSteps
work_of words started = steps_at words.steps started
