-- What the program brings, in the words of the top call.
use Rattle.std.proofs.Common.{◌≡◌, ◌≤◌, List, length, map, Option, sym, ap, ◌∙◌, subst, arith}
use Rattle.std.proofs.lemmas.List.{length-map}
use mathlib.Core.Path.{fun_ext}
use Rattle.fw_facts.specs.declared.machine.MachineFacts.{MachineFacts}
use Rattle.plugin_order.specs.declared.sheet.PluginSheet.{PluginSheet}
use Rattle.history_keeper.specs.Signs.{KeeperSigns}
use Rattle.update_log.specs.declared.facts.PluginVetoes.{PluginVetoes}
use Rattle.client_plays.specs.Tools.{ShelfTold}
use Rattle.command_words.specs.declared.command.Command.{Command}
use Rattle.run_status.specs.declared.status.Status.{Status}
use Rattle.fwupd_service.specs.Commands.{WordsEnd}
use Rattle.fwupd_service.specs.Plugged.{PluginWords, plugins_with}
use Rattle.fwupd_service.specs.Tops.{Left}
use Rattle.fwupd_service.specs.Worlds.{World}
use Rattle.host_service.specs.Brought.{AreProgram, program_plugins, program_vetoes}

-- There are four plugins.
pub few-plugins : {Q : Type 0} (sheet : Q → PluginSheet) (plugins : List Q) (vetoes : MachineFacts → List PluginVetoes) → AreProgram (map sheet plugins) vetoes → length plugins ≤ 64
few-plugins sheet plugins vetoes p =
    let four : length plugins ≡ 4 = sym (length-map plugins sheet) ∙ ap length p.sheets_are in
    omega (arith, four)

-- What a run comes to over plugins that are the program's, and over these shelves.
pub words-brought : {K Q : Type 0} (signs : KeeperSigns K) (sheets : List PluginSheet) (vetoes : MachineFacts → List PluginVetoes) (words : PluginWords Q) (command : Option Command) (status : Status) (keeper : K) (left : Left K) (before after : World) (made : List ShelfTold)
    → before.shelves ≡ made → AreProgram sheets vetoes → WordsEnd signs (plugins_with sheets vetoes words) command status keeper left before after
    → WordsEnd signs (program_plugins words) command status keeper left (record before { shelves = made }) after
words-brought signs sheets vetoes words command status keeper left before after made s p w =
    let v : vetoes ≡ program_vetoes = fun_ext p.vetoes_are in
    subst (λ (x : List ShelfTold). WordsEnd signs (program_plugins words) command status keeper left (record before { shelves = x }) after) s
    (subst (λ (x : List PluginSheet). WordsEnd signs (plugins_with x program_vetoes words) command status keeper left before after) p.sheets_are
    (subst (λ (x : MachineFacts → List PluginVetoes). WordsEnd signs (plugins_with sheets x words) command status keeper left before after) v w))
