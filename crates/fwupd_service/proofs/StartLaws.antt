-- What is needed to play a campaign that was made of a site.
use Rattle.std.proofs.Common.{◌≡◌, ℕ, ◌<◌, ◌≤◌, List, Option, length, subst, arith}
use Rattle.std.specs.Prelude.{All}
use Rattle.std.proofs.lemmas.List.Elements.{All-weaker}
use Rattle.emulated_boards.specs.Boards.{BoardState}
use Rattle.fw_facts.specs.declared.machine.MachineFacts.{MachineFacts}
use Rattle.plugin_order.specs.declared.sheet.PluginSheet.{PluginSheet}
use Rattle.update_log.specs.declared.event.Query.{Query}
use Rattle.update_log.specs.declared.facts.PluginVetoes.{PluginVetoes}
use Rattle.daemon_core.specs.House.{IsNewBoard}
use Rattle.client_scripts.specs.declared.item.Item.{Item}
use Rattle.client_plays.specs.Endings.{IsQuestion, IsScriptItem}
use Rattle.site_types.specs.declared.campaign.Campaign.{Campaign}
use Rattle.site_types.specs.declared.site.Site.{Site}
use Rattle.campaign_inputs.specs.declared.opening.ClientLimit.TheVariants as limits
use Rattle.campaign_inputs.specs.declared.opening.OpenStop.{OpenStop}
use Rattle.campaign_inputs.specs.Opened.{HasStopped, IsOpened}
use Rattle.campaign_inputs.specs.Begin.{CanBegin, IsAsMade}
use Rattle.campaign_inputs.specs.Limits.{CanBeRun, IsAsked, IsDone}
use Rattle.campaign_inputs.specs.Settled.{IsCampaignOf}
use Rattle.campaign_inputs.proofs.Beginnings.{made_at}
use Rattle.fwupd_service.specs.Begins.{CanBePlayed, IsReadyFor}

question_of : (query : Query) → IsAsked query → IsQuestion query
question_of (Query.Settle selector) a = a
question_of _ a = tt

item_of : (item : Item) → IsDone item → IsScriptItem item
item_of (Item.Ask query) a = question_of query a
item_of _ a = tt

items_of : (scripts : List (List (List Item))) → All (All (All IsDone)) scripts → All (All (All IsScriptItem)) scripts
items_of scripts h =
    All-weaker (All (All IsDone)) (All (All IsScriptItem))
    (λ (of_boot : List (List Item)) (b : All (All IsDone) of_boot).
    All-weaker (All IsDone) (All IsScriptItem) (λ (script : List Item) (s : All IsDone script). All-weaker IsDone IsScriptItem item_of script s) of_boot b)
    scripts h

few_of : (most : ℕ) (scripts : List (List (List Item))) (count : ℕ) → count ≤ most → All (λ of_boot. length of_boot ≤ count) scripts → All (λ of_boot. length of_boot ≤ most) scripts
few_of most scripts count l h = All-weaker (λ (of_boot : List (List Item)). length of_boot ≤ count) (λ (of_boot : List (List Item)). length of_boot ≤ most) (λ (of_boot : List (List Item)) (k : length of_boot ≤ count). omega arith) scripts h

new_of : (b : BoardState) → IsAsMade b → IsNewBoard b
new_of b m = record { image = m.image; condition = m.condition; journal = m.journal; faults = m.faults }

pub can-be-played : (site : Site) (sheets : List PluginSheet) (vetoes : List PluginVetoes) (campaign : Campaign) → CanBeRun site → IsCampaignOf site sheets vetoes campaign → CanBegin campaign → CanBePlayed campaign
can-be-played site sheets vetoes campaign run of begin = record {
  few = begin.few;
  count = begin.count;
  fresh = λ number b e. new_of b (made_at campaign.boards.items number b begin.made e);
  pool = rw of.of_site.pool run.pool;
  boots = rw of.of_site.boots run.boots;
  times = rw of.of_site.boots run.times;
  items = rw of.of_site.scripts (items_of site.scripts run.items);
  clients = rw of.of_site.scripts (few_of 16 site.scripts (length site.features) run.clients run.scripts);
}

pub is-ready-for : (site : Site) (sheets : List PluginSheet) (vetoes : List PluginVetoes) (campaign : Campaign) (shelves plugins : ℕ) → CanBeRun site → IsCampaignOf site sheets vetoes campaign
    → 0 < shelves → length site.features ≤ shelves → length campaign.facts.vetoes ≡ plugins → IsReadyFor shelves plugins campaign
is-ready-for site sheets vetoes campaign shelves plugins run of some enough same = record {
  some = some;
  each = rw of.of_site.scripts (few_of shelves site.scripts (length site.features) enough run.scripts);
  plugins_are = omega arith;
}

-- What is said of as many shelves.
pub opened-many : {sheets : List PluginSheet} {vetoes : MachineFacts → List PluginVetoes} {old new : Option (List ℕ)} {campaign : Campaign} (m n : ℕ) → m ≡ n → IsOpened (limits.Shelves m) sheets vetoes old new campaign → IsOpened (limits.Shelves n) sheets vetoes old new campaign
opened-many {sheets = sheets} {vetoes = vetoes} {old = old} {new = new} {campaign = campaign} m n e o = subst (λ (k : ℕ). IsOpened (limits.Shelves k) sheets vetoes old new campaign) e o

pub stopped-many : {sheets : List PluginSheet} {stop : OpenStop} {old new : Option (List ℕ)} (m n : ℕ) → m ≡ n → HasStopped (limits.Shelves m) sheets stop old new → HasStopped (limits.Shelves n) sheets stop old new
stopped-many {sheets = sheets} {stop = stop} {old = old} {new = new} m n e s = subst (λ (k : ℕ). HasStopped (limits.Shelves k) sheets stop old new) e s
