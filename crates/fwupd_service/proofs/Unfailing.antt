-- That the campaign of `make` meets no fault of a keeper: its own counts none, and begins without rows.
use Rattle.std.proofs.Common.{◌≡◌, ℕ, ◌<◌, true, false, List, [], length, Option, refl, sym, ap, ◌∙◌, inl, inr, arith, lit<}
use Rattle.std.specs.Prelude.{◌-◌, ◌^◌}
use Rattle.history_keeper.specs.declared.row.Row.{Row}
use Rattle.update_log.specs.declared.event.Event.{Event}
use Rattle.update_log.specs.Pasts.{past_of}
use Rattle.update_log.specs.Shows.{Campaign}
use Rattle.daemon_core.specs.Boots.{BreaksAt}
use Rattle.daemon_core.specs.Keeping.{keeper_faults}
use Rattle.client_scripts.specs.declared.item.Item.{Item}
use Rattle.client_plays.specs.Shelves.{means_for}
use Rattle.plugin_trait.specs.Steps.{PluginSteps}
use Rattle.client_plays.specs.Tools.{Means, ShelfTold}
use Rattle.site_types.specs.declared.campaign.Campaign as sites
use Rattle.command_outputs.specs.Summed.{summary}
use Rattle.run_status.specs.declared.status.Status.{Status}
use Rattle.run_status.specs.declared.status.Status.TheVariants as statuses
use Rattle.fwupd_service.specs.Campaigns.{IsBadHistory, IsOpening, campaign_over}
use Rattle.fwupd_service.specs.Ends.{CampaignEnds}
use Rattle.fwupd_service.specs.Makes.{BlamesNoHistory, MadeWent, own_shelves, own_signs}
use Rattle.fwupd_service.specs.Telling.{any_fault}
use Rattle.fwupd_service.specs.Tops.{CampaignTold, Left}
use Rattle.fwupd_service.proofs.FaultsTold.{counted-none, no-fault-told}

-- ---- its own keeper begins without rows, so there are none before the log

none-opened : (own opening : List Row) (log : List Event) → IsOpening (λ all. [] ≡ all) (λ all. own ≡ all) opening log → opening ≡ []
none-opened own opening log (inl told) = sym (told own refl)
none-opened own opening log (inr (e, still, none)) = e

-- No row breaks no rule.
none-breaks : (entry : ℕ) (opening : List Row) → opening ≡ [] → BreaksAt entry opening → ⊥
none-breaks entry opening e b =
    let none : length opening ≡ 0 = ap length e in
    let within : b.at < length opening = b.faulty.within in
    omega (arith, none, within)

-- ---- so its status blames no history

-- Over a keeper that tells its rows, with no rows before the log, no boot read a bad history.
none-bad : {K : Type 0} (told : K → List Row → Type 0) (keeper : K) (all : List Row) (entry : ℕ) (c : Campaign) (log : List Event) → told keeper all → c.basis.opening ≡ [] → IsBadHistory told entry c.basis log keeper → ⊥
none-bad told keeper all entry c log t o (inl (faults, b)) = none-breaks entry c.basis.opening o b
none-bad told keeper all entry c log t o (inr (valid, silent, others)) = absurd (silent all t)

no-blame : {K : Type 0} (told : K → List Row → Type 0) (keeper : K) (all : List Row) (means : ℕ → Means) (status : Status) (c : Campaign) (scripts : List (List (List Item))) (log : List Event) (text : List ℕ) (before after : Option (List ℕ))
    → told keeper all → c.basis.opening ≡ [] → any_fault log ≡ false → CampaignEnds told means status c scripts log keeper text before after → BlamesNoHistory status
no-blame told keeper all means statuses.KeeperFault c scripts log text before after t o f e = let bad : true ≡ false = sym e.0 ∙ f in cc
no-blame told keeper all means (statuses.BadHistory entry) c scripts log text before after t o f e = none-bad told keeper all entry c log t o e.bad
no-blame told keeper all means _ c scripts log text before after t o f e = tt

-- ---- the generated campaign

pub made-went : {K : Type 0} (boards clients : ℕ) (work : ℕ → PluginSteps) (status : Status) (campaign : sites.Campaign) (keeper : K) (left : Left K) (own : List Row) (kept : List ShelfTold) (before after : Option (List ℕ)) → left.keeper ≡ keeper
    → CampaignTold own_signs work status campaign []
    (record { log = left.log; opening = left.opening; boards = left.boards; keeper = own }) (summary boards clients left.log)
    (record { shelves = own_shelves clients; written = before }) (record { shelves = kept; written = after })
    → MadeWent boards clients work status campaign keeper left before after
made-went boards clients work status campaign keeper left own kept before after k told =
    let c = campaign_over campaign left.opening in
    let stands = told.keeper_stands in
    let no_rows : left.opening ≡ [] = none-opened own left.opening left.log stands.opening_is in
    let no_fault : any_fault left.log ≡ false = no-fault-told left.log (counted-none (2 ^ 64 - 1) (keeper_faults (past_of left.log)) 0 0 stands.counted refl (lit< tt)) in
    record {
      own = own;
      kept = kept;
      keeper_is = k;
      no_rows = no_rows;
      no_fault = no_fault;
      no_blame =
          no-blame own_signs.tells own own (means_for work (own_shelves clients)) status c campaign.scripts left.log (summary boards clients left.log) before after refl no_rows no_fault told.ends;
      told = told;
    }
