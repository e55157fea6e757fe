-- That `plan` and `update` do all that they are for where nothing keeps them from it.
use Rattle.std.proofs.Common.{◌≡◌, ◌⊎◌, ℕ, ◌<◌, ◌≤◌, ◌+◌, List, length, sym, ◌∙◌, subst, inl, inr, arith}
use Rattle.std.specs.Prelude.{◌-◌, ◌^◌, true, false, min, Option, Some}
use Rattle.fw_facts.specs.declared.machine.MachineFacts.{MachineFacts}
use Rattle.history_keeper.proofs.Prefixes.{history_front}
use Rattle.history_keeper.specs.declared.row.Row.{Row}
use Rattle.history_keeper.specs.Histories.{IsHistory}
use Rattle.history_keeper.specs.Keepers.{StillTold}
use Rattle.history_keeper.specs.Signs.{KeeperSigns}
use Rattle.plugin_order.specs.Arranged.{CanBeArranged}
use Rattle.plugin_order.specs.declared.sheet.PluginSheet.{PluginSheet}
use Rattle.update_log.specs.declared.event.Event.{Event}
use Rattle.update_log.specs.declared.facts.PluginVetoes.{PluginVetoes}
use Rattle.update_log.specs.Pasts.{past_of}
use Rattle.update_log.specs.Known.{basis_of}
use Rattle.daemon_core.specs.Boots.{BreaksAt}
use Rattle.daemon_core.specs.Keeping.{keeper_faults}
use Rattle.daemon_core.specs.Reading.{AreTold}
use Rattle.client_plays.specs.Shelves.{means_for}
use Rattle.client_plays.specs.Tools.{ShelfTold}
use Rattle.site_types.specs.declared.campaign.Campaign.{Campaign}
use Rattle.site_types.specs.declared.site.Site.{Site}
use Rattle.campaign_inputs.specs.Settled.{IsCampaignOf}
use Rattle.campaign_inputs.specs.declared.opening.ClientLimit.TheVariants as limits
use Rattle.campaign_plans.specs.Updating.{Plays}
use Rattle.report_text.specs.Report.{report}
use Rattle.run_status.specs.declared.status.Status.{Status}
use Rattle.run_status.specs.declared.status.Status.TheVariants as statuses
use Rattle.fwupd_service.specs.declared.loading.LoadStop.{LoadStop}
use Rattle.fwupd_service.specs.declared.loading.LoadStop.TheVariants as loads
use Rattle.fwupd_service.specs.Campaigns.{IsBadHistory, IsOpening, campaign_over}
use Rattle.fwupd_service.specs.Complete.{HistoryHeld, InputGave, RunDone, SitePlanned, SiteUpdated, WorkDone}
use Rattle.fwupd_service.specs.Ends.{CampaignEnds}
use Rattle.fwupd_service.specs.Plugged.{AreStarted, Plugins, work_of}
use Rattle.fwupd_service.specs.Loads.{WasLoaded, load_status}
use Rattle.fwupd_service.specs.Telling.{any_fault}
use Rattle.fwupd_service.specs.Tops.{CampaignTold, CampaignWent, Left, stop_status}
use Rattle.fwupd_service.specs.Updates.{PlanEnds, PlanGoes, PlanPlayed, UpdateEnds, UpdateGoes, WasPrinted, planned_items, printed_plan}
use Rattle.fwupd_service.specs.Worlds.{World, setting_in}
use Rattle.fwupd_service.proofs.Completing.{none-gave, site-gave, valid-opening}
use Rattle.fwupd_service.proofs.FaultsTold.{counted-none, no-fault-told}

-- ---- the load

-- The count of faults that didn't rise, and isn't at its end, tells of none.
none-rose : (most old new : ℕ) → new ≡ old → old < most → min (old + 1) most ≤ new → ⊥
none-rose most old new same counting rose = omega (arith, same, counting, rose)

-- Rows that the keeper told are a valid history where the history held.
held-rows : (came now : List Row → Type 0) (opening : List Row) → IsHistory opening ⊎ (((all : List Row) → came all → IsHistory all) × ((all : List Row) × now all)) → AreTold came now opening → IsHistory opening
held-rows came now opening (inl v) told = v
held-rows came now opening (inr (v, some)) told = v opening (told some.0 some.1)

-- The history held over the load as well.
held-behind : (came middle now : List Row → Type 0) (opening : List Row) → StillTold came middle → IsHistory opening ⊎ (((all : List Row) → came all → IsHistory all) × ((all : List Row) × now all))
    → IsHistory opening ⊎ (((all : List Row) → middle all → IsHistory all) × ((all : List Row) × now all))
held-behind came middle now opening still (inl v) = inl v
held-behind came middle now opening still (inr (v, some)) = inr (λ all t. v all (still all t), some)

-- What was planned over the keeper told as it came, if it tells rows at the end.
told-behind : (came middle now : List Row → Type 0) (planned opening : List Row) (log : List Event) → AreTold came middle planned → IsOpening middle now opening log → AreTold came now planned
told-behind came middle now planned opening log t (inl told) = λ all h. t opening (told all h)
told-behind came middle now planned opening log t (inr (e, still, none)) = λ all h. t all (still all h)

module _ {K : Type 0} (signs : KeeperSigns K) where
  -- So of a history that held a load says that memory was wanting, or nothing.
  load-held : (P : Status → Type 0) (stop : LoadStop) (keeper : K) (left : Left K) → P statuses.NoMemory → HistoryHeld signs keeper left
      → WasLoaded signs (Some stop) left.opening keeper left.keeper → P (load_status stop)
  load-held P loads.NoMemory keeper left enough held w = enough
  load-held P loads.KeeperFault keeper left enough held w =
      absurd (none-rose (2 ^ 64 - 1) (signs.faults keeper) (signs.faults left.keeper) held.no_fault held.counting w.says.1)
  load-held P (loads.BadHistory entry) keeper left enough held w =
      let breaks : BreaksAt entry left.opening = w.says.1 in
      let valid : IsHistory left.opening = held-rows (signs.tells keeper) (signs.tells left.keeper) left.opening held.valid w.says.0 in
      absurd (breaks.faulty.breaks (history_front left.opening (breaks.at + 1) valid))

  -- ---- `plan`

  plan-printed : (sheets : List PluginSheet) (vetoes : MachineFacts → List PluginVetoes) (tag : List ℕ) (site : Site) (campaign : Campaign) (left : Left K) (before after : Option (List ℕ)) (status : Status)
      → IsCampaignOf site sheets (vetoes site.machine) campaign → WasPrinted (printed_plan campaign left.opening tag) status before after
      → WorkDone (SitePlanned sheets vetoes tag site left before after) status
  plan-printed sheets vetoes tag site campaign left before after statuses.Done settled p = record { campaign = campaign; settled = settled; printed = p }
  plan-printed sheets vetoes tag site campaign left before after statuses.SinkFault settled p = tt
  plan-printed sheets vetoes tag site campaign left before after statuses.NoMemory settled p = tt
  plan-printed sheets vetoes tag site campaign left before after _ settled p = absurd p

  pub plan-complete : (sheets : List PluginSheet) (vetoes : MachineFacts → List PluginVetoes) (tag : List ℕ) (status : Status) (keeper : K) (left : Left K) (before after : World)
      → PlanEnds signs sheets vetoes tag status keeper left before after
      → CanBeArranged sheets → HistoryHeld signs keeper left
      → InputGave (limits.Shelves (length before.shelves)) status before.unread after.unread (λ site. WorkDone (SitePlanned sheets vetoes tag site left before.written after.written) status)
  plan-complete sheets vetoes tag status keeper left before after ends can held = at ends
    where
      Done : Status → Site → Type 0
      Done s site = WorkDone (SitePlanned sheets vetoes tag site left before.written after.written) s

      Gave : Status → Type 0
      Gave s = InputGave (limits.Shelves (length before.shelves)) s before.unread after.unread (Done s)

      went : (campaign : Campaign) (site : Site) → IsCampaignOf site sheets (vetoes site.machine) campaign → PlanGoes signs tag campaign status keeper left before.written after.written → Done status site
      went campaign site settled (inl n) =
          subst (λ (s : Status). Done s site) (sym n.status_is) (load-held (λ (s : Status). Done s site) n.stop keeper left tt held n.only.loaded)
      went campaign site settled (inr p) = plan-printed sheets vetoes tag site campaign left before.written after.written status settled p.printed

      at : PlanEnds signs sheets vetoes tag status keeper left before after → Gave status
      at (inl s) = subst Gave (sym s.status_is) (none-gave (limits.Shelves (length before.shelves)) sheets s.stop before.unread after.unread (Done (stop_status s.stop)) s.stopped can)
      at (inr w) =
          site-gave (limits.Shelves (length before.shelves)) sheets vetoes status before.unread after.unread w.campaign (Done status) w.opened
          (went w.campaign w.opened.site w.opened.settled w.goes)

-- ---- `update`

module _ {K Q : Type 0} (signs : KeeperSigns K) (plugins : Plugins Q) where
  -- What the campaign of the plan came to that was played.
  update-ended : (shelves : List ShelfTold) (started : List Q) (tag : List ℕ) (site : Site) (campaign made : Campaign) (rows : List Row) (keeper : K) (left : Left K) (before after : Option (List ℕ)) (status : Status)
      → AreStarted plugins.words plugins.sheets campaign.facts started → IsCampaignOf site plugins.sheets (plugins.vetoes site.machine) campaign → AreTold (signs.tells keeper) (signs.tells left.keeper) rows → Plays (planned_items campaign rows tag) campaign made
      → IsHistory left.opening → any_fault left.log ≡ false
      → CampaignEnds signs.tells (means_for (work_of plugins.words started) shelves) status (campaign_over made left.opening) made.scripts left.log left.keeper (report (basis_of made.facts left.opening) left.log) before after
      → RunDone signs.tells left.keeper (SiteUpdated signs.tells shelves plugins tag site keeper left before after) status
  update-ended shelves started tag site campaign made rows keeper left before after statuses.Done a s t p valid quiet e =
      record { campaign = campaign; settled = s; started = started; started_are = a; rows = rows; told_are = t; made = made; plays = p; whole = e.1 }
  update-ended shelves started tag site campaign made rows keeper left before after statuses.KeeperFault a s t p valid quiet e =
      let bad : true ≡ false = sym e.0 ∙ quiet in cc
  update-ended shelves started tag site campaign made rows keeper left before after (statuses.BadHistory entry) a s t p valid quiet e = bad e.bad
    where
      bad : IsBadHistory signs.tells entry (basis_of made.facts left.opening) left.log left.keeper → (all : List Row) → signs.tells left.keeper all → ⊥
      bad (inl (all, b)) = absurd (b.faulty.breaks (history_front left.opening (b.at + 1) valid))
      bad (inr (v, silent, others)) = silent
  update-ended shelves started tag site campaign made rows keeper left before after statuses.SinkFault a s t p valid quiet e = tt
  update-ended shelves started tag site campaign made rows keeper left before after statuses.NoMemory a s t p valid quiet e = tt
  update-ended shelves started tag site campaign made rows keeper left before after _ a s t p valid quiet e = absurd e

  pub update-complete : (tag : List ℕ) (status : Status) (keeper : K) (left : Left K) (before after : World)
      → UpdateEnds signs plugins tag status keeper left before after
      → CanBeArranged plugins.sheets → HistoryHeld signs keeper left
      → InputGave (limits.Shelves (length before.shelves)) status before.unread after.unread
      (λ site. RunDone signs.tells left.keeper (SiteUpdated signs.tells before.shelves plugins tag site keeper left before.written after.written) status)
  update-complete tag status keeper left before after ends can held = at ends
    where
      Done : Status → Site → Type 0
      Done s site = RunDone signs.tells left.keeper (SiteUpdated signs.tells before.shelves plugins tag site keeper left before.written after.written) s

      Gave : Status → Type 0
      Gave s = InputGave (limits.Shelves (length before.shelves)) s before.unread after.unread (Done s)

      -- the keeper between the load and the first boot counted no fault either, and tells the same rows
      quiet-middle : (middle : K) → signs.faults keeper ≤ signs.faults middle → signs.faults middle ≤ signs.faults left.keeper → signs.faults left.keeper ≡ signs.faults middle
      quiet-middle middle up on = let same = held.no_fault in omega (arith, up, on, same)

      Told : List Q → Campaign → K → Type 0
      Told started made middle = CampaignTold signs (work_of plugins.words started) status made middle left (report (basis_of made.facts left.opening) left.log) (setting_in before) (setting_in after)

      valid : (started : List Q) (made : Campaign) (middle : K) → StillTold (signs.tells keeper) (signs.tells middle) → Told started made middle → IsHistory left.opening
      valid started made middle still w =
          valid-opening (signs.tells middle) (signs.tells left.keeper) left.opening left.log (held-behind (signs.tells keeper) (signs.tells middle) (signs.tells left.keeper) left.opening still held.valid) w.keeper_stands.opening_is

      planned : (started : List Q) (made : Campaign) (middle : K) (rows : List Row) → AreTold (signs.tells keeper) (signs.tells middle) rows → Told started made middle → AreTold (signs.tells keeper) (signs.tells left.keeper) rows
      planned started made middle rows t w = told-behind (signs.tells keeper) (signs.tells middle) (signs.tells left.keeper) rows left.opening left.log t w.keeper_stands.opening_is

      quiet : (started : List Q) (made : Campaign) (middle : K) → signs.faults keeper ≤ signs.faults middle → Told started made middle → any_fault left.log ≡ false
      quiet started made middle counts w =
          let same : signs.faults left.keeper ≡ signs.faults middle = quiet-middle middle counts w.keeper_stands.counts in
          let counting : signs.faults middle < 2 ^ 64 - 1 = (let n = held.no_fault in let m = held.counting in omega (arith, n, m, same)) in
          no-fault-told left.log
          (counted-none (2 ^ 64 - 1) (keeper_faults (past_of left.log)) (signs.faults middle) (signs.faults left.keeper) w.keeper_stands.counted same counting)

      played : (started : List Q) (campaign : Campaign) (site : Site) → AreStarted plugins.words plugins.sheets campaign.facts started → IsCampaignOf site plugins.sheets (plugins.vetoes site.machine) campaign → PlanPlayed signs (work_of plugins.words started) tag campaign status keeper left (setting_in before) (setting_in after) → Done status site
      played started campaign site a settled p = of p.went
        where
          of : CampaignWent signs (work_of plugins.words started) status p.made p.middle left (report (basis_of p.made.facts left.opening) left.log) (setting_in before) (setting_in after) → Done status site
          of (inl w) =
              update-ended before.shelves started tag site campaign p.made p.rows keeper left before.written after.written status a settled (planned started p.made p.middle p.rows p.loaded.says.0 w) p.plays
              (valid started p.made p.middle p.loaded.told_stay w) (quiet started p.made p.middle p.loaded.counts w) w.ends
          of (inr (e, nothing)) = subst (λ (s : Status). Done s site) (sym e) tt

      went : (started : List Q) (campaign : Campaign) (site : Site) → AreStarted plugins.words plugins.sheets campaign.facts started → IsCampaignOf site plugins.sheets (plugins.vetoes site.machine) campaign → UpdateGoes signs (work_of plugins.words started) tag campaign status keeper left (setting_in before) (setting_in after) → Done status site
      went started campaign site a settled (inl n) =
          subst (λ (s : Status). Done s site) (sym n.status_is) (load-held signs (λ (s : Status). Done s site) n.stop keeper left tt held n.only.loaded)
      went started campaign site a settled (inr (inl n)) = subst (λ (s : Status). Done s site) (sym n.status_is) tt
      went started campaign site a settled (inr (inr p)) = played started campaign site a settled p

      at : UpdateEnds signs plugins tag status keeper left before after → Gave status
      at (inl s) = subst Gave (sym s.status_is) (none-gave (limits.Shelves (length before.shelves)) plugins.sheets s.stop before.unread after.unread (Done (stop_status s.stop)) s.stopped can)
      at (inr w) =
          site-gave (limits.Shelves (length before.shelves)) plugins.sheets plugins.vetoes status before.unread after.unread w.campaign (Done status) w.opened
          (went w.started w.campaign w.opened.site w.started_are w.opened.settled w.goes)
