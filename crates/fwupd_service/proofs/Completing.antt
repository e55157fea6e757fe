-- That a run which nothing keeps from it does all that it is for.
use Rattle.std.proofs.Common.{◌≡◌, ◌⊎◌, ℕ, ◌≤◌, ◌++◌, ◌+◌, true, false, List, [], length, refl, ap, sym, ◌∙◌, subst, inl, inr, arith}
use Rattle.std.proofs.lemmas.List.{append-nil, length-append}
use Rattle.std.proofs.lemmas.Option.{same_Some}
use Rattle.std.specs.Prelude.{◌-◌, ◌^◌, Option, Some, None}
use Rattle.fw_facts.specs.declared.machine.MachineFacts.{MachineFacts}
use Rattle.history_keeper.proofs.Prefixes.{history_front, history_none}
use Rattle.history_keeper.specs.declared.row.Row.{Row}
use Rattle.history_keeper.specs.Histories.{IsHistory}
use Rattle.history_keeper.specs.Signs.{KeeperSigns}
use Rattle.outer_traits.specs.Sources.{AtEnd, Came}
use Rattle.plugin_order.specs.Arranged.{CanBeArranged, HasCause}
use Rattle.plugin_order.specs.declared.arrangement.OrderFault.{OrderFault}
use Rattle.plugin_order.specs.declared.arrangement.OrderFault.TheVariants as faults
use Rattle.plugin_order.specs.declared.sheet.PluginSheet.{PluginSheet}
use Rattle.update_log.specs.declared.event.Event.{Event}
use Rattle.update_log.specs.declared.facts.PluginVetoes.{PluginVetoes}
use Rattle.update_log.specs.Pasts.{past_of}
use Rattle.update_log.specs.Known.{basis_of}
use Rattle.daemon_core.specs.Keeping.{keeper_faults}
use Rattle.client_plays.specs.Shelves.{means_for}
use Rattle.client_plays.specs.Tools.{ShelfTold}
use Rattle.site_types.specs.declared.campaign.Campaign.{Campaign}
use Rattle.site_types.specs.declared.site.Site.{Site}
use Rattle.site_making.specs.Made.{made_site}
use Rattle.campaign_inputs.specs.Opened.{HasStopped, IsOpened}
use Rattle.campaign_inputs.specs.Settled.{AreAtFault, IsCampaignOf}
use Rattle.campaign_inputs.specs.declared.opening.ClientLimit.{ClientLimit}
use Rattle.campaign_inputs.specs.declared.opening.ClientLimit.TheVariants as limits
use Rattle.campaign_inputs.specs.declared.opening.OpenStop.{OpenStop}
use Rattle.campaign_inputs.specs.declared.opening.OpenStop.TheVariants as stops
use Rattle.command_outputs.specs.Summed.{summary}
use Rattle.report_text.specs.Report.{report}
use Rattle.run_status.specs.declared.status.Status.{Status}
use Rattle.run_status.specs.declared.status.Status.TheVariants as statuses
use Rattle.fwupd_service.specs.Campaigns.{IsBadHistory, IsOpening, campaign_over}
use Rattle.fwupd_service.specs.Complete.{HistoryHeld, InputGave, RunDone, SiteWentWhole, WorkDone}
use Rattle.fwupd_service.specs.Ends.{CampaignEnds}
use Rattle.fwupd_service.specs.Makes.{BlamesNoHistory, MadeOrNothing, MakeBegan, MakeEnds, order_status, own_shelves, own_signs}
use Rattle.fwupd_service.specs.Plugged.{AreStarted, Plugins, work_of}
use Rattle.fwupd_service.specs.Telling.{any_fault}
use Rattle.fwupd_service.specs.Tops.{CampaignTold, CampaignWent, Left, RunEnds, stop_status}
use Rattle.fwupd_service.specs.Worlds.{World, setting_in}
use Rattle.fwupd_service.proofs.FaultsTold.{counted-none, no-fault-told}

-- ---- what came of the input

-- What came is a front of the input.
came-front : (came bytes : List ℕ) (old new : Option (List ℕ)) → Came came old new → old ≡ Some bytes → (rest : List ℕ) × (new ≡ Some rest) × (came ++ rest ≡ bytes)
came-front came bytes old None c e = let bad : None ≡ Some bytes = sym c ∙ e in cc
came-front came bytes old (Some rest) c e = (rest, refl, same_Some (came ++ rest) bytes (sym c ∙ e))

-- At the end of the input all of it came.
came-all : (came bytes : List ℕ) (old new : Option (List ℕ)) → Came came old new → old ≡ Some bytes → AtEnd new → came ≡ bytes
came-all came bytes old new c e end =
    let f = came-front came bytes old new c e in
    let empty : f.0 ≡ [] = subst (λ (n : Option (List ℕ)). AtEnd n) f.1 end in
    sym (append-nil came) ∙ ap (λ (rest : List ℕ). came ++ rest) (sym empty) ∙ f.2

pub input-told : (bytes all : List ℕ) (old new : Option (List ℕ)) → Came bytes old new → old ≡ Some all → (length bytes ≤ length all) × (AtEnd new → bytes ≡ all)
input-told bytes all old new c e =
    let f = came-front bytes all old new c e in
    let l : length (bytes ++ f.0) ≡ length all = ap length f.2 in
    let s : length (bytes ++ f.0) ≡ length bytes + length f.0 = length-append bytes f.0 in
    let most : length bytes ≤ length all = omega (arith, l, s) in
    (most, λ end. came-all bytes all old new c e end)

-- Plugins that can be arranged have no fault.
pub arranged-well : (sheets : List PluginSheet) (fault : OrderFault) → CanBeArranged sheets → AreAtFault sheets fault → ⊥
arranged-well sheets (faults.DuplicateName name) can h = can.names h.at h.there h.repeats
arranged-well sheets (faults.Cycle shown) can (names, inl s) = can.order s.plugins s.cycle
arranged-well sheets (faults.Cycle shown) can (names, inr (order, s)) = can.better s.plugins s.cycle
arranged-well sheets faults.NoMemory can h = absurd h

-- Where there is no campaign the input gave no site, or memory was wanting.
pub none-gave : (limit : ClientLimit) (sheets : List PluginSheet) (stop : OpenStop) (old new : Option (List ℕ)) (Done : Site → Type 0) → HasStopped limit sheets stop old new → CanBeArranged sheets → InputGave limit (stop_status stop) old new Done
none-gave limit sheets stops.SourceFault old new Done h can = record { bytes = h.bytes; came = h.came; gave = inr tt }
none-gave limit sheets stops.TooLong old new Done h can = record { bytes = h.bytes; came = h.came; gave = inr h.stops }
none-gave limit sheets (stops.Document place reason) old new Done h can = record { bytes = h.bytes; came = h.came; gave = inr h.stops }
none-gave limit sheets (stops.TooManyClients asked most) old new Done h can = record { bytes = h.bytes; came = h.came; gave = inr h.stops }
none-gave limit sheets (stops.Plugins fault) old new Done h can = absurd (arranged-well sheets fault can h.stops.cause)
none-gave limit sheets stops.NoMemory old new Done h can = record { bytes = h.bytes; came = h.came; gave = inr tt }

-- A campaign that was opened is of the site that the input gave.
pub site-gave : (limit : ClientLimit) (sheets : List PluginSheet) (vetoes : MachineFacts → List PluginVetoes) (status : Status) (old new : Option (List ℕ)) (campaign : Campaign) (Done : Site → Type 0) (o : IsOpened limit sheets vetoes old new campaign) → Done o.site → InputGave limit status old new Done
site-gave limit sheets vetoes status old new campaign Done o done =
    record {
      bytes = o.bytes;
      came = o.came;
      gave = inl (record { site = o.site; read = o.states.read; states = o.states.stated; allowed = o.allowed; done = done });
    }

-- ---- `run`

-- The rows before a log are a valid history where the keeper came with one.
pub valid-opening : (came now : List Row → Type 0) (opening : List Row) (log : List Event) → IsHistory opening ⊎ (((all : List Row) → came all → IsHistory all) × ((all : List Row) × now all)) → IsOpening came now opening log → IsHistory opening
valid-opening came now opening log (inl v) o = v
valid-opening came now opening log (inr (v, some)) (inl told) = v opening (told some.0 some.1)
valid-opening came now opening log (inr (v, some)) (inr (e, still, none)) = subst IsHistory (sym e) history_none

module _ {K Q : Type 0} (signs : KeeperSigns K) (plugins : Plugins Q) where
  -- What a campaign came to that was played.
  ended : (shelves : List ShelfTold) (started : List Q) (site : Site) (campaign : Campaign) (left : Left K) (text : Campaign → List ℕ) (before after : Option (List ℕ)) (status : Status)
      → AreStarted plugins.words plugins.sheets campaign.facts started → IsCampaignOf site plugins.sheets (plugins.vetoes site.machine) campaign → IsHistory left.opening → any_fault left.log ≡ false
      → CampaignEnds signs.tells (means_for (work_of plugins.words started) shelves) status (campaign_over campaign left.opening) campaign.scripts left.log left.keeper (text campaign) before after
      → RunDone signs.tells left.keeper (SiteWentWhole shelves plugins site left text before after) status
  ended shelves started site campaign left text before after statuses.Done a s valid quiet e = record { campaign = campaign; settled = s; started = started; started_are = a; whole = e.1 }
  ended shelves started site campaign left text before after statuses.KeeperFault a s valid quiet e =
      let bad : true ≡ false = sym e.0 ∙ quiet in cc
  ended shelves started site campaign left text before after (statuses.BadHistory entry) a s valid quiet e = bad e.bad
    where
      bad : IsBadHistory signs.tells entry (basis_of campaign.facts left.opening) left.log left.keeper → (all : List Row) → signs.tells left.keeper all → ⊥
      bad (inl (all, b)) = absurd (b.faulty.breaks (history_front left.opening (b.at + 1) valid))
      bad (inr (v, silent, others)) = silent
  ended shelves started site campaign left text before after statuses.SinkFault a s valid quiet e = tt
  ended shelves started site campaign left text before after statuses.NoMemory a s valid quiet e = tt
  ended shelves started site campaign left text before after _ a s valid quiet e = absurd e

  pub run-complete : (status : Status) (keeper : K) (left : Left K) (before after : World)
      → RunEnds signs plugins status keeper left before after
      → CanBeArranged plugins.sheets → HistoryHeld signs keeper left
      → InputGave (limits.Shelves (length before.shelves)) status before.unread after.unread
      (λ site. RunDone signs.tells left.keeper (SiteWentWhole before.shelves plugins site left (λ campaign. report (basis_of campaign.facts left.opening) left.log) before.written after.written) status)
  run-complete status keeper left before after ends can held = at ends
    where
      Done : Status → Site → Type 0
      Done s site = RunDone signs.tells left.keeper (SiteWentWhole before.shelves plugins site left (λ campaign. report (basis_of campaign.facts left.opening) left.log) before.written after.written) s

      Gave : Status → Type 0
      Gave s = InputGave (limits.Shelves (length before.shelves)) s before.unread after.unread (Done s)

      Told : List Q → Campaign → Type 0
      Told started campaign = CampaignTold signs (work_of plugins.words started) status campaign keeper left (report (basis_of campaign.facts left.opening) left.log) (setting_in before) (setting_in after)

      valid : (started : List Q) (campaign : Campaign) → Told started campaign → IsHistory left.opening
      valid started campaign w = valid-opening (signs.tells keeper) (signs.tells left.keeper) left.opening left.log held.valid w.keeper_stands.opening_is

      quiet : (started : List Q) (campaign : Campaign) → Told started campaign → any_fault left.log ≡ false
      quiet started campaign w =
          no-fault-told left.log
          (counted-none (2 ^ 64 - 1) (keeper_faults (past_of left.log)) (signs.faults keeper) (signs.faults left.keeper) w.keeper_stands.counted held.no_fault held.counting)

      went : (started : List Q) (campaign : Campaign) (site : Site) → AreStarted plugins.words plugins.sheets campaign.facts started → IsCampaignOf site plugins.sheets (plugins.vetoes site.machine) campaign → CampaignWent signs (work_of plugins.words started) status campaign keeper left (report (basis_of campaign.facts left.opening) left.log) (setting_in before) (setting_in after) → Done status site
      went started campaign site a settled (inl w) =
          ended before.shelves started site campaign left (λ c. report (basis_of c.facts left.opening) left.log) before.written after.written status a settled (valid started campaign w) (quiet started campaign w) w.ends
      went started campaign site a settled (inr (e, nothing)) = subst (λ (s : Status). Done s site) (sym e) tt

      at : RunEnds signs plugins status keeper left before after → Gave status
      at (inl s) = subst Gave (sym s.status_is) (none-gave (limits.Shelves (length before.shelves)) plugins.sheets s.stop before.unread after.unread (Done (stop_status s.stop)) s.stopped can)
      at (inr w) =
          site-gave (limits.Shelves (length before.shelves)) plugins.sheets plugins.vetoes status before.unread after.unread w.campaign (Done status) w.opened
          (went w.started w.campaign w.opened.site w.started_are w.opened.settled w.went)

-- ---- `make`

-- How plugins that can be arranged are told.
fault-status : (sheets : List PluginSheet) (Complete : Type 0) (fault : OrderFault) → CanBeArranged sheets → HasCause sheets fault → WorkDone Complete (order_status fault)
fault-status sheets Complete (faults.DuplicateName name) can h = arranged-well sheets (faults.DuplicateName name) can h
fault-status sheets Complete (faults.Cycle shown) can h = arranged-well sheets (faults.Cycle shown) can h
fault-status sheets Complete faults.NoMemory can h = tt

-- The same of `make`, whose status blames no history.
module _ {K Q : Type 0} (boards clients : ℕ) (plugins : Plugins Q) where
  -- A generated campaign that was played came to no more than that.
  summed : (status : Status) (started : List Q) (campaign : Campaign) (left : Left K) (own : List Row) (before after : Option (List ℕ)) → AreStarted plugins.words plugins.sheets campaign.facts started → IsCampaignOf (made_site boards clients) plugins.sheets (plugins.vetoes (made_site boards clients).machine) campaign → BlamesNoHistory status
      → CampaignEnds own_signs.tells (means_for (work_of plugins.words started) (own_shelves clients)) status (campaign_over campaign left.opening) campaign.scripts left.log own (summary boards clients left.log) before after
      → WorkDone (SiteWentWhole (own_shelves clients) plugins (made_site boards clients) left (λ _. summary boards clients left.log) before after) status
  summed statuses.Done started campaign left own before after a s n e = record { campaign = campaign; settled = s; started = started; started_are = a; whole = e.1 }
  summed statuses.KeeperFault started campaign left own before after a s n e = absurd n
  summed (statuses.BadHistory entry) started campaign left own before after a s n e = absurd n
  summed statuses.SinkFault started campaign left own before after a s n e = tt
  summed statuses.NoMemory started campaign left own before after a s n e = tt
  summed _ started campaign left own before after a s n e = absurd e

  pub make-complete : (status : Status) (keeper : K) (left : Left K) (before after : Option (List ℕ)) → MakeEnds boards clients plugins status keeper left before after → CanBeArranged plugins.sheets
      → WorkDone (SiteWentWhole (own_shelves clients) plugins (made_site boards clients) left (λ _. summary boards clients left.log) before after) status
  make-complete status keeper left before after ends can = at ends
    where
      Complete : Type 0
      Complete = SiteWentWhole (own_shelves clients) plugins (made_site boards clients) left (λ _. summary boards clients left.log) before after

      began : (b : MakeBegan boards clients plugins status keeper left before after) → WorkDone Complete status
      began b = of b.went
        where
          of : MadeOrNothing boards clients (work_of plugins.words b.started) status b.campaign keeper left before after → WorkDone Complete status
          of (inl w) = summed status b.started b.campaign left w.own before after b.started_are b.settled w.no_blame w.told.ends
          of (inr (e, nothing)) = subst (WorkDone Complete) (sym e) tt

      at : MakeEnds boards clients plugins status keeper left before after → WorkDone Complete status
      at (inl s) = subst (WorkDone Complete) (sym s.status_is) (fault-status plugins.sheets Complete s.fault can s.cause)
      at (inr b) = began b
