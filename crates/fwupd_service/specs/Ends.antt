-- How a campaign ends: its status, and what was written.
use Rattle.std.specs.Prelude.{◌≡◌, ◌<◌, ◌≤◌, ◌||◌, ℕ, Bool, true, false, List, length, Option, if◌then◌else◌}
use Rattle.outer_traits.specs.Sinks.{Took, TookFront}
use Rattle.history_keeper.specs.declared.row.Row.{Row}
use Rattle.update_log.specs.declared.event.Event.{Event}
use Rattle.update_log.specs.Shows.{Campaign}
use Rattle.client_scripts.specs.declared.item.Item.{Item}
use Rattle.client_plays.specs.Tools.{Means}
use Rattle.client_threads.specs.declared.ending.Ending.{Ending}
use Rattle.client_threads.specs.Promises.{PlayedBoots, PlayedWhole}
use Rattle.run_status.specs.declared.status.Status.{Status}
use Rattle.run_status.specs.declared.status.Status.TheVariants as statuses
use Rattle.fwupd_service.specs.declared.reporting.Written.{Written}
use Rattle.fwupd_service.specs.declared.reporting.Written.TheVariants as writes
use Rattle.fwupd_service.specs.Campaigns.{IsBadHistory}
use Rattle.fwupd_service.specs.Telling.{any_fault, any_want}

-- The status of a campaign whose output was written whole, by how it ended, whether memory was wanting, and
-- whether its log tells a fault of the keeper.
abbrev pub ending_status : Ending → Bool → Status
ending_status Ending.Whole fault = if fault then statuses.KeeperFault else statuses.Done
ending_status (Ending.BadHistory entry) fault = statuses.BadHistory entry
ending_status Ending.NoMemory fault = statuses.NoMemory

abbrev pub played_status : Ending → Bool → Bool → Status
played_status ending want fault = if want then statuses.NoMemory else ending_status ending fault

-- A whole output was written, or the sink failed, or memory was wanting.
abbrev pub written_status : Written → Status → Status
written_status writes.Whole status = status
written_status writes.SinkFault status = statuses.SinkFault
written_status writes.NoMemory status = statuses.NoMemory

-- What the sink took of an output.
abbrev pub WasWritten : Written → List ℕ → Option (List ℕ) → Option (List ℕ) → Type 0
WasWritten writes.Whole text before after = Took text before after
WasWritten writes.SinkFault text before after = TookFront text before after
WasWritten writes.NoMemory text before after = TookFront text before after

-- The output of a campaign that ended so was written, whole or in part, and the status tells both.
pub record IsReported (status : Status) (ending : Ending) (wanting : Bool) (log : List Event) (text : List ℕ) (before after : Option (List ℕ)) : Type 0 where
  pub written : Written
  pub took : WasWritten written text before after
  pub status_is : status ≡ written_status written (played_status ending (wanting || any_want log) (any_fault log))

-- All boots were run, and each script was played whole, as far as its boot didn't go off: `means` has those
-- of each client, which its fetches and its steps show. Nothing was left for want of memory, and the output was
-- written whole.
pub record WentWhole (means : ℕ → Means) (c : Campaign) (scripts : List (List (List Item))) (log : List Event) (text : List ℕ) (before after : Option (List ℕ)) : Type 0 where
  pub played : PlayedWhole false c means scripts log
  pub no_want : any_want log ≡ false
  pub took : Took text before after

-- A boot read no history that could be the log's. The boots before were played so, and the output was
-- written whole.
pub record WentBad {K : Type 0} (told : K → List Row → Type 0) (means : ℕ → Means) (entry : ℕ) (c : Campaign) (scripts : List (List (List Item))) (log : List Event) (keeper : K) (text : List ℕ) (before after : Option (List ℕ)) : Type 0 where
  pub count : ℕ
  pub fewer : count < length c.plans
  pub played : PlayedBoots false c means scripts count log
  pub no_want : any_want log ≡ false
  pub bad : IsBadHistory told entry c.basis log keeper
  pub took : Took text before after

-- So many boots were run, and what they played was left at most for want of memory. A front of the output
-- was written, or all of it.
pub record WentSome (means : ℕ → Means) (c : Campaign) (scripts : List (List (List Item))) (log : List Event) (text : List ℕ) (before after : Option (List ℕ)) : Type 0 where
  pub wanting : Bool
  pub count : ℕ
  pub within : count ≤ length c.plans
  pub played : PlayedBoots wanting c means scripts count log
  pub took : TookFront text before after

-- What a status says of a campaign with this log, and of what the sink took of its output.
abbrev pub CampaignEnds : {K : Type 0} → (K → List Row → Type 0) → (ℕ → Means) → Status → Campaign → List (List (List Item)) → List Event → K → List ℕ → Option (List ℕ) → Option (List ℕ) → Type 0
CampaignEnds told means statuses.Done c scripts log keeper text before after =
    (any_fault log ≡ false) × WentWhole means c scripts log text before after
CampaignEnds told means statuses.KeeperFault c scripts log keeper text before after =
    (any_fault log ≡ true) × WentWhole means c scripts log text before after
CampaignEnds told means (statuses.BadHistory entry) c scripts log keeper text before after =
    WentBad told means entry c scripts log keeper text before after
CampaignEnds told means statuses.SinkFault c scripts log keeper text before after = WentSome means c scripts log text before after
CampaignEnds told means statuses.NoMemory c scripts log keeper text before after = WentSome means c scripts log text before after
CampaignEnds told means _ c scripts log keeper text before after = ⊥
