-- That each install of a script which meets all conditions at its time is finished.
use Rattle.std.specs.Prelude.{◌≡◌, ◌⊎◌, ◌<◌, ℕ, true, false, List, ◌∷◌, ◌++◌, Some, None, slice_get}
use Rattle.std.specs.List.{list_any}
use Rattle.release_catalogue.specs.declared.reference.ReleaseRef.{ReleaseRef}
use Rattle.plugin_trait.specs.Steps.{PluginSteps}
use Rattle.update_log.specs.declared.answer.AskAnswer.{AskAnswer}
use Rattle.update_log.specs.declared.answer.ClaimAnswer.{ClaimAnswer}
use Rattle.update_log.specs.declared.decision.Stage.{Stage}
use Rattle.update_log.specs.declared.event.Event.{Event}
use Rattle.update_log.specs.declared.refusal.FetchNote.{FetchNote}
use Rattle.update_log.specs.declared.request.Request.{Request}
use Rattle.update_log.specs.Legal.{IsLegal, next_entry}
use Rattle.update_log.specs.Pasts.{finishes, off}
use Rattle.update_log.specs.Shows.{Campaign}
use Rattle.update_log.specs.Verdicts.{verdict}
use Rattle.update_log.specs.Known.{Basis}
use Rattle.daemon_core.specs.PutOff.{IsAccept}
use Rattle.client_scripts.specs.declared.item.Item.{Item}
use Rattle.client_plays.specs.Scripts.{BootPlayed, items_of}
use Rattle.client_plays.specs.Tools.{Files}
use Rattle.client_plays.specs.Installs.{InBoot, IsThere, NextOf, means_with}

-- What was asked for is claimed next. Where the verdict on the request accepts then too, and the payload of the
-- release is there, the claim takes the next entry, and that is finished behind it; or the shelf failed.
pub record IsFinished (basis : Basis) (files : Files) (client : ℕ) (request : Request) (asked later : List Event) : Type 0 where
  pub release : ReleaseRef
  pub note : FetchNote
  pub answer : ClaimAnswer
  pub next : NextOf client later (Event.Claim client request note answer)
  pub finished : IsAccept (verdict basis (next.between ++ asked) client request (Stage.Claim release)) → IsThere basis.facts files release note
      → ((answer ≡ ClaimAnswer.Entry (next_entry basis (next.between ++ asked))) × (list_any (finishes (next_entry basis (next.between ++ asked))) next.newer ≡ true)) ⊎ (note ≡ FetchNote.ShelfFault)

-- An install of a script was asked for, and where that was accepted it is finished so.
pub record InstallFinishes (basis : Basis) (files : Files) (client : ℕ) (request : Request) (past : List Event) : Type 0 where
  pub answer : AskAnswer
  pub stands : InBoot past (Event.Ask client request None answer)
  pub goes_on : IsAccept (verdict basis stands.before client request Stage.Ask) → IsFinished basis files client request (Event.Ask client request None answer ∷ stands.before) stands.later

-- In every campaign, in a boot that was played whole over a legal log and stayed on: so it is with each install of a
-- script that isn't put off.
abbrev pub InstallsFinish : {Q : Type 0} → (Q → PluginSteps) → Type 0
InstallsFinish {Q = Q} steps =
    (c : Campaign) (plugins : List Q) (files : ℕ → Files) (of_boot : List (List Item)) (past : List Event) (client number : ℕ) (request : Request)
    → IsLegal c past → BootPlayed false c.basis (means_with steps plugins files) of_boot past → off past ≡ false → 0 < client
    → slice_get (items_of of_boot client) number ≡ Some (Item.Install request) → request.flags.offline ≡ false
    → InstallFinishes c.basis (files client) client request past
