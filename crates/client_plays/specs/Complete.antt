-- What a claim, an install and a resumption come to whose request is accepted and whose payload lies on the
-- shelf.
use Rattle.std.specs.Prelude.{◌≡◌, ◌⊎◌, ℕ, List, length, None, Some}
use Rattle.sha2.specs.Sha256.{sha256}
use Rattle.fw_facts.specs.declared.release.Release.{Release}
use Rattle.outer_traits.specs.Shelves.{file_of}
use Rattle.release_catalogue.specs.declared.reference.ReleaseRef.{ReleaseRef}
use Rattle.history_keeper.specs.declared.row.Row.{Row}
use Rattle.update_log.specs.declared.answer.AskAnswer.{AskAnswer}
use Rattle.update_log.specs.declared.answer.ClaimAnswer.{ClaimAnswer}
use Rattle.update_log.specs.declared.answer.ResumeAnswer.{ResumeAnswer}
use Rattle.update_log.specs.declared.decision.Stage.{Stage}
use Rattle.update_log.specs.declared.event.Event.{Event}
use Rattle.update_log.specs.declared.event.Stored.{Stored}
use Rattle.update_log.specs.declared.facts.Facts.{Facts}
use Rattle.update_log.specs.declared.live.Held.{Held}
use Rattle.update_log.specs.declared.refusal.FetchNote.{FetchNote}
use Rattle.update_log.specs.declared.refusal.Refusal.{Refusal}
use Rattle.update_log.specs.declared.request.Request.{Request}
use Rattle.update_log.specs.Holding.{hold}
use Rattle.update_log.specs.Legal.{Allowed, ClaimAllowed, ResumeAllowed, next_entry}
use Rattle.update_log.specs.Pasts.{last_of}
use Rattle.update_log.specs.Shows.{Campaign}
use Rattle.update_log.specs.Verdicts.{verdict}
use Rattle.update_log.specs.Known.{Basis}
use Rattle.daemon_core.specs.Holds.{IsReleaseAt}
use Rattle.daemon_core.specs.PutOff.{IsAccept}
use Rattle.client_plays.specs.Shelves.{IsFetched}
use Rattle.client_plays.specs.Tools.{Files}

-- A shelf tells its files, and has the payload of a release: under the digest of the release lie bytes of its
-- size that have this SHA-256.
pub record HasPayload (facts : Facts) (files : Files) (at : ReleaseRef) : Type 0 where
  pub all : List (List ℕ × List ℕ)
  pub told : files ≡ Some all
  pub release : Release
  pub there : IsReleaseAt facts.catalogue at release
  pub bytes : List ℕ
  pub lies : file_of all release.digest ≡ Some bytes
  pub size : length bytes ≡ release.size
  pub digest : sha256 bytes ≡ release.digest

-- A client can take an entry: the verdict on its request at the claim accepts, and its shelf has the payload
-- of the release of its hold.
pub record CanTake (basis : Basis) (past : List Event) (files : Files) (client : ℕ) (request : Request) (held : Held) : Type 0 where
  pub accepted : IsAccept (verdict basis past client request (Stage.Claim held.release))
  pub payload : HasPayload basis.facts files held.release

-- The claim is answered with the next entry, or the history couldn't be written, or the shelf failed.
abbrev pub Takes : ℕ → FetchNote → ClaimAnswer → Type 0
Takes next fetched answer =
    (answer ≡ ClaimAnswer.Entry next) ⊎ (answer ≡ ClaimAnswer.Refused Refusal.KeeperFault) ⊎ (fetched ≡ FetchNote.ShelfFault)

-- In every campaign and after every past, a claim of a client that can take an entry takes the next one,
-- unless the keeper or the shelf failed: the claim is one that the log allows, and its note is what a fetch
-- tells of that shelf.
abbrev pub ClaimsComplete : Type 0
ClaimsComplete =
    (c : Campaign) (past : List Event) (client : ℕ) (request : Request) (note : FetchNote) (answer : ClaimAnswer) (files : Files) (held : Held)
    → ClaimAllowed c.basis past client request note answer held → IsFetched c.basis.facts files held.release note
    → CanTake c.basis past files client request held → Takes (next_entry c.basis past) note answer

-- A client can install what it asked for: its last event of the boot that runs is the ask, which was answered
-- with a hold for this release; the verdict on the request still accepts at the claim; and its shelf has the
-- payload of that release.
pub record CanInstall (basis : Basis) (past : List Event) (files : Files) (client : ℕ) (request : Request) (release : ReleaseRef) : Type 0 where
  pub blocks : ℕ
  pub asked : last_of client past ≡ Some (Event.Ask client request None (AskAnswer.Hold blocks release))
  pub accepted : IsAccept (verdict basis past client request (Stage.Claim release))
  pub payload : HasPayload basis.facts files release

-- In every campaign and after every past, whatever other clients did since the ask, the claim of an install
-- that the client can do takes the next entry, unless the keeper or the shelf failed: the claim is one that the
-- log allows, and its note is what a fetch of the release that was asked for tells of that shelf.
abbrev pub InstallsComplete : Type 0
InstallsComplete =
    (c : Campaign) (past : List Event) (client : ℕ) (request : Request) (release : ReleaseRef) (note : FetchNote) (answer : ClaimAnswer) (files : Files)
    → Allowed c past (Event.Claim client request note answer) → IsFetched c.basis.facts files release note
    → CanInstall c.basis past files client request release → Takes (next_entry c.basis past) note answer

-- The daemon can resume the row of an entry that was put off: the verdict on the request of its hold at the
-- resumption accepts, and its shelf has the payload of the release of its hold.
pub record CanResume (basis : Basis) (past : List Event) (files : Files) (entry : ℕ) (held : Held) : Type 0 where
  pub holds : hold past 0 ≡ Some held
  pub accepted : IsAccept (verdict basis past 0 held.request (Stage.Resume entry held.release))
  pub payload : HasPayload basis.facts files held.release

-- The resumption is answered that it begins, or the history couldn't be written, or the shelf failed.
abbrev pub Resumes : FetchNote → ResumeAnswer → Type 0
Resumes fetched answer =
    (answer ≡ ResumeAnswer.Begun) ⊎ (answer ≡ ResumeAnswer.Refused Refusal.KeeperFault) ⊎ (fetched ≡ FetchNote.ShelfFault)

-- In every campaign and after every past, a resumption for which a payload was fetched begins where the daemon
-- can resume the row, unless the keeper or the shelf failed.
abbrev pub ResumptionsComplete : Type 0
ResumptionsComplete =
    (c : Campaign) (past : List Event) (client entry : ℕ) (note : FetchNote) (answer : ResumeAnswer) (stored : Stored) (row : Row) (files : Files) (held : Held)
    → ResumeAllowed c.basis past client entry (Some note) answer stored row → IsFetched c.basis.facts files held.release note
    → CanResume c.basis past files entry held → Resumes note answer
