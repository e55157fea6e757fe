-- What an ask gives.
use Rattle.std.specs.Prelude.{◌≡◌, ℕ, List, Option, Some, None, slice_get}
use Rattle.fw_facts.specs.declared.release.Component.{Component}
use Rattle.fw_facts.specs.declared.release.Release.{Release}
use Rattle.release_catalogue.specs.declared.reference.ReleaseRef.{ReleaseRef}
use Rattle.update_log.specs.declared.answer.AskAnswer.{AskAnswer}
use Rattle.update_log.specs.declared.event.Back.{Back}
use Rattle.update_log.specs.declared.facts.Facts.{Facts}
use Rattle.update_log.specs.declared.live.Held.{Held}
use Rattle.update_log.specs.declared.request.Request.{Request}
use Rattle.update_log.specs.Holding.{blocks_of}
use Rattle.daemon_core.specs.declared.hold.Asked.{Asked}
use Rattle.daemon_core.specs.declared.hold.Hold.{Hold}
use Rattle.daemon_core.specs.declared.hold.Ticket.{Ticket}

-- A release stands at this place of a catalogue.
pub record IsReleaseAt (catalogue : List Component) (at : ReleaseRef) (release : Release) : Type 0 where
  pub component : Component
  pub component_is : slice_get catalogue at.component ≡ Some component
  pub release_is : slice_get component.releases at.release ≡ Some release

-- The answer in the log, of what an ask gave.
abbrev pub answer_of : Asked → AskAnswer
answer_of (Asked.Held hold) = AskAnswer.Hold hold.blocks.count hold.ticket.release
answer_of (Asked.Kept entry state) = AskAnswer.Kept entry state
answer_of (Asked.Refused refusal) = AskAnswer.Refused refusal

-- The hold that stands in the log for a ticket and so many blocks.
abbrev pub held_by : Ticket → ℕ → Held
held_by ticket blocks =
    record {
      client = ticket.client;
      request = ticket.request;
      pending = ticket.pending;
      blocks = blocks;
      release = ticket.release;
    }

-- The ticket is this client's, for this request and pending row; and the hold has the digest and the size of its
-- release, and the blocks of that size.
pub record IsHoldFor (facts : Facts) (client : ℕ) (request : Request) (pending : Option ℕ) (hold : Hold) : Type 0 where
  pub client_is : hold.ticket.client ≡ client
  pub request_is : hold.ticket.request ≡ request
  pub pending_is : hold.ticket.pending ≡ pending
  pub blocks_are : hold.blocks.count ≡ blocks_of hold.size
  pub release : Release
  pub release_at : IsReleaseAt facts.catalogue hold.ticket.release release
  pub digest_is : hold.digest ≡ release.digest
  pub size_is : hold.size ≡ release.size

-- So is the hold, where there is one.
abbrev pub HoldsFor : Facts → ℕ → Request → Option ℕ → Asked → Type 0
HoldsFor facts client request pending (Asked.Held hold) = IsHoldFor facts client request pending hold
HoldsFor facts client request pending (Asked.Kept entry state) = Unit {0}
HoldsFor facts client request pending (Asked.Refused refusal) = Unit {0}

-- What is given back with a ticket: the hold of its tag, or of its row that was put off.
abbrev pub back_of : Option ℕ → Request → Back
back_of None request = Back.Tag request.tag
back_of (Some entry) request = Back.Pending entry
