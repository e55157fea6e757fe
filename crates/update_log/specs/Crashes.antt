-- What a crash may leave of a log, and the boot after it.
use Rattle.std.specs.Prelude.{◌≡◌, ◌⊎◌, ℕ, ◌+◌, IsTrue, List, [], ◌∷◌, ◌++◌, length, Option, Some, None, if◌then◌else◌, slice_get}
use Rattle.fw_facts.specs.Views.{is_home}
use Rattle.fw_facts.specs.declared.seen.Seen.{Seen}
use Rattle.update_log.specs.declared.event.Event.{Event}
use Rattle.update_log.specs.declared.event.Found.{Found}
use Rattle.update_log.specs.declared.event.Stored.{Stored}
use Rattle.update_log.specs.declared.event.BoardSeen.{BoardSeen}
use Rattle.update_log.specs.declared.answer.ClaimAnswer.{ClaimAnswer}
use Rattle.update_log.specs.declared.answer.ResumeAnswer.{ResumeAnswer}
use Rattle.update_log.specs.declared.refusal.Refusal.{Refusal}
use Rattle.update_log.specs.declared.facts.BootPlan.{BootPlan}
use Rattle.update_log.specs.Pasts.{past_of, boots}
use Rattle.update_log.specs.Known.{Basis, doubt}
use Rattle.update_log.specs.Shows.{Campaign, told, FreshShows}
use Rattle.update_log.specs.Legal.{FoundAllowed, is_gone, is_absent}
use Rattle.update_log.specs.Once.{JournalAndView}

-- The event as it is where the keeper fails in place of answering Ok: an entry and a begin become
-- refusal 16, and what was stored is at fault. Any other event has
-- none: a boot that couldn't load is among those that may come next.
abbrev pub faulted : Event → Option Event
faulted (Event.Claim client request fetched (ClaimAnswer.Entry entry)) =
    Some (Event.Claim client request fetched (ClaimAnswer.Refused Refusal.KeeperFault))
faulted (Event.Schedule client request (ClaimAnswer.Entry entry)) =
    Some (Event.Schedule client request (ClaimAnswer.Refused Refusal.KeeperFault))
faulted (Event.Resume client entry fetched ResumeAnswer.Begun stored) =
    Some (Event.Resume client entry fetched (ResumeAnswer.Refused Refusal.KeeperFault) Stored.Fault)
faulted (Event.Resume client entry fetched (ResumeAnswer.Refused refusal) Stored.Yes) =
    Some (Event.Resume client entry fetched (ResumeAnswer.Refused refusal) Stored.Fault)
faulted (Event.Finish client entry state Stored.Yes) = Some (Event.Finish client entry state Stored.Fault)
faulted (Event.Judge client entry version state Stored.Yes) = Some (Event.Judge client entry version state Stored.Fault)
faulted _ = None

-- A crash leaves a past as it was at some moment, or that with its next event at fault.
abbrev pub LeftOf : List Event → List Event → Type 0
LeftOf [] crashed = crashed ≡ []
LeftOf (event ∷ past) crashed =
    (crashed ≡ event ∷ past) ⊎ ((f : Event) × (faulted event ≡ Some f) × (crashed ≡ f ∷ past)) ⊎ LeftOf past crashed

-- The log is what a crash may leave of another: a front of it, or a front followed by its next event
-- at fault.
abbrev pub CrashOf : List Event → List Event → Type 0
CrashOf log crashed = LeftOf (past_of log) (past_of crashed)

-- The campaign of the next boot: the same, where it has a plan for it; or with any one plan more,
-- where it has none left.
abbrev pub NextCampaign : Campaign → List Event → BootPlan → Campaign → Type 0
NextCampaign c past plan after =
    ((slice_get c.plans (boots past) ≡ Some plan) × (after ≡ c))
    ⊎ ((length c.plans ≡ boots past) × (after ≡ record c { plans = c.plans ++ plan ∷ [] }))

-- What a boot may list of a board whose journal is this: it tells the journal's tail, and shows the
-- board gone where the plan says so, else home with what it may show.
pub record TailListed (basis : Basis) (first : List Seen) (past : List Event) (plan : BootPlan) (board : ℕ) (b : BoardSeen) (s : JournalAndView) : Type 0 where
  pub number : b.board ≡ board
  pub presence : IsTrue (if is_absent plan board then is_gone b.seen else is_home b.seen)
  pub tail : s.journal ≡ told basis past board ++ b.untold
  pub shown : FreshShows basis first past board b.untold b.seen

-- A boot by that plan over those boards: it lists each of them, and finds what the doubt lets it find.
pub record IsNextBoot (basis : Basis) (first : List Seen) (past : List Event) (plan : BootPlan) (states : List JournalAndView) (found : Found) (boards : List BoardSeen) : Type 0 where
  pub count : length boards ≡ length basis.facts.sheets
  pub listed : (board : ℕ) (b : BoardSeen) (s : JournalAndView) → slice_get boards board ≡ Some b → slice_get states board ≡ Some s → TailListed basis first past plan board b s
  pub found_is : FoundAllowed found (doubt basis past)

-- That boot.
abbrev pub next_boot : List Event → BootPlan → Found → List BoardSeen → Event
next_boot past plan found boards = Event.Boot (boots past + 1) plan.time plan.limit found boards
