-- What the plain program reads of a log.
use Rattle.std.specs.Prelude.{ℕ, Bool, true, false, not, ◌||◌, ◌==◌, ◌+◌, List, [], ◌∷◌, if◌then◌else◌}
use Rattle.std.specs.List.{list_any}
use Rattle.fw_facts.specs.declared.view.DeviceView.{DeviceView}
use Rattle.history_keeper.specs.declared.row.Row.{Row}
use Rattle.update_log.specs.declared.answer.AskAnswer.{AskAnswer}
use Rattle.update_log.specs.declared.answer.ClaimAnswer.{ClaimAnswer}
use Rattle.update_log.specs.declared.answer.ResumeAnswer.{ResumeAnswer}
use Rattle.update_log.specs.declared.decision.Stage.{Stage}
use Rattle.update_log.specs.declared.event.Back.{Back}
use Rattle.update_log.specs.declared.event.Event.{Event}
use Rattle.update_log.specs.declared.facts.Facts.{Facts}
use Rattle.update_log.specs.declared.request.Request.{Request}
use Rattle.update_log.specs.Holding.{blocks_fetched, blocks_fetched_if, held, live}
use Rattle.update_log.specs.Pasts.{past_of}
use Rattle.update_log.specs.Verdicts.{Case}

-- The case of these parts: what is live and held, the log says.
abbrev pub case_over : Facts → List DeviceView → List Row → List Event → ℕ → Request → Stage → Case
case_over facts views rows log client request stage =
    record {
      facts = facts;
      views = views;
      rows = rows;
      live = live (past_of log);
      held = held (past_of log);
      client = client;
      request = request;
      stage = stage;
    }

-- Whether an entry is live after an event, by whether it was before it.
abbrev pub live_said : ℕ → Event → Bool → Bool
live_said entry (Event.Boot number time limit found boards) before = false
live_said entry (Event.Claim client request fetched (ClaimAnswer.Entry taken)) before = before || (taken == entry)
live_said entry (Event.Resume client taken fetched ResumeAnswer.Begun stored) before = before || (taken == entry)
live_said entry (Event.Finish client ended state stored) before = if ended == entry then false else before
live_said entry (Event.GiveBack client (Back.Entry ended)) before = if ended == entry then false else before
live_said entry _ before = before

-- The event ends the hold of a client, or a live entry.
unfoldable pub ends_hold : Event → ℕ → Bool
ends_hold (Event.Boot number time limit found boards) client = true
ends_hold (Event.Ask other request pending (AskAnswer.Hold blocks release)) client = client == other
ends_hold (Event.Claim other request fetched answer) client = client == other
ends_hold (Event.Resume other entry fetched answer stored) client = client == other
ends_hold (Event.GiveBack other what) client = client == other
ends_hold _ client = false

unfoldable pub ends_live : Event → ℕ → Bool
ends_live (Event.Boot number time limit found boards) entry = true
ends_live (Event.Finish client ended state stored) entry = entry == ended
ends_live (Event.GiveBack client (Back.Entry ended)) entry = entry == ended
ends_live _ entry = false

-- None of the events ends it.
abbrev pub lasts : (Event → ℕ → Bool) → List Event → ℕ → Bool
lasts ends later number = not (list_any (λ event. ends event number) later)

-- The blocks that the event gave out, where none of the later ones ends that.
abbrev pub held_since : Event → List Event → ℕ
held_since (Event.Ask client request pending (AskAnswer.Hold blocks release)) later =
    if lasts ends_hold later client then blocks else 0
held_since _ later = 0

abbrev pub live_since : Event → List Event → ℕ
live_since (Event.Claim client request fetched (ClaimAnswer.Entry entry)) later =
    if lasts ends_live later entry then blocks_fetched fetched else 0
live_since (Event.Resume client entry fetched ResumeAnswer.Begun stored) later =
    if lasts ends_live later entry then blocks_fetched_if fetched else 0
live_since _ later = 0

-- The blocks of all holds of a log, and of all its live entries: of each event, what it gave out and is
-- still out.
abbrev pub held_in : List Event → ℕ
held_in [] = 0
held_in (event ∷ later) = held_since event later + held_in later

abbrev pub live_in : List Event → ℕ
live_in [] = 0
live_in (event ∷ later) = live_since event later + live_in later
