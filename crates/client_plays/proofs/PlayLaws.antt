-- Plays that were left, and that every play can be begun.
use Rattle.std.proofs.Common.{ℕ, Bool, true, false, List, [], ◌∷◌, refl, inr}
use Rattle.std.specs.Prelude.{Some, None, MatchBool}
use Rattle.history_keeper.specs.declared.row.RowState.{RowState}
use Rattle.update_log.specs.declared.event.Event.{Event}
use Rattle.update_log.specs.declared.event.Query.{Query}
use Rattle.update_log.specs.declared.event.Stored.{Stored}
use Rattle.update_log.specs.declared.answer.AskAnswer.{AskAnswer}
use Rattle.update_log.specs.declared.answer.ClaimAnswer.{ClaimAnswer}
use Rattle.update_log.specs.declared.answer.PlugAnswer.{PlugAnswer}
use Rattle.update_log.specs.declared.answer.ResumeAnswer.{ResumeAnswer}
use Rattle.update_log.specs.declared.refusal.Refusal.{Refusal}
use Rattle.update_log.specs.declared.request.Request.{Request}
use Rattle.device_list.specs.declared.selector.Selector.{Selector}
use Rattle.client_scripts.specs.declared.item.Item.{Item}
use Rattle.client_plays.specs.Moments.{Moment, at}
use Rattle.client_plays.specs.Plays.{Alone, Leaves, Plays, SchedulePlays, InstallPlays, Task, TaskPlays, ToJudge, ToResume}
use Rattle.client_plays.specs.Tools.{Means}
use Rattle.update_log.specs.Known.{Basis}

-- A play that can be played was left before it began.
pub leaves-nothing : (client : ℕ) (Play : List Moment → Type 0) (moments : List Moment) → Play moments → Leaves client Play []
leaves-nothing client Play moments p =
    record {
      front = [];
      rest = moments;
      back = [];
      play = p;
      gave = tt;
      are = refl;
    }

-- Some request.
abbrev some_request : Request
some_request =
    record {
      tag = [];
      device = Selector.Port [];
      version = [];
      flags = record { offline = false; allow_reinstall = false; allow_older = false };
      retry_of = None;
    }

-- Every item has a play.
install-one : (basis : Basis) (means : Means) (client : ℕ) (request : Request) (offline : Bool) → (moments : List Moment) × MatchBool offline (Alone (SchedulePlays client request) moments) (InstallPlays basis means client request moments)
install-one basis means client request true =
    (at [] (Event.Schedule client request (ClaimAnswer.Entry 0)) ∷ [], (ClaimAnswer.Entry 0, refl))
install-one basis means client request false =
    (at [] (Event.Ask client request None (AskAnswer.Refused Refusal.NoDevice)) ∷ [], (AskAnswer.Refused Refusal.NoDevice, refl, refl))

pub item-play : (basis : Basis) (means : Means) (client : ℕ) (item : Item) → (moments : List Moment) × Plays basis means client item moments
item-play basis means client (Item.Ask query) = (at [] (Event.Query client query) ∷ [], refl)
item-play basis means client (Item.Install request) = install-one basis means client request request.flags.offline
item-play basis means client (Item.Settle selector) = (at [] (Event.Query client (Query.Settle selector)) ∷ [], inr refl)
item-play basis means client (Item.Unplug selector) = (at [] (Event.Unplug client selector PlugAnswer.NoDevice) ∷ [], (PlugAnswer.NoDevice, refl))
item-play basis means client (Item.Plug selector) = (at [] (Event.Plug client selector PlugAnswer.NoDevice) ∷ [], (PlugAnswer.NoDevice, refl))

-- So has every task.
pub task-play : (basis : Basis) (means : Means) (task : Task) → (moments : List Moment) × TaskPlays basis means task moments
task-play basis means (ToJudge entry) = (at [] (Event.Judge 0 entry [] RowState.Failed Stored.Yes) ∷ [], ([], RowState.Failed, Stored.Yes, refl))
task-play basis means (ToResume entry) = (
  at [] (Event.Ask 0 some_request (Some entry) (AskAnswer.Refused Refusal.NoDevice))
      ∷ at [] (Event.Resume 0 entry None (ResumeAnswer.Refused Refusal.NoDevice) Stored.Yes) ∷ [],
  (some_request, AskAnswer.Refused Refusal.NoDevice, refl, (None, ResumeAnswer.Refused Refusal.NoDevice, Stored.Yes, refl, refl, refl)),
)

-- So an item, or a task, may be left before it began.
pub item-unplayed : (basis : Basis) (means : Means) (client : ℕ) (item : Item) → Leaves client (Plays basis means client item) []
item-unplayed basis means client item =
    let p = item-play basis means client item in leaves-nothing client (Plays basis means client item) p.0 p.1

pub task-unplayed : (basis : Basis) (means : Means) (client : ℕ) (task : Task) → Leaves client (TaskPlays basis means task) []
task-unplayed basis means client task = let p = task-play basis means task in leaves-nothing client (TaskPlays basis means task) p.0 p.1
