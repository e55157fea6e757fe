-- When the scripts of a campaign were played.
use Rattle.std.specs.Prelude.{◌≡◌, ◌⊎◌, ◌<◌, ℕ, Bool, false, ◌&&◌, MatchBool, List, [], ◌∷◌, ◌++◌, Option, None, map, filter, slice_get, unwrap_or, option_map, zero, suc}
use Rattle.fw_facts.specs.declared.view.DeviceView.{DeviceView}
use Rattle.fw_facts.specs.Views.{is_home}
use Rattle.history_keeper.specs.declared.row.Row.{Row}
use Rattle.update_log.specs.declared.event.Event.{Event}
use Rattle.update_log.specs.Pasts.{boots, is_boot, off, past_of}
use Rattle.update_log.specs.Known.{Basis, rows, views}
use Rattle.update_log.specs.Legal.{may_judge}
use Rattle.update_log.specs.Steps.{view_of_row}
use Rattle.offline_updates.specs.Waiting.{entries_where, is_pending}
use Rattle.client_scripts.specs.declared.item.Item.{Item}
use Rattle.client_plays.specs.Idle.{EndsIdle}
use Rattle.client_plays.specs.Left.{PlayedOrLeft}
use Rattle.client_plays.specs.Moments.{DaemonFirst, Moment, began, mine}
use Rattle.client_plays.specs.Plays.{Leaves, Plays, Task, TaskPlays, ToJudge, ToResume}
use Rattle.client_plays.specs.Tools.{Means}

-- The plays of a list of things to do.

-- Events that are two parts, one after the other.
pub record Then (First Rest : List Moment → Type 0) (moments : List Moment) : Type 0 where
  pub first : List Moment
  pub rest : List Moment
  pub are : moments ≡ first ++ rest
  pub first_is : First first
  pub rest_is : Rest rest

-- One thing is played. Where memory was wanting it may be left, before it takes an entry.
abbrev pub PlaysOne : {X : Type 0} → Bool → ℕ → (X → List Moment → Type 0) → X → List Moment → Type 0
PlaysOne wanting client Play x moments = PlayedOrLeft wanting client (Play x) moments

-- All are played, in order.
abbrev pub PlaysAll : {X : Type 0} → Bool → ℕ → (X → List Moment → Type 0) → List X → List Moment → Type 0
PlaysAll wanting client Play [] moments = moments ≡ []
PlaysAll wanting client Play (x ∷ xs) moments =
    Then (PlaysOne wanting client Play x) (PlaysAll wanting client Play xs) moments

-- They are played, in order, until one is left, or to the end.
abbrev pub PlaysUntil : {X : Type 0} → Bool → ℕ → (X → List Moment → Type 0) → List X → List Moment → Type 0
PlaysUntil wanting client Play [] moments = moments ≡ []
PlaysUntil wanting client Play (x ∷ xs) moments =
    Leaves client (Play x) moments ⊎ Then (PlaysOne wanting client Play x) (PlaysUntil wanting client Play xs) moments

-- In a boot that didn't go off all are played, and in one that did they may end early.
abbrev pub PlayedSo : {X : Type 0} → Bool → Bool → ℕ → (X → List Moment → Type 0) → List X → List Moment → Type 0
PlayedSo is_off wanting client Play xs moments =
    MatchBool is_off (PlaysUntil wanting client Play xs moments) (PlaysAll wanting client Play xs moments)

-- What there is to do in a boot.

-- The scripts of a boot, and the items of a client in one; boots and clients count from 1.
abbrev pub numbered : {X : Type 0} → ℕ → List X → Option X
numbered zero xs = None
numbered (suc n) xs = slice_get xs n

abbrev pub scripts_in : List (List (List Item)) → ℕ → List (List Item)
scripts_in scripts boot = unwrap_or (numbered boot scripts) []

abbrev pub items_of : List (List Item) → ℕ → List Item
items_of of_boot client = unwrap_or (numbered client of_boot) []

-- The row can be judged: its state lets it, and its device is there.
abbrev pub is_judgeable : List Event → List DeviceView → Row → Bool
is_judgeable past views row =
    may_judge past row.state row.entry && unwrap_or (option_map (λ v. is_home v.seen) (view_of_row views row)) false

-- What the daemon does by itself in a boot that began so: it judges each row that can be judged, and
-- then resumes each entry that was put off, in the order of the rows.
abbrev pub tasks : Basis → List Event → List Task
tasks basis [] = []
tasks basis (boot ∷ past) =
    map (λ row. ToJudge row.entry) (filter (is_judgeable (boot ∷ past) (views basis (boot ∷ past))) (rows basis (boot ∷ past)))
    ++ map ToResume (entries_where is_pending (rows basis (boot ∷ past)))

-- The boot that runs was played: the daemon did its tasks, each client its script, and nobody else
-- did anything. The daemon's events came before all clients', and the boot ends idle. `wanting` says that
-- memory was wanting; `means` has those of each client.
pub record BootPlayed (wanting : Bool) (basis : Basis) (means : ℕ → Means) (of_boot : List (List Item)) (past : List Event) : Type 0 where
  pub daemon : PlayedSo (off past) wanting 0 (TaskPlays basis (means 0)) (tasks basis (began past)) (mine 0 past)
  pub clients : (client : ℕ) → 0 < client → PlayedSo (off past) wanting client (Plays basis (means client) client) (items_of of_boot client) (mine client past)
  pub order : DaemonFirst past
  pub idle : EndsIdle past

-- The boots before the one that runs were.
abbrev pub EarlierPlayed : Bool → Basis → (ℕ → Means) → List (List (List Item)) → List Event → Type 0
EarlierPlayed wanting basis means scripts [] = Unit {0}
EarlierPlayed wanting basis means scripts (event ∷ past) =
    MatchBool (is_boot event) (BootPlayed wanting basis means (scripts_in scripts (boots past)) past) (Unit {0})
    × EarlierPlayed wanting basis means scripts past

-- All boots of a log were played.
abbrev pub Script : Bool → Basis → (ℕ → Means) → List (List (List Item)) → List Event → Type 0
Script wanting basis means scripts log =
    BootPlayed wanting basis means (scripts_in scripts (boots (past_of log))) (past_of log)
    × EarlierPlayed wanting basis means scripts (past_of log)
