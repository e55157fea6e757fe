-- How a play of one turn ended.
use Rattle.std.proofs.Common.{◌≡◌, ℕ, true, List, [], ◌∷◌, refl, sym, subst}
use Rattle.std.specs.Prelude.{Result, Ok, Err, MatchBool}
use Rattle.device_list.specs.declared.selector.Selector.{Selector}
use Rattle.update_log.specs.declared.answer.ClaimAnswer.{ClaimAnswer}
use Rattle.update_log.specs.declared.answer.PlugAnswer.{PlugAnswer}
use Rattle.update_log.specs.declared.event.Event.{Event}
use Rattle.update_log.specs.declared.event.Query.{Query}
use Rattle.update_log.specs.declared.request.Request.{Request}
use Rattle.daemon_core.specs.declared.stop.Stop.{Stop}
use Rattle.client_scripts.specs.declared.item.Item.{Item}
use Rattle.client_plays.specs.declared.played.Played.{Played}
use Rattle.client_plays.specs.Endings.{IsQuestion, played_of}
use Rattle.client_plays.specs.Moments.{Moment, at}
use Rattle.client_plays.specs.Plays.{Alone, InstallPlays, Leaves, Plays, SchedulePlays}
use Rattle.client_plays.specs.Tools.{Files, Means, files_alone}
use Rattle.client_plays.proofs.WiderLaws.{item-wider}
use Rattle.script_runs.proofs.EndedPlays.{ended-wider}
use Rattle.client_plays.proofs.PlayLaws.{item-unplayed}
use Rattle.turn_lock.specs.Shown.{LockId, PassView}
use Rattle.shared_daemon.specs.declared.entry.Entry.{Entry}
use Rattle.shared_daemon.specs.Calls.{AddsNone, AddsOn, FoundOff, Took, TurnedIn}
use Rattle.shared_daemon.specs.Closings.{IsFreePass}
use Rattle.shared_daemon.specs.Entries.{past_seen}
use Rattle.shared_daemon.specs.Names.{IsPass, Name}
use Rattle.shared_daemon.specs.Questions.{MayAsk}
use Rattle.claim_runs.proofs.Kept.{off-seen}
use Rattle.script_runs.specs.Passes.{Ended}
use Rattle.script_runs.proofs.DidLaws.{IsQuiet, did-none, did-off, did-quiet}
use Rattle.update_log.specs.Known.{Basis}

-- A question of a script may be asked at any time.
pub may-ask : (query : Query) → IsQuestion query → MayAsk query
may-ask (Query.Settle selector) h = h
may-ask _ h = tt

-- The events of these items are quiet.
pub quiet-query : (client : ℕ) (query : Query) → IsQuiet client (Event.Query client query)
quiet-query client query = record { no_boot = refl; own_is = refl; same_holds = λ past. refl; same_live = λ past. refl }

pub quiet-schedule : (client : ℕ) (request : Request) (answer : ClaimAnswer) → IsQuiet client (Event.Schedule client request answer)
quiet-schedule client request answer = record { no_boot = refl; own_is = refl; same_holds = λ past. refl; same_live = λ past. refl }

pub quiet-unplug : (client : ℕ) (device : Selector) (answer : PlugAnswer) → IsQuiet client (Event.Unplug client device answer)
quiet-unplug client device answer = record { no_boot = refl; own_is = refl; same_holds = λ past. refl; same_live = λ past. refl }

pub quiet-plug : (client : ℕ) (device : Selector) (answer : PlugAnswer) → IsQuiet client (Event.Plug client device answer)
quiet-plug client device answer = record { no_boot = refl; own_is = refl; same_holds = λ past. refl; same_live = λ past. refl }

-- An install that is put off.
schedule-plays : (basis : Basis) (means : Means) (client : ℕ) (request : Request) (before : List Event) (answer : ClaimAnswer) → request.flags.offline ≡ true
    → MatchBool request.flags.offline (Alone (SchedulePlays client request) (at before (Event.Schedule client request answer) ∷ [])) (InstallPlays basis means client request (at before (Event.Schedule client request answer) ∷ []))
schedule-plays basis means client request before answer e = rw e (answer, refl)

-- A turn.
module _ {did : List Entry → List Entry → Type 0} (name : Name) (lock : LockId) (old new : PassView Entry) (p : IsPass lock name old) (same : new.number ≡ old.number) (free : IsFreePass old) (t : Took name did old new) where
  -- It put an event behind the log, which is the whole play.
  pub ended-done : (event : Event) (Play : List Moment → Type 0) → IsQuiet old.number event → Play (at (past_seen t.met) event ∷ []) → AddsOn old.number event t.met new.seen → Ended Played.Done Play old new
  ended-done event Play q h a = record { moments = at (past_seen t.met) event ∷ []; did = did-quiet {did = did} name lock old new p same t event q free a; ends = h }

  -- It was answered off.
  pub ended-off : (Play : List Moment → Type 0) → Leaves old.number Play [] → FoundOff old.number t.met new.seen → Ended Played.Off Play old new
  ended-off Play l a = record { moments = []; did = did-off {did = did} name lock old new p same t free a; ends = (l, off-seen old.number t.met new.seen a) }

  -- Memory was wanting.
  pub ended-wanting : (Play : List Moment → Type 0) → Leaves old.number Play [] → AddsNone t.met new.seen → Ended Played.NoMemory Play old new
  ended-wanting Play l a = record { moments = []; did = did-none {did = did} name lock old new p same t free a; ends = record { left = l; untaken = refl } }

-- What was told of it.
pub ended-told : (told played : Played) (Play : List Moment → Type 0) (old new : PassView Entry) → told ≡ played → Ended played Play old new → Ended told Play old new
ended-told told played Play old new e k = subst (λ (x : Played). Ended x Play old new) (sym e) k

-- Any of these.
module _ (name : Name) (lock : LockId) (old new : PassView Entry) (p : IsPass lock name old) (same : new.number ≡ old.number) (free : IsFreePass old) where
  turn-any : {A : Type 0} (event : A → Event) (Play : List Moment → Type 0) (outcome : Result A Stop) → ((answer : A) → IsQuiet old.number (event answer)) → ((answer : A) (before : List Event) → Play (at before (event answer) ∷ [])) → Leaves old.number Play []
      → Took name (TurnedIn old.number event outcome) old new → Ended (played_of outcome) Play old new
  turn-any event Play (Ok answer) q h l t =
      ended-done {did = TurnedIn old.number event (Ok answer)} name lock old new p same free t (event answer) Play (q answer) (h answer (past_seen t.met)) t.does
  turn-any event Play (Err Stop.Off) q h l t =
      ended-off {did = TurnedIn old.number event (Err Stop.Off)} name lock old new p same free t Play l t.does
  turn-any event Play (Err Stop.NoMemory) q h l t =
      ended-wanting {did = TurnedIn old.number event (Err Stop.NoMemory)} name lock old new p same free t Play l t.does

  -- A question.
  pub question-ended : (query : Query) (outcome : Result (Unit {0}) Stop) (told : Played) (means : Means) → told ≡ played_of outcome → Took name (TurnedIn old.number (λ _. Event.Query old.number query) outcome) old new
      → Ended told (Plays name.basis means old.number (Item.Ask query)) old new
  question-ended query outcome told means e t =
      let Play : List Moment → Type 0 = Plays name.basis means old.number (Item.Ask query) in
      ended-told told (played_of outcome) Play old new e
      (turn-any (λ (_ : Unit {0}). Event.Query old.number query) Play outcome (λ _. quiet-query old.number query) (λ _ before. refl)
      (item-unplayed name.basis means old.number (Item.Ask query)) t)

  -- An install that is put off.
  pub schedule-ended : (request : Request) (outcome : Result ClaimAnswer Stop) (told : Played) (means : Means) → told ≡ played_of outcome → request.flags.offline ≡ true → Took name (TurnedIn old.number (λ answer. Event.Schedule old.number request answer) outcome) old new
      → Ended told (Plays name.basis means old.number (Item.Install request)) old new
  schedule-ended request outcome told means e off t =
      let Play : List Moment → Type 0 = Plays name.basis means old.number (Item.Install request) in
      ended-told told (played_of outcome) Play old new e
      (turn-any (λ (answer : ClaimAnswer). Event.Schedule old.number request answer) Play outcome (λ answer. quiet-schedule old.number request answer)
      (λ answer before. schedule-plays name.basis means old.number request before answer off)
      (item-unplayed name.basis means old.number (Item.Install request)) t)

  -- A device that is unplugged, or plugged.
  pub unplug-ended : (device : Selector) (outcome : Result PlugAnswer Stop) (told : Played) (means : Means) → told ≡ played_of outcome → Took name (TurnedIn old.number (λ answer. Event.Unplug old.number device answer) outcome) old new
      → Ended told (Plays name.basis means old.number (Item.Unplug device)) old new
  unplug-ended device outcome told means e t =
      let Play : List Moment → Type 0 = Plays name.basis means old.number (Item.Unplug device) in
      ended-told told (played_of outcome) Play old new e
      (turn-any (λ (answer : PlugAnswer). Event.Unplug old.number device answer) Play outcome (λ answer. quiet-unplug old.number device answer) (λ answer before. (answer, refl))
      (item-unplayed name.basis means old.number (Item.Unplug device)) t)

  pub plug-ended : (device : Selector) (outcome : Result PlugAnswer Stop) (told : Played) (means : Means) → told ≡ played_of outcome → Took name (TurnedIn old.number (λ answer. Event.Plug old.number device answer) outcome) old new
      → Ended told (Plays name.basis means old.number (Item.Plug device)) old new
  plug-ended device outcome told means e t =
      let Play : List Moment → Type 0 = Plays name.basis means old.number (Item.Plug device) in
      ended-told told (played_of outcome) Play old new e
      (turn-any (λ (answer : PlugAnswer). Event.Plug old.number device answer) Play outcome (λ answer. quiet-plug old.number device answer) (λ answer before. (answer, refl))
      (item-unplayed name.basis means old.number (Item.Plug device)) t)

-- A play of an item that needs no plugin, whatever files the shelf has, where that is the item.
pub ended-for : (basis : Basis) (means : Means) (client : ℕ) (item now : Item) (told : Played) (old new : PassView Entry) → now ≡ item → ((any : Files) → Ended told (Plays basis (files_alone any) client item) old new)
    → Ended told (Plays basis means client now) old new
ended-for basis means client item now told old new e k =
    subst (λ (i : Item). Ended told (Plays basis means client i) old new) (sym e)
    (ended-wider told (Plays basis means client item) (Plays basis (files_alone means.files) client item) old new (item-wider basis means client item) (k means.files))
