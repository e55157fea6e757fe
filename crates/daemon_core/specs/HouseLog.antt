-- What the type of the house log keeps.
use Rattle.std.specs.Prelude.{◌≡◌, ◌≤◌, ◌<◌, ◌+◌, ◌^◌, ◌-◌, ℕ, true, false, List, [], ◌∷◌, ◌++◌, length, Result, Ok, Err, IfSome, ◌⊎◌}
use Rattle.fw_facts.specs.declared.seen.Seen.{Seen}
use Rattle.update_log.specs.declared.event.Event.{Event}
use Rattle.update_log.specs.declared.facts.Facts.{Facts}
use Rattle.core_state.specs.Core.{Stands}
use Rattle.update_log.specs.Pasts.{AllFaults, boots, client_of, off, time_of}
use Rattle.update_log.specs.Legal.{Allowed, BelowLimit, IsLegal}
use Rattle.update_log.specs.declared.facts.BootPlan.{BootPlan}
use Rattle.update_log.specs.Shows.{campaign_on}
use Rattle.update_log.specs.Known.{Basis}
use Rattle.daemon_core.specs.Housed.{basis_in, HouseLogView, past_in}
use Rattle.daemon_core.specs.Owed.{owed}
use Rattle.daemon_core.specs.declared.stop.Stop.{Stop}

-- The past is legal in some campaign over this basis with these first images: the plans of its boots are
-- those that it was given.
abbrev pub IsLegalSo : Basis → List Seen → List Event → Type 0
IsLegalSo basis first past = (plans : List BootPlan) × IsLegal (campaign_on basis first plans) past

-- The event may come after the past as its kind wants it, whatever the plans of the boots are.
abbrev pub IsAllowedSo : Basis → List Seen → List Event → Event → Type 0
IsAllowedSo basis first past event = (plans : List BootPlan) → Allowed (campaign_on basis first plans) past event

-- Each event of a client was made by that client. A boot's maker is the daemon, and a cut's the client
-- that met it.
abbrev pub IsMadeBy : Event → ℕ → Type 0
IsMadeBy event maker = IfSome (client_of event) (λ client. client ≡ maker)

abbrev pub MadeBy : List Event → List ℕ → Type 0
MadeBy [] [] = Unit {0}
MadeBy [] (maker ∷ makers) = ⊥
MadeBy (event ∷ log) [] = ⊥
MadeBy (event ∷ log) (maker ∷ makers) = IsMadeBy event maker × MadeBy log makers

-- The log is legal, and what stands for it does; until a boot took the rows that it loaded, each event is
-- a boot that couldn't read the history, and the keeper wasn't opened again; and there is room for what
-- must not want memory.
pub record IsHouseLog (a : HouseLogView) : Type 0 where
  pub legal : IsLegalSo (basis_in a) a.first (past_in a)
  pub stands : Stands (basis_in a) a.core
  pub makers : MadeBy a.core.log a.makers
  pub few : length a.facts.sheets ≤ 256
  pub firsts : length a.first ≡ length a.facts.sheets
  pub unloaded : a.loaded ≡ false → AllFaults (past_in a)
  pub unopened : a.loaded ≡ false → a.reopened ≡ false
  pub room : owed (past_in a) ≤ a.room
  pub few_boots : boots (past_in a) < 2 ^ 32
  pub timely : time_of (past_in a) ≤ 2 ^ 63 - 1

-- What no event but a boot changes.
pub record SameFacts (old new : HouseLogView) : Type 0 where
  pub facts : new.facts ≡ old.facts
  pub first : new.first ≡ old.first
  pub opening : new.opening ≡ old.opening
  pub loaded : new.loaded ≡ old.loaded
  pub reopened : new.reopened ≡ old.reopened

-- Nothing was put behind the log.
pub record Unchanged (old new : HouseLogView) : Type 0 where
  pub same : SameFacts old new
  pub log : new.core.log ≡ old.core.log
  pub makers : new.makers ≡ old.makers

-- One event was put behind the log, which this client made.
pub record Appended (client : ℕ) (event : Event) (old new : HouseLogView) : Type 0 where
  pub same : SameFacts old new
  pub log : new.core.log ≡ old.core.log ++ event ∷ []
  pub makers : new.makers ≡ old.makers ++ client ∷ []

-- Only the room is another.
abbrev pub roomier : HouseLogView → HouseLogView → HouseLogView
roomier old new =
    record old { core = record old.core { room = new.core.room; row_room = new.core.row_room }; room = new.room }

-- The boot runs: it isn't off, and its power isn't cut yet.
pub record Runs (a : HouseLogView) : Type 0 where
  pub on : off (past_in a) ≡ false
  pub below : BelowLimit (past_in a)

-- A turn began: the boot runs, and there is room for what is owed and so many events more, and for a row.
pub record Ready (events : ℕ) (old new : HouseLogView) : Type 0 where
  pub runs : Runs old
  pub loaded : old.loaded ≡ true
  pub room : owed (past_in old) + events ≤ new.room
  pub row_room : 1 ≤ new.core.row_room
  pub same : new ≡ roomier old new

-- The turn didn't begin: the boot was off already, or its power was cut now.
abbrev pub IsOff : ℕ → HouseLogView → HouseLogView → Type 0
IsOff client old new =
    ((off (past_in old) ≡ true) × (new ≡ old))
    ⊎ ((off (past_in old) ≡ false) × (old.loaded ≡ true) × Appended client Event.Cut old new)

-- What became of entering a turn.
abbrev pub Entered : {A : Type 0} → ℕ → ℕ → Result A Stop → HouseLogView → HouseLogView → Type 0
Entered client events (Ok _) old new = Ready events old new
Entered client events (Err Stop.Off) old new = IsOff client old new
Entered client events (Err Stop.NoMemory) old new = (off (past_in old) ≡ false) × (new ≡ roomier old new)

-- Nothing happened yet, no rows were loaded, and the keeper wasn't opened again.
pub record IsBlank (facts : Facts) (first : List Seen) (a : HouseLogView) : Type 0 where
  pub facts_are : a.facts ≡ facts
  pub first_are : a.first ≡ first
  pub opening : a.opening ≡ []
  pub loaded : a.loaded ≡ false
  pub reopened : a.reopened ≡ false
  pub log : a.core.log ≡ []
  pub makers : a.makers ≡ []
