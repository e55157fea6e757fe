-- What a log tells of the faults of shelves, and when a shelf counted them.
use Rattle.std.specs.Prelude.{◌≡◌, ◌⊎◌, ◌≤◌, ◌+◌, ◌-◌, ◌^◌, ◌&&◌, ◌==◌, ℕ, Bool, true, false, List, [], ◌∷◌, Option, Some, option_map, unwrap_or, slice_get, if◌then◌else◌}
use Rattle.update_log.specs.declared.event.Event.{Event}
use Rattle.update_log.specs.declared.refusal.FetchNote.{FetchNote}
use Rattle.update_log.specs.Pasts.{client_of}
use Rattle.client_plays.specs.Moments.{Moment}
use Rattle.client_plays.specs.Tools.{ShelfTold, shelf_of}

-- The fetch was noted as a fault of the shelf.
abbrev pub is_shelf_fault : FetchNote → Bool
is_shelf_fault FetchNote.ShelfFault = true
is_shelf_fault (FetchNote.Whole digest len raw) = false
is_shelf_fault FetchNote.Missing = false
is_shelf_fault (FetchNote.Length found) = false
is_shelf_fault (FetchNote.Mismatch found) = false

abbrev pub is_noted_fault : Option FetchNote → Bool
is_noted_fault fetched = unwrap_or (option_map is_shelf_fault fetched) false

-- How many faults of the shelf a fetch tells that was noted so, if there was one.
abbrev pub faults_noted : Option FetchNote → ℕ
faults_noted fetched = if is_noted_fault fetched then 1 else 0

-- The event tells that the shelf failed with which its client fetched: it is a claim, or a resumption.
abbrev pub tells_shelf_fault : Event → Bool
tells_shelf_fault (Event.Claim client request fetched answer) = is_shelf_fault fetched
tells_shelf_fault (Event.Resume client entry fetched answer stored) = is_noted_fault fetched
tells_shelf_fault _ = false

-- The event is one of a client that has the shelf at this place.
abbrev pub is_of_shelf : ℕ → Event → Bool
is_of_shelf place event = unwrap_or (option_map (λ client. shelf_of client == place) (client_of event)) false

-- How many faults of the shelf at this place a past tells.
abbrev pub shelf_faults : ℕ → List Event → ℕ
shelf_faults place [] = 0
shelf_faults place (event ∷ past) =
    if is_of_shelf place event && tells_shelf_fault event then shelf_faults place past + 1 else shelf_faults place past

-- How many faults of its shelf a client's own events tell.
abbrev pub faults_in : List Moment → ℕ
faults_in [] = 0
faults_in (m ∷ moments) = if tells_shelf_fault m.event then faults_in moments + 1 else faults_in moments

-- A count rose by as many as are told now and weren't before, or stands at its end.
abbrev pub Counted : ℕ → ℕ → ℕ → ℕ → Type 0
Counted before now old new = (now + old ≤ before + new) ⊎ (2 ^ 64 - 1 ≤ new)

-- The shelf counted each fault that its client's own events tell now and didn't before.
abbrev pub FaultsTold : List Moment → List Moment → ℕ → ℕ → Type 0
FaultsTold before now old new = Counted (faults_in before) (faults_in now) old new

-- Each shelf counted each of its faults that the log tells now and didn't before.
abbrev pub ShelvesCount : List Event → List Event → List ShelfTold → List ShelfTold → Type 0
ShelvesCount before now old new =
    (place : ℕ) (was is : ShelfTold) → slice_get old place ≡ Some was → slice_get new place ≡ Some is
    → Counted (shelf_faults place before) (shelf_faults place now) was.faults is.faults
