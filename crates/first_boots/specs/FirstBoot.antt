-- A first boot by its plan, of boards as they are made.
use Rattle.std.specs.Prelude.{◌≡◌, ℕ, suc, List, [], ◌∷◌, if◌then◌else◌}
use Rattle.fw_facts.specs.declared.seen.Mode.{Mode}
use Rattle.fw_facts.specs.declared.seen.Seen.{Seen}
use Rattle.emulated_boards.specs.declared.image.Image.{Image}
use Rattle.emulated_boards.specs.Boards.{BoardState}
use Rattle.emulated_boards.specs.Conditions.{fresh, view_of}
use Rattle.update_log.specs.declared.event.BoardSeen.{BoardSeen}
use Rattle.update_log.specs.declared.event.Event.{Event}
use Rattle.update_log.specs.declared.event.Found.{Found}
use Rattle.update_log.specs.declared.facts.BootPlan.{BootPlan}
use Rattle.update_log.specs.Legal.{is_absent}

-- A board as it is made runs its first image, in its port.
abbrev pub IsAsMade : BoardState → Type 0
IsAsMade board = (image : Image) × (board.condition ≡ fresh image)

-- What a board shows.
abbrev pub shown_by : BoardState → Seen
shown_by board = view_of board.condition

-- That is its image at home; only a bad one, of the raw version 0, leaves it in its boot loader.
abbrev pub IsFirstShown : Seen → Type 0
IsFirstShown (Seen.Home raw Mode.Runtime) = Unit {0}
IsFirstShown (Seen.Home raw Mode.Bootloader) = raw ≡ 0
IsFirstShown Seen.Gone = ⊥
IsFirstShown Seen.Stranger = ⊥

-- What a board shows in the boot, by its number: nothing where it is absent.
abbrev pub seen_at : BootPlan → ℕ → Seen → Seen
seen_at plan number shown = if is_absent plan number then Seen.Gone else shown

-- The boards of which nothing is told, as the boot finds them, numbered on from this number.
abbrev pub listed_from : BootPlan → ℕ → List Seen → List BoardSeen
listed_from plan number [] = []
listed_from plan number (shown ∷ more) =
    record { board = number; seen = seen_at plan number shown; untold = [] } ∷ listed_from plan (suc number) more

-- The boot of boards that show this where they are there.
abbrev pub first_boot : BootPlan → List Seen → Event
first_boot plan shown = Event.Boot 1 plan.time plan.limit Found.Plain (listed_from plan 0 shown)
