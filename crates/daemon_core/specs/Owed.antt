-- Room that is kept for events which must not want memory.
use Rattle.std.specs.Prelude.{ℕ, Bool, ◌+◌, ◌*◌, ◌-◌, List, length, sum_by, if◌then◌else◌}
use Rattle.update_log.specs.declared.event.Event.{Event}
use Rattle.update_log.specs.Holding.{holds, live}
use Rattle.update_log.specs.Once.{strokes}
use Rattle.update_log.specs.Pasts.{off}

-- In a boot that is off, all is given back by one event each.

-- A hold may meet a cut, and is given back.
abbrev pub hold_needs : Bool → ℕ
hold_needs is_off = if is_off then 1 else 2

-- What a live entry may still need: of six steps the starts and ends that haven't come, the finish, a
-- cut, and what is given back.
abbrev pub entry_needs : Bool → ℕ → ℕ
entry_needs is_off strokes = if is_off then 1 else (12 - strokes) + 3

-- What all holds and live entries may still need.
abbrev pub owed : List Event → ℕ
owed past =
    hold_needs (off past) * length (holds past)
    + sum_by (λ l. entry_needs (off past) (length (strokes l.entry past))) (live past)
