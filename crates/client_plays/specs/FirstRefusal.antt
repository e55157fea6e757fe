-- Which refusal comes first: the law that a refusal which is given is met, and that none which is tested before it is.
use Rattle.std.specs.Prelude.{◌≡◌, ◌<◌, ◌==◌, ◌+◌, nat_le, ℕ, Bool, false, not, if◌then◌else◌, Option, Some, None, is_some, option_and_then}
use Rattle.update_log.specs.declared.decision.Decision.{Decision}
use Rattle.update_log.specs.declared.refusal.Refusal.{Refusal}
use Rattle.update_log.specs.Known.{Target, refusal_number, target}
use Rattle.update_log.specs.Verdicts.{Case, busy, decided, hindered, installed, is_that_release, locked, no_room, not_updatable, older, out_of_size, present, retry, rows_full, unmet, unsettled, vetoed, where_so}

-- The target of the case's request, where its device is found and has the release.
abbrev pub target_in : Case → Option Target
target_in c = target c.facts c.views c.request

-- There is a target, and its release is the one that the request had.
abbrev pub has_release : Case → Option Target → Bool
has_release c None = false
has_release c (Some t) = is_that_release c t.chosen

-- What the test of a kind of refusals finds, by itself. A payload and the history's keeper are no part of a decision.
abbrev pub found_by : Case → Refusal → Option Refusal
found_by c Refusal.NoDevice = where_so (not (is_some (present c))) Refusal.NoDevice
found_by c Refusal.NoRelease = where_so (not (has_release c (target_in c))) Refusal.NoRelease
found_by c (Refusal.Busy entry) = option_and_then (busy c) (target_in c)
found_by c (Refusal.Unsettled entry) = option_and_then (unsettled c) (target_in c)
found_by c Refusal.NotUpdatable = option_and_then (not_updatable c) (target_in c)
found_by c Refusal.Locked = option_and_then (locked c) (target_in c)
found_by c (Refusal.Problem problem) = option_and_then (hindered c) (target_in c)
found_by c Refusal.SameVersion = option_and_then (installed c) (target_in c)
found_by c Refusal.Older = option_and_then (older c) (target_in c)
found_by c (Refusal.Unmet requirement) = option_and_then (unmet c) (target_in c)
found_by c (Refusal.Veto plugin) = option_and_then (vetoed c) (target_in c)
found_by c (Refusal.Size len min max) = option_and_then (out_of_size c) (target_in c)
found_by c (Refusal.NoRoom blocks left) = option_and_then (no_room c) (target_in c)
found_by c (Refusal.Payload note) = None
found_by c Refusal.RowsFull = option_and_then (rows_full c) (target_in c)
found_by c Refusal.KeeperFault = None
found_by c (Refusal.Retry fault) = option_and_then (retry c) (target_in c)

-- The place of a refusal's test among all: they are tested in the order of their numbers, but for 17, which is tested right
-- behind 4.
abbrev pub place_of_number : ℕ → ℕ
place_of_number number = if number == 17 then 5 else (if nat_le number 4 then number else number + 1)

abbrev pub test_place : Refusal → ℕ
test_place refusal = place_of_number (refusal_number refusal)

-- A refusal is the one that its own test finds, and each test before that finds none.
pub record IsFirst (c : Case) (refusal : Refusal) : Type 0 where
  pub met : found_by c refusal ≡ Some refusal
  pub none_before : (other : Refusal) → test_place other < test_place refusal → found_by c other ≡ None

-- So it is with each refusal that is decided.
abbrev pub FirstIsNamed : Type 0
FirstIsNamed = (c : Case) (refusal : Refusal) → decided c ≡ Decision.Refused refusal → IsFirst c refusal
