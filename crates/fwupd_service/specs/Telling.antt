-- What a log tells of the keeper, and of want of memory.
use Rattle.std.specs.Prelude.{Bool, true, false, List}
use Rattle.std.specs.List.{list_any}
use Rattle.update_log.specs.declared.event.Event.{Event}
use Rattle.update_log.specs.declared.event.Stored.{Stored}
use Rattle.update_log.specs.Pasts.{meets_fault}

-- nothing was stored, since memory was wanting
abbrev pub is_want : Stored → Bool
is_want Stored.NoMemory = true
is_want Stored.Yes = false
is_want Stored.Fault = false
is_want Stored.Unchanged = false

abbrev pub tells_want : Event → Bool
tells_want (Event.Resume client entry fetched answer stored) = is_want stored
tells_want (Event.Finish client entry state stored) = is_want stored
tells_want (Event.Judge client entry version state stored) = is_want stored
tells_want _ = false

abbrev pub any_fault : List Event → Bool
any_fault log = list_any meets_fault log

abbrev pub any_want : List Event → Bool
any_want log = list_any tells_want log
