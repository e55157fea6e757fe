-- What `make` prints of a log.
use Rattle.std.specs.Prelude.{ℕ, Bool, true, false, List, ◌++◌, codes, filter, length}
use Rattle.std.specs.Fmt.{decimal}
use Rattle.std.specs.List.{list_any}
use Rattle.emulated_boards.specs.declared.mark.Mark.{Mark}
use Rattle.history_keeper.specs.declared.row.RowState.{RowState}
use Rattle.update_log.specs.declared.answer.AskAnswer.{AskAnswer}
use Rattle.update_log.specs.declared.answer.ClaimAnswer.{ClaimAnswer}
use Rattle.update_log.specs.declared.event.Event.{Event}
use Rattle.command_outputs.specs.declared.counting.Counted.{Counted}
use Rattle.command_outputs.specs.declared.counting.Kind.{Kind}

-- a claim took an entry
abbrev pub is_claimed : Event → Bool
is_claimed (Event.Claim client request fetched (ClaimAnswer.Entry entry)) = true
is_claimed _ = false

-- the mark is the begin of a write
abbrev pub is_began : Mark → Bool
is_began (Mark.Began entry) = true
is_began _ = false

-- the end of a step told the begin of a write
abbrev pub begins_write : Event → Bool
begins_write (Event.End client entry op outcome told seen) = list_any is_began told
begins_write _ = false

-- an entry was finished with success
abbrev pub succeeds : Event → Bool
succeeds (Event.Finish client entry RowState.Success stored) = true
succeeds _ = false

-- an entry was finished as failed
abbrev pub fails : Event → Bool
fails (Event.Finish client entry RowState.Failed stored) = true
fails _ = false

-- an ask was for what a row was there of
abbrev pub is_kept : Event → Bool
is_kept (Event.Ask client request pending (AskAnswer.Kept entry state)) = true
is_kept _ = false

-- the event is of a kind that is counted
abbrev pub is_of : Kind → Event → Bool
is_of Kind.Accepted event = is_claimed event
is_of Kind.Writes event = begins_write event
is_of Kind.Success event = succeeds event
is_of Kind.Failed event = fails event
is_of Kind.Kept event = is_kept event

-- how many events of each kind a log has
abbrev pub counts_of : List Event → Counted
counts_of log = record {
  accepted = length (filter (is_of Kind.Accepted) log);
  writes = length (filter (is_of Kind.Writes) log);
  success = length (filter (is_of Kind.Success) log);
  failed = length (filter (is_of Kind.Failed) log);
  kept = length (filter (is_of Kind.Kept) log);
}

-- the line: how many boards and clients there were, and what the log counts
unfoldable pub before_counts : ℕ → ℕ → List ℕ
before_counts boards clients = codes "boards " ++ decimal boards ++ codes " clients " ++ decimal clients

unfoldable pub counts_text : Counted → List ℕ
counts_text counted =
    codes " accepted " ++ decimal counted.accepted ++ codes " writes " ++ decimal counted.writes
    ++ codes " success " ++ decimal counted.success ++ codes " failed " ++ decimal counted.failed
    ++ codes " kept " ++ decimal counted.kept ++ codes "\n"

abbrev pub summary : ℕ → ℕ → List Event → List ℕ
summary boards clients log = before_counts boards clients ++ counts_text (counts_of log)
