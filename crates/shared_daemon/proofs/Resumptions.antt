-- Resumptions, on the log of a house.
use Rattle.std.proofs.Common.{◌≡◌, ℕ, false, List, refl, sym, ◌∙◌, subst, inl, inr}
use Rattle.std.specs.Prelude.{Option, Some, None, Result, Ok, Err}
use Rattle.history_keeper.specs.declared.row.Row.{Row}
use Rattle.history_keeper.specs.Signs.{KeeperSigns}
use Rattle.update_log.specs.declared.answer.ResumeAnswer.{ResumeAnswer}
use Rattle.update_log.specs.declared.event.Event.{Event}
use Rattle.update_log.specs.declared.event.Stored.{Stored}
use Rattle.update_log.specs.declared.facts.Facts.{Facts}
use Rattle.update_log.specs.declared.refusal.FetchNote.{FetchNote}
use Rattle.update_log.specs.Holding.{hold}
use Rattle.update_log.specs.Known.{row_of}
use Rattle.update_log.specs.Legal.{IsFree}
use Rattle.update_log.specs.Pasts.{last_of}
use Rattle.daemon_core.specs.declared.claimed.Claimed.{Claimed}
use Rattle.daemon_core.specs.declared.fetched.Fetched.{Fetched}
use Rattle.daemon_core.specs.declared.hold.Ticket.{Ticket}
use Rattle.daemon_core.specs.declared.resumed.ResumeStop.{ResumeStop}
use Rattle.daemon_core.specs.declared.stop.Stop.{Stop}
use Rattle.daemon_core.specs.HouseLog.{IsHouseLog}
use Rattle.daemon_core.specs.Claims.{IsTaken}
use Rattle.daemon_core.specs.Fetches.{IsFetchOf, block_count}
use Rattle.daemon_core.specs.Holds.{held_by}
use Rattle.daemon_core.specs.Housed.{HouseLogView, Housed}
use Rattle.daemon_core.specs.Resumes.{ComesIn, IsPutOff, ResumeGave, ResumeTurned, StoppedBy}
use Rattle.turn_lock.specs.Lists.{AddsAtMostOne}
use Rattle.shared_daemon.specs.declared.entry.Entry.{Entry}
use Rattle.shared_daemon.specs.Calls.{WasSeen}
use Rattle.shared_daemon.specs.Entries.{chronicle, entries_in, maker_of, past_seen}
use Rattle.daemon_core.specs.Planned.{HavePlans}
use Rattle.shared_daemon.specs.Names.{KeepsName, Name}
use Rattle.shared_daemon.specs.Resumed.{MayResumeRow, ResumeGaveIn, ResumedIn, StoppedIn}
use Rattle.shared_daemon.proofs.Keeping.{Grew, calm-grew, off-calm}
use Rattle.shared_daemon.proofs.Logs.{entries-appended, entries-same}
use Rattle.shared_daemon.proofs.Others as others
use Rattle.daemon_core.proofs.Planned.{taken-planned}
use Rattle.shared_daemon.proofs.Seeing.{from-name, stays, to-name}
use Rattle.shared_daemon.proofs.Stayed.{pending-met, rows-met}
use Rattle.shared_daemon.proofs.Turning.{adds-none, adds-off, adds-on, found-off, off-in}

stopped-in : (stop : Stop) (old new : HouseLogView) → IsHouseLog old → StoppedBy stop old new → StoppedIn stop (entries_in old) (entries_in new)
stopped-in Stop.Off old new k s = found-off 0 old new k s
stopped-in Stop.NoMemory old new k s = (off-in old false k s.0, entries-same old new s.1)

stopped-grew : (stop : Stop) (old new : HouseLogView) → StoppedBy stop old new → Grew 0 old new
stopped-grew Stop.Off old new s = calm-grew 0 old new (off-calm 0 old new s)
stopped-grew Stop.NoMemory old new s = inl s.1

stopped-adds : (stop : Stop) (met log : List Entry) → StoppedIn stop met log → AddsAtMostOne maker_of 0 met log
stopped-adds Stop.Off met log s = adds-off 0 met log s
stopped-adds Stop.NoMemory met log s = adds-none 0 met log s

pub resumed-in : (entry : ℕ) (fetched : Option FetchNote) (result : Result Claimed ResumeStop) (old new : HouseLogView) → IsHouseLog old → ResumeTurned entry fetched result old new → ResumedIn entry fetched result (entries_in old) (entries_in new)
resumed-in entry fetched (Ok (Claimed.Taken taken)) old new k t = (off-in old false k t.0.on, entries-appended 0 (Event.Resume 0 entry fetched ResumeAnswer.Begun Stored.Yes) old new k t.1)
resumed-in entry fetched (Ok (Claimed.Kept kept state)) old new k t = absurd t
resumed-in entry fetched (Ok (Claimed.Refused refusal)) old new k t = (t.1.0, t.1.1, (off-in old false k t.0.on, entries-appended 0 (Event.Resume 0 entry fetched (ResumeAnswer.Refused refusal) t.1.0) old new k t.1.2))
resumed-in entry fetched (Err stopped) old new k t = stopped-in stopped.stop old new k t

pub resumed-named : {K : Type 0} (entry : ℕ) (fetched : Option FetchNote) (result : Result Claimed ResumeStop) (self inside new : Housed K) → inside ≡ self → IsHouseLog inside.house_log → ResumeTurned entry fetched result inside.house_log new.house_log → ResumedIn entry fetched result (chronicle self) (chronicle new)
resumed-named {K} entry fetched result self inside new e k t =
    subst (λ (h : Housed K). ResumedIn entry fetched result (chronicle h) (chronicle new)) e (resumed-in entry fetched result inside.house_log new.house_log k t)

pub resumed-grew : (entry : ℕ) (fetched : Option FetchNote) (result : Result Claimed ResumeStop) (old new : HouseLogView) → ResumeTurned entry fetched result old new → Grew 0 old new
resumed-grew entry fetched (Ok (Claimed.Taken taken)) old new t = inr (Event.Resume 0 entry fetched ResumeAnswer.Begun Stored.Yes, refl, t.1)
resumed-grew entry fetched (Ok (Claimed.Kept kept state)) old new t = absurd t
resumed-grew entry fetched (Ok (Claimed.Refused refusal)) old new t = inr (Event.Resume 0 entry fetched (ResumeAnswer.Refused refusal) t.1.0, refl, t.1.2)
resumed-grew entry fetched (Err stopped) old new t = stopped-grew stopped.stop old new t

pub resumed-adds : (entry : ℕ) (fetched : Option FetchNote) (result : Result Claimed ResumeStop) (met log : List Entry) → ResumedIn entry fetched result met log → AddsAtMostOne maker_of 0 met log
resumed-adds entry fetched (Ok (Claimed.Taken taken)) met log t = adds-on 0 (Event.Resume 0 entry fetched ResumeAnswer.Begun Stored.Yes) met log t
resumed-adds entry fetched (Ok (Claimed.Kept kept state)) met log t = absurd t
resumed-adds entry fetched (Ok (Claimed.Refused refusal)) met log t = adds-on 0 (Event.Resume 0 entry fetched (ResumeAnswer.Refused refusal) t.0) met log t.2
resumed-adds entry fetched (Err stopped) met log t = stopped-adds stopped.stop met log t

pub resumed-gave : {K : Type 0} (signs : KeeperSigns K) (name : Name) (entry : ℕ) (held : Option (Ticket × Fetched)) (result : Result Claimed ResumeStop) (old new : Housed K) → KeepsName signs name new → IsHouseLog new.house_log → HavePlans name.plans old.places → ResumeGave entry held result old new
    → ResumeGaveIn name entry held result (chronicle new)
resumed-gave signs name entry held (Ok (Claimed.Taken taken)) old new n k p g = (
  g.0,
  g.1,
  record {
    number = g.3.0;
    is = to-name signs name new n k (λ base s es. IsTaken base s es 0 taken g.3.0) g.3.1;
    planned = taken-planned name.plans old.places g.3.0 taken p g.3.3;
  },
)
resumed-gave signs name entry held (Ok (Claimed.Kept kept state)) old new n k p g = absurd g
resumed-gave signs name entry held (Ok (Claimed.Refused refusal)) old new n k p g = tt
resumed-gave signs name entry held (Err stopped) old new n k p g = g.2

module _ {K : Type 0} (signs : KeeperSigns K) (name : Name) (h : Housed K) (entry : ℕ) where
  pub put_off-met : (held : Option (Ticket × Fetched)) → KeepsName signs name h → IsHouseLog h.house_log → WasSeen name 0 (MayResumeRow name entry held) (chronicle h) → IsPutOff h.house_log entry
  put_off-met held n k w =
      let m = w.holds in
      record {
        row = m.row;
        row_is = subst (λ (all : List Row). row_of all entry ≡ Some m.row) (sym (rows-met signs name 0 h n k)) (pending-met name 0 w.seen (chronicle h) entry m.row w.log w.meets refl m.row_is m.pending);
        pending = m.pending;
      }

  pub comes-in-met : (held : Option (Ticket × Fetched)) → KeepsName signs name h → IsHouseLog h.house_log → WasSeen name 0 (MayResumeRow name entry held) (chronicle h) → ComesIn h.house_log entry held
  comes-in-met (Some held) n k w =
      let m = w.holds.has in
      record {
        held_is =
            from-name signs name h n k (λ base s p. hold p 0 ≡ Some (held_by held.0 (block_count held.1)))
            (others.hold-stays name.basis name.first 0 (past_seen w.seen) (past_seen (chronicle h)) (stays name 0 w.seen (chronicle h) w.log w.meets) ∙ m.held_is);
        pending_is = m.pending_is;
        whole = subst (λ (f : Facts). IsFetchOf f held.0.release held.1) (sym n.facts_are) m.whole;
      }
  comes-in-met None n k w =
      let m = w.holds.has in (
        m.refusal,
        record {
          free =
              from-name signs name h n k (λ base s p. IsFree p 0)
              (others.free-stays name.basis name.first 0 (past_seen w.seen) (past_seen (chronicle h)) (stays name 0 w.seen (chronicle h) w.log w.meets) m.free);
          event = m.event;
          last =
              from-name signs name h n k (λ base s p. last_of 0 p ≡ Some m.event)
              (others.last-stays name.basis name.first 0 (past_seen w.seen) (past_seen (chronicle h)) (stays name 0 w.seen (chronicle h) w.log w.meets) ∙ m.last);
          refused = m.refused;
        },
      )
