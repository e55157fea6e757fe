-- The end of a report of the history.
use Rattle.std.proofs.Common.{◌≡◌, ℕ, List, refl, sym, subst, inr}
use Rattle.std.specs.Prelude.{Option, Result, Ok, Err}
use Rattle.history_keeper.specs.declared.row.Row.{Row}
use Rattle.history_keeper.specs.Histories.{IsHistory}
use Rattle.report_queue.specs.declared.reporting.ReportEnd.{ReportEnd}
use Rattle.report_queue.specs.declared.stop.SendStop.{SendStop}
use Rattle.report_queue.specs.declared.stop.SendStop.TheVariants as stops
use Rattle.report_queue.specs.Answers.{Sends}
use Rattle.report_queue.specs.Marking.{OverTold}
use Rattle.report_queue.specs.Reports.{end_of, Reports}
use Rattle.report_queue.specs.Stops.{Told}
use Rattle.report_queue.proofs.Told.{over_none, over_weaker}

-- The reports were sent.
reported : (rows : List Row) (max : ℕ) (answer : Result ℕ SendStop) (old new : Told) → IsHistory rows → Sends rows max answer old new → Reports rows max (end_of answer) old new
reported rows max (Ok count) old new history s = record { answer = Ok count; end_is = refl; history = history; sends = s }
reported rows max (Err stops.SinkFault) old new history s = record { answer = Err stops.SinkFault; end_is = refl; history = history; sends = s }
reported rows max (Err stops.KeeperFault) old new history s = record { answer = Err stops.KeeperFault; end_is = refl; history = history; sends = s }
reported rows max (Err stops.NoMemory) old new history s = inr (record { answer = Err stops.NoMemory; end_is = refl; history = history; sends = s })

module _ (old new : List ℕ → Type 0) (d e : Option ℕ) (t u : Option (List ℕ)) (rows : List Row) (max : ℕ) where
  pub reported_over : (answer : Result ℕ SendStop) (end : ReportEnd) → end ≡ end_of answer → IsHistory rows
      → OverTold old new (λ before after. Sends rows max answer (record { marks = before; doubt = d; taken = t }) (record { marks = after; doubt = e; taken = u }))
      → OverTold old new (λ before after. Reports rows max end (record { marks = before; doubt = d; taken = t }) (record { marks = after; doubt = e; taken = u }))
  reported_over answer end is history s =
      over_weaker old new (λ before after. Reports rows max end (record { marks = before; doubt = d; taken = t }) (record { marks = after; doubt = e; taken = u }))
      (λ before after. Sends rows max answer (record { marks = before; doubt = d; taken = t }) (record { marks = after; doubt = e; taken = u })) s
      (λ before after one. rw is (reported rows max answer (record { marks = before; doubt = d; taken = t }) (record { marks = after; doubt = e; taken = u }) history one))

-- Nothing was marked or written.
pub untouched_over : (tells : List ℕ → Type 0) (d : Option ℕ) (t : Option (List ℕ)) (rows : List Row) (max : ℕ) (end : ReportEnd) → ((old new : Told) → new ≡ old → Reports rows max end old new)
    → OverTold tells tells (λ before after. Reports rows max end (record { marks = before; doubt = d; taken = t }) (record { marks = after; doubt = d; taken = t }))
untouched_over tells d t rows max end each =
    over_none tells (λ before after. Reports rows max end (record { marks = before; doubt = d; taken = t }) (record { marks = after; doubt = d; taken = t }))
    (λ o. each (record { marks = o; doubt = d; taken = t }) (record { marks = o; doubt = d; taken = t }) refl)

-- The rows are those that were reported on.
pub rows_over : (old new : List ℕ → Type 0) (d e : Option ℕ) (t u : Option (List ℕ)) (max : ℕ) (end : ReportEnd) (rows opening : List Row) → opening ≡ rows
    → OverTold old new (λ before after. Reports rows max end (record { marks = before; doubt = d; taken = t }) (record { marks = after; doubt = e; taken = u }))
    → OverTold old new (λ before after. Reports opening max end (record { marks = before; doubt = d; taken = t }) (record { marks = after; doubt = e; taken = u }))
rows_over old new d e t u max end rows opening same h =
    subst (λ (rs : List Row). OverTold old new (λ before after. Reports rs max end (record { marks = before; doubt = d; taken = t }) (record { marks = after; doubt = e; taken = u }))) (sym same) h
