-- What a call that sends reports answers.
use Rattle.std.specs.Prelude.{◌≡◌, ℕ, List, length, take, None, option_map, Result, Ok, Err, IfSome}
use Rattle.outer_traits.specs.Sinks.{Took}
use Rattle.history_keeper.specs.declared.row.Row.{Row}
use Rattle.report_queue.specs.declared.stop.SendStop.{SendStop}
use Rattle.report_queue.specs.declared.stop.SendStop.TheVariants.{SinkFault, KeeperFault, NoMemory}
use Rattle.report_queue.specs.Calls.{Call, Leaves}
use Rattle.report_queue.specs.Sending.{due, lines}
use Rattle.report_queue.specs.Stops.{Told}

-- All that was to be sent was sent: the first so many of the rows that were due, whole, and there is no doubt.
pub record IsWhole (call : Call) : Type 0 where
  pub sent : call.sent ≡ take call.max (due call.found call.rows)
  pub text : call.text ≡ lines call.sent
  pub settled : call.after.doubt ≡ None

-- `Ok` counts the lines, and all was sent. Only a fault of the output breaks off a line, and it leaves no doubt.
abbrev pub Answers : Call → Result ℕ SendStop → Type 0
Answers call (Ok count) = IsWhole call × (count ≡ length call.sent)
Answers call (Err SinkFault) = call.after.doubt ≡ None
Answers call (Err KeeperFault) = call.text ≡ lines call.sent
Answers call (Err NoMemory) = call.text ≡ lines call.sent

-- There is a call over these rows that leaves what the keeper and the output tell, where they tell it, and that has
-- this answer.
pub record Sends (rows : List Row) (max : ℕ) (answer : Result ℕ SendStop) (old new : Told) : Type 0 where
  pub call : Call
  pub rows_are : call.rows ≡ rows
  pub max_is : call.max ≡ max
  pub before : IfSome old.marks (λ entries. call.before ≡ record { entries = entries; doubt = old.doubt })
  pub after : new.marks ≡ option_map (λ _. call.after.entries) old.marks
  pub doubt : new.doubt ≡ call.after.doubt
  pub took : Took call.text old.taken new.taken
  pub leaves : Leaves call
  pub answers : Answers call answer
