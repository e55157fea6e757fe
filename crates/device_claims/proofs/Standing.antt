-- A claim stands in its next state.
use Rattle.std.proofs.Common.{◌≡◌, ℕ, ◌+◌, ◌≤◌, inl, inr, [], ◌∷◌, length, Result, refl, ◌∙◌, length-append, arith}
use Rattle.std.specs.Prelude.{⊤}
use Rattle.emulated_boards.specs.Boards.{BoardState}
use Rattle.emulated_boards.specs.Conditions.{view_of}
use Rattle.emulated_boards.specs.declared.fault.BoardFault.{BoardFault}
use Rattle.emulated_boards.specs.declared.image.Image.{Image}
use Rattle.plugin_trait.specs.Steps.{Detached, Written}
use Rattle.update_log.specs.declared.event.Op.{Op}
use Rattle.device_claims.specs.declared.claim.Parts.{Parts}
use Rattle.update_log.specs.declared.trace.TraceStep.{TraceStep}
use Rattle.update_log.specs.Steps.{with_step}
use Rattle.device_claims.specs.Limits.{Limits}
use Rattle.device_claims.specs.States.{Stands}
use Rattle.device_claims.proofs.NextStep.{earliest_behind, latest_behind, last_seen-push, next-behind}

-- ---- the room that a step leaves

pub room-detached : (old : BoardState) (answer : Result ⊤ BoardFault) (new : BoardState) → Detached old answer new → old.room ≤ new.room + 1
room-detached old answer new h = elim h.left [ inl u ↦ omega (arith, u.adds.room) | inr e ↦ omega (arith, e.adds.room) ]

pub room-written : (entry : ℕ) (payload : Image) (old : BoardState) (answer : Result ⊤ BoardFault) (new : BoardState) → Written entry payload old answer new → old.room ≤ new.room + 2
room-written entry payload old answer new h =
    elim h.left [ inl u ↦ omega (arith, u.0.adds.room) | inr w ↦ elim w [ inl b ↦ omega (arith, b.0.adds.room) | inr e ↦ omega (arith, e.adds.room) ] ]

-- ---- behind a step

-- What noting a step leaves.
abbrev pub noted : TraceStep → Parts → Parts
noted step parts = record parts { trace = with_step step parts.trace }

-- The claim stands in each state whose limits leave room for the step, and hold the bounds behind it.
stands-behind : (limits : Limits) (step : TraceStep) (parts : Parts) → step.seen ≡ view_of parts.board.condition
    → length parts.trace.steps + 1 ≤ limits.most → limits.room ≤ parts.board.room
    → limits.earliest ≤ earliest_behind step.op → latest_behind step.op ≤ limits.latest
    → Stands limits (noted step parts)
stands-behind limits step parts seen few room earliest latest =
    let bounds = next-behind step parts.trace in
    record {
      few = omega (arith, length-append parts.trace.steps (step ∷ []));
      room = room;
      earliest = omega (arith, bounds.0);
      latest = omega (arith, bounds.1);
      shown = λ _. last_seen-push parts.trace.steps step ∙ seen;
    }

pub stands : (limits : Limits) (op : Op) (answer : Result ⊤ BoardFault) (parts new : Parts)
    → new ≡ noted (record { op = op; outcome = answer; seen = view_of parts.board.condition }) parts
    → length parts.trace.steps + 1 ≤ limits.most → limits.room ≤ parts.board.room
    → limits.earliest ≤ earliest_behind op → latest_behind op ≤ limits.latest
    → Stands limits new
stands limits op answer parts new e few room earliest latest =
    rw e (stands-behind limits (record { op = op; outcome = answer; seen = view_of parts.board.condition }) parts refl few room earliest latest)
