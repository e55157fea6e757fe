use Rattle.plugin_trait.specs.Steps.{steps_at}
use Rattle.client_plays.specs.Tools.{means_of}
use Rattle.std.proofs.Common.{refl, subst, length}
use Rattle.std.specs.Prelude.{Ok, Some}
use Rattle.update_log.specs.declared.answer.ClaimAnswer.{ClaimAnswer}
use Rattle.update_log.specs.Holding.{hold}
use Rattle.daemon_core.specs.declared.claimed.Claimed.{Claimed}
use Rattle.daemon_core.specs.Claims.{claim_event}
use Rattle.daemon_core.specs.Fetches.{block_count, note_of}
use Rattle.daemon_core.specs.Holds.{held_by}
use Rattle.shared_daemon.specs.Calls.{AddsOn}
use Rattle.shared_daemon.specs.Entries.{past_seen}
use Rattle.shared_daemon.specs.Taking.{ClaimGaveIn}
use Rattle.claim_runs.proofs.Taking.{claim-runs, served-within}
use Rattle.script_runs.proofs.EndedPlays.{stopped-held, stopped-off, stopped-own}
use Rattle.script_runs.proofs.InstallEnds.{claim-behind, claim-ended, claim-stopped, held-back}
use Rattle.client_plays.specs.Faults.{faults_noted}
use Rattle.script_runs.proofs.FaultEnds.{claim-none, claim-same, claim-taken, turn-claim, turn-stopped}
use Rattle.script_runs.proofs.installing.claim_fetched.Goals as goal

pub run_taken-requires : goal.run_taken-requires
run_taken-requires g c =
    let n = c.args.pass.now.number in
    let a = c.in-Ok-Taken in
    let t = a.ensures.turn in
    let gave = subst (λ (x : Claimed). ClaimGaveIn g.N.Naming.name n c.args.ticket c.args.fetched (Ok x) c.claim.new.pass.seen) a.field-0-is a.ensures.gave in
    record {
      pass = c.claim.ensures.pass;
      runs =
          claim-runs g.N.Naming.name c.args.ticket.request c.args.fetched a.taken c.args.pass.now c.claim.new.pass c.claim.ensures.pass.log c.claim.ensures.same t
          (subst (λ (x : Claimed). AddsOn n (claim_event n c.args.ticket.request c.args.fetched x) t.met c.claim.new.pass.seen) a.field-0-is t.does)
          gave.0 gave.1;
      no_steps = gave.1.is.no_steps;
      marks = gave.1.is.marks;
      served = served-within g.N.Naming.name.basis.facts gave.1.number a.taken.plugin (length c.args.plugins.now) gave.1.is.served c.requires.served;
      own = record { number = gave.1.number; board_is = gave.1.is.comes.board; served = gave.1.is.served };
    }

pub returns-in-Ok-Taken-clause-ended : goal.returns-in-Ok-Taken-clause-ended
returns-in-Ok-Taken-clause-ended g c =
    let n = c.args.pass.now.number in
    let a = c.in-Ok-Taken in
    let t = a.ensures.turn in
    λ files f. claim-behind g.N.Naming.name c.args.runner.now.daemon.now.id (means_of files (steps_at (λ b. (goal.Plugin-dyn g (b.vtable, b.value)).steps b.value) c.args.plugins.now)) c.args.ticket.request c.args.pass.now c.claim.new.pass c.requires.pass c.claim.ensures.same t c.args.ticket.release (note_of c.args.fetched) a.taken.entry c.run_taken.result c.run_taken.new.pass f
    (subst (λ (x : Claimed). AddsOn n (claim_event n c.args.ticket.request c.args.fetched x) t.met c.claim.new.pass.seen) a.field-0-is t.does)
    c.run_taken.ensures.room c.run_taken.ensures.ended

pub returns-in-Ok-Kept-clause-ended : goal.returns-in-Ok-Kept-clause-ended
returns-in-Ok-Kept-clause-ended g c =
    let n = c.args.pass.now.number in
    let a = c.in-Ok-Kept in
    let t = a.ensures.turn in
    λ files f. claim-ended g.N.Naming.name c.args.runner.now.daemon.now.id (means_of files (steps_at (λ b. (goal.Plugin-dyn g (b.vtable, b.value)).steps b.value) c.args.plugins.now)) c.args.ticket.request c.args.pass.now c.claim.new.pass c.requires.pass c.claim.ensures.same t c.args.ticket.release (note_of c.args.fetched) (ClaimAnswer.Kept a.field-0-0 a.field-0-1)
    (held_by c.args.ticket (block_count c.args.fetched)) f refl (λ past. refl) c.requires.held
    (subst (λ (x : Claimed). AddsOn n (claim_event n c.args.ticket.request c.args.fetched x) t.met c.claim.new.pass.seen) a.field-0-is t.does)

pub returns-in-Ok-Refused-clause-ended : goal.returns-in-Ok-Refused-clause-ended
returns-in-Ok-Refused-clause-ended g c =
    let n = c.args.pass.now.number in
    let a = c.in-Ok-Refused in
    let t = a.ensures.turn in
    λ files f. claim-ended g.N.Naming.name c.args.runner.now.daemon.now.id (means_of files (steps_at (λ b. (goal.Plugin-dyn g (b.vtable, b.value)).steps b.value) c.args.plugins.now)) c.args.ticket.request c.args.pass.now c.claim.new.pass c.requires.pass c.claim.ensures.same t c.args.ticket.release (note_of c.args.fetched) (ClaimAnswer.Refused a.field-0-0)
    (held_by c.args.ticket (block_count c.args.fetched)) f refl (λ past. refl) c.requires.held
    (subst (λ (x : Claimed). AddsOn n (claim_event n c.args.ticket.request c.args.fetched x) t.met c.claim.new.pass.seen) a.field-0-is t.does)

pub give_back-requires-clause-held : goal.give_back-requires-clause-held
give_back-requires-clause-held g c =
    let n = c.args.pass.now.number in
    let s = c.in-Err.stopped in
    let t = c.in-Err.ensures.turn in
    held-back s c.args.ticket c.args.fetched (hold (past_seen c.claim.new.pass.seen) c.claim.new.pass.number) c.in-Err.ensures.gave.0 c.in-Err.ensures.gave.1
    (stopped-held g.N.Naming.name c.args.runner.now.daemon.now.id c.args.pass.now c.claim.new.pass c.requires.pass c.claim.ensures.same t (claim_event n c.args.ticket.request c.args.fetched) s.stop
    (held_by c.args.ticket (block_count c.args.fetched)) c.requires.held t.does)

pub give_back-requires-clause-halted : goal.give_back-requires-clause-halted
give_back-requires-clause-halted g c =
    let t = c.in-Err.ensures.turn in
    stopped-off c.args.pass.now.number (claim_event c.args.pass.now.number c.args.ticket.request c.args.fetched) c.in-Err.stopped.stop t.met c.claim.new.pass.seen t.does

pub returns-in-Err-clause-ended : goal.returns-in-Err-clause-ended
returns-in-Err-clause-ended g c =
    let n = c.args.pass.now.number in
    let s = c.in-Err.stopped in
    let t = c.in-Err.ensures.turn in
    λ files f. claim-stopped g.N.Naming.name.basis (means_of files (steps_at (λ b. (goal.Plugin-dyn g (b.vtable, b.value)).steps b.value) c.args.plugins.now)) s c.args.ticket c.args.fetched c.give_back.result c.args.pass.now c.claim.new.pass c.give_back.new.pass c.in-Err.ensures.gave.0 c.in-Err.ensures.gave.1
    (stopped-own g.N.Naming.name c.args.runner.now.daemon.now.id c.args.pass.now c.claim.new.pass c.requires.pass c.claim.ensures.same t (claim_event n c.args.ticket.request c.args.fetched) s.stop t.does)
    c.claim.ensures.same f (λ is. c.give_back.ensures.ended files is)

pub returns-in-Ok-Taken-clause-told : goal.returns-in-Ok-Taken-clause-told
returns-in-Ok-Taken-clause-told g c =
    let n = c.args.pass.now.number in
    let a = c.in-Ok-Taken in
    let t = a.ensures.turn in
    let note = note_of c.args.fetched in
    claim-taken g.N.Naming.name.basis (steps_at (λ b. (goal.Plugin-dyn g (b.vtable, b.value)).steps b.value) c.args.plugins.now) (past_seen c.claim.new.pass.seen) (faults_noted (Some note)) a.taken.entry c.run_taken.result c.args.pass.now c.claim.new.pass c.run_taken.new.pass
    (turn-claim g.N.Naming.name c.args.runner.now.daemon.now.id c.args.pass.now c.claim.new.pass c.requires.pass c.claim.ensures.same t c.args.ticket.request note (ClaimAnswer.Entry a.taken.entry)
    (subst (λ (x : Claimed). AddsOn n (claim_event n c.args.ticket.request c.args.fetched x) t.met c.claim.new.pass.seen) a.field-0-is t.does).1)
    c.run_taken.ensures.ended

pub returns-in-Ok-Kept-clause-told : goal.returns-in-Ok-Kept-clause-told
returns-in-Ok-Kept-clause-told g c =
    let n = c.args.pass.now.number in
    let a = c.in-Ok-Kept in
    let t = a.ensures.turn in
    let note = note_of c.args.fetched in
    claim-same (faults_noted (Some note)) c.args.pass.now c.claim.new.pass
    (turn-claim g.N.Naming.name c.args.runner.now.daemon.now.id c.args.pass.now c.claim.new.pass c.requires.pass c.claim.ensures.same t c.args.ticket.request note (ClaimAnswer.Kept a.field-0-0 a.field-0-1)
    (subst (λ (x : Claimed). AddsOn n (claim_event n c.args.ticket.request c.args.fetched x) t.met c.claim.new.pass.seen) a.field-0-is t.does).1)

pub returns-in-Ok-Refused-clause-told : goal.returns-in-Ok-Refused-clause-told
returns-in-Ok-Refused-clause-told g c =
    let n = c.args.pass.now.number in
    let a = c.in-Ok-Refused in
    let t = a.ensures.turn in
    let note = note_of c.args.fetched in
    claim-same (faults_noted (Some note)) c.args.pass.now c.claim.new.pass
    (turn-claim g.N.Naming.name c.args.runner.now.daemon.now.id c.args.pass.now c.claim.new.pass c.requires.pass c.claim.ensures.same t c.args.ticket.request note (ClaimAnswer.Refused a.field-0-0)
    (subst (λ (x : Claimed). AddsOn n (claim_event n c.args.ticket.request c.args.fetched x) t.met c.claim.new.pass.seen) a.field-0-is t.does).1)

pub returns-in-Err-clause-told : goal.returns-in-Err-clause-told
returns-in-Err-clause-told g c =
    let n = c.args.pass.now.number in
    let t = c.in-Err.ensures.turn in
    claim-none (faults_noted (Some (note_of c.args.fetched))) c.args.pass.now c.claim.new.pass c.give_back.new.pass
    (turn-stopped g.N.Naming.name c.args.runner.now.daemon.now.id c.args.pass.now c.claim.new.pass c.requires.pass c.claim.ensures.same t (claim_event n c.args.ticket.request c.args.fetched) c.in-Err.stopped.stop t.does)
    c.give_back.ensures.told
