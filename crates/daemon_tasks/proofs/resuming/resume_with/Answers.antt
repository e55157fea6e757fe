use Rattle.plugin_trait.specs.Steps.{steps_at}
use Rattle.std.proofs.Common.{length, subst, sym}
use Rattle.update_log.specs.declared.answer.ResumeAnswer.{ResumeAnswer}
use Rattle.update_log.specs.declared.event.Stored.{Stored}
use Rattle.daemon_core.specs.Resumes.{note_in}
use Rattle.client_plays.specs.declared.played.Played.{Played}
use Rattle.client_plays.specs.Faults.{faults_noted}
use Rattle.client_plays.specs.Plays.{ResumePlays}
use Rattle.client_plays.specs.Tools.{means_of}
use Rattle.shared_daemon.specs.Entries.{past_seen}
use Rattle.claim_runs.proofs.Taking.{served-within}
use Rattle.script_runs.specs.Passes.{Ended}
use Rattle.script_runs.proofs.FaultEnds.{claim-none, claim-same, claim-taken}
use Rattle.daemon_tasks.proofs.Asking.{may-out, resume-runs}
use Rattle.daemon_tasks.proofs.ResumeEnds.{given-told, resume-behind, resume-refused, resume-stopped, resume-told, stopped-out, stopped-told}
use Rattle.daemon_tasks.proofs.resuming.resume_with.Goals as goal

pub run_taken-requires-clause-runs : goal.run_taken-requires-clause-runs
run_taken-requires-clause-runs g c =
    let a = c.in-Ok-Taken in
    let t = rw a.field-0-is at a.ensures.turn in
    let gave = rw a.field-0-is at a.ensures.gave in
    resume-runs g.N.Naming.name c.args.entry c.args.held a.taken c.args.pass.now c.resume.new.pass c.resume.ensures.pass.log c.resume.ensures.same c.requires.own t t.does gave

pub run_taken-requires-clause-no_steps : goal.run_taken-requires-clause-no_steps
run_taken-requires-clause-no_steps g c =
    let a = c.in-Ok-Taken in let gave = rw a.field-0-is at a.ensures.gave in gave.2.is.no_steps

pub run_taken-requires-clause-marks : goal.run_taken-requires-clause-marks
run_taken-requires-clause-marks g c =
    let a = c.in-Ok-Taken in let gave = rw a.field-0-is at a.ensures.gave in gave.2.is.marks

pub run_taken-requires-clause-served : goal.run_taken-requires-clause-served
run_taken-requires-clause-served g c =
    let a = c.in-Ok-Taken in
    let gave = rw a.field-0-is at a.ensures.gave in
    served-within g.N.Naming.name.basis.facts gave.2.number a.taken.plugin (length c.args.plugins.now) gave.2.is.served c.requires.served

pub run_taken-requires-clause-own : goal.run_taken-requires-clause-own
run_taken-requires-clause-own g c =
    let a = c.in-Ok-Taken in
    let gave = rw a.field-0-is at a.ensures.gave in
    record { number = gave.2.number; board_is = gave.2.is.comes.board; served = gave.2.is.served }

pub unreachable-requires : goal.unreachable-requires
unreachable-requires g c = let t = rw c.in-Ok-Kept.field-0-is at c.in-Ok-Kept.ensures.turn in t.does

pub give_up-requires-clause-out : goal.give_up-requires-clause-out
give_up-requires-clause-out g c =
    let s = c.in-Err.stopped in
    let t = c.in-Err.ensures.turn in
    stopped-out g.N.Naming.name c.args.runner.now.daemon.now.id c.args.pass.now c.resume.new.pass c.requires.pass c.resume.ensures.same c.requires.own t c.args.held s.held s.stop c.in-Err.ensures.gave
    (may-out g.N.Naming.name c.args.entry c.args.held c.args.pass.now c.requires.own c.requires.may) t.does

pub returns-in-Ok-Taken-clause-ended : goal.returns-in-Ok-Taken-clause-ended
returns-in-Ok-Taken-clause-ended g c files asked f =
    let a = c.in-Ok-Taken in
    let t = rw a.field-0-is at a.ensures.turn in
    let gave = rw a.field-0-is at a.ensures.gave in
    resume-behind g.N.Naming.name c.args.runner.now.daemon.now.id c.args.pass.now c.resume.new.pass c.requires.pass c.resume.ensures.same c.requires.own t
    (means_of files (steps_at (λ b. (goal.Plugin-dyn g (b.vtable, b.value)).steps b.value) c.args.plugins.now)) c.args.entry asked (note_in c.args.held) Stored.Yes a.taken.entry c.run_taken.result c.run_taken.new.pass f
    t.does.1 c.run_taken.ensures.room gave.0 c.run_taken.ensures.ended

pub returns-in-Ok-Refused-clause-ended : goal.returns-in-Ok-Refused-clause-ended
returns-in-Ok-Refused-clause-ended g c files asked f =
    let a = c.in-Ok-Refused in
    let t = rw a.field-0-is at a.ensures.turn in
    resume-refused g.N.Naming.name c.args.runner.now.daemon.now.id c.args.pass.now c.resume.new.pass c.requires.pass c.resume.ensures.same c.requires.own t
    (means_of files (steps_at (λ b. (goal.Plugin-dyn g (b.vtable, b.value)).steps b.value) c.args.plugins.now)) c.args.entry asked c.args.held a.field-0-0 t.does.0 f
    (may-out g.N.Naming.name c.args.entry c.args.held c.args.pass.now c.requires.own c.requires.may) t.does.2.1

pub returns-in-Err-clause-ended : goal.returns-in-Err-clause-ended
returns-in-Err-clause-ended g c files asked f =
    let s = c.in-Err.stopped in
    let t = c.in-Err.ensures.turn in
    let means = means_of files (steps_at (λ b. (goal.Plugin-dyn g (b.vtable, b.value)).steps b.value) c.args.plugins.now) in
    subst (λ (x : Played). Ended x (ResumePlays g.N.Naming.name.basis means c.args.entry asked) c.args.pass.now c.give_up.new.pass) (sym c.give_up.ensures.told)
    (resume-stopped g.N.Naming.name c.args.runner.now.daemon.now.id c.args.pass.now c.resume.new.pass c.requires.pass c.resume.ensures.same c.requires.own t means c.args.entry asked c.args.held s.held s.stop c.give_up.new.pass f t.does c.resume.ensures.pass
    (stopped-out g.N.Naming.name c.args.runner.now.daemon.now.id c.args.pass.now c.resume.new.pass c.requires.pass c.resume.ensures.same c.requires.own t c.args.held s.held s.stop c.in-Err.ensures.gave
    (may-out g.N.Naming.name c.args.entry c.args.held c.args.pass.now c.requires.own c.requires.may) t.does)
    c.give_up.ensures.given)

pub returns-in-Ok-Taken-clause-told : goal.returns-in-Ok-Taken-clause-told
returns-in-Ok-Taken-clause-told g c =
    let a = c.in-Ok-Taken in
    let t = rw a.field-0-is at a.ensures.turn in
    claim-taken g.N.Naming.name.basis (steps_at (λ b. (goal.Plugin-dyn g (b.vtable, b.value)).steps b.value) c.args.plugins.now) (past_seen c.resume.new.pass.seen) (faults_noted (note_in c.args.held)) a.taken.entry c.run_taken.result c.args.pass.now c.resume.new.pass c.run_taken.new.pass
    (resume-told g.N.Naming.name c.args.runner.now.daemon.now.id c.args.pass.now c.resume.new.pass c.requires.pass c.resume.ensures.same c.requires.own t c.args.entry (note_in c.args.held) ResumeAnswer.Begun Stored.Yes t.does.1)
    c.run_taken.ensures.ended

pub returns-in-Ok-Refused-clause-told : goal.returns-in-Ok-Refused-clause-told
returns-in-Ok-Refused-clause-told g c =
    let a = c.in-Ok-Refused in
    let t = rw a.field-0-is at a.ensures.turn in
    claim-same (faults_noted (note_in c.args.held)) c.args.pass.now c.resume.new.pass
    (resume-told g.N.Naming.name c.args.runner.now.daemon.now.id c.args.pass.now c.resume.new.pass c.requires.pass c.resume.ensures.same c.requires.own t c.args.entry (note_in c.args.held) (ResumeAnswer.Refused a.field-0-0) t.does.0 t.does.2.1)

pub returns-in-Err-clause-told : goal.returns-in-Err-clause-told
returns-in-Err-clause-told g c =
    let s = c.in-Err.stopped in
    let t = c.in-Err.ensures.turn in
    claim-none (faults_noted (note_in c.args.held)) c.args.pass.now c.resume.new.pass c.give_up.new.pass
    (stopped-told g.N.Naming.name c.args.runner.now.daemon.now.id c.args.pass.now c.resume.new.pass c.requires.pass c.resume.ensures.same c.requires.own t s.stop t.does)
    (given-told g.N.Naming.name c.args.runner.now.daemon.now.id s.held c.resume.new.pass c.give_up.new.pass c.resume.ensures.pass c.give_up.ensures.given)
