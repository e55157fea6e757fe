use Rattle.std.proofs.Common.{subst}
use Rattle.std.specs.Prelude.{Some, Ok}
use Rattle.daemon_core.specs.declared.claimed.Claimed.{Claimed}
use Rattle.daemon_core.specs.Resumes.{note_in}
use Rattle.shared_daemon.specs.Resumed.{ResumeGaveIn, ResumedIn}
use Rattle.script_runs.proofs.Fetches.{sized-enough}
use Rattle.daemon_tasks.proofs.Asking.{may-resume, resume-runs}
use Rattle.shared_daemon_tests.proofs.own_turns.resume_taken.Goals as goal

pub fetch-ticket-requires : goal.fetch-ticket-requires
fetch-ticket-requires g c = sized-enough c.args.given.size c.args.given.blocks.count c.requires.hold.1.blocks_are

pub resume-requires-clause-may : goal.resume-requires-clause-may
resume-requires-clause-may g c =
    let f = c.fetch-ticket in
    may-resume g.N.Naming.name c.args.entry c.args.pass.now.seen c.requires.hold.0 c.args.given f.result.0 f.result.1 c.requires.waits c.requires.hold.1 c.requires.held f.ensures.ticket f.ensures.blocks f.ensures.digest f.ensures.size

pub returns-clause-runs : goal.returns-clause-runs
returns-clause-runs g c =
    let t = c.in-Ok-Taken.ensures.turn in
    let held = Some (c.fetch-ticket.result.0, c.fetch-ticket.result.1) in
    resume-runs g.N.Naming.name c.args.entry held c.in-Ok-Taken.taken c.args.pass.now c.resume.new.pass c.resume.ensures.pass.log c.resume.ensures.same c.requires.own t
    (subst (λ (a : Claimed). ResumedIn c.args.entry (note_in held) (Ok a) t.met c.resume.new.pass.seen) c.in-Ok-Taken.field-0-is t.does)
    (subst (λ (a : Claimed). ResumeGaveIn g.N.Naming.name c.args.entry held (Ok a) c.resume.new.pass.seen) c.in-Ok-Taken.field-0-is c.in-Ok-Taken.ensures.gave)
