use Rattle.std.proofs.Common.{refl}
use Rattle.std.specs.Prelude.{Some}
use Rattle.update_log.specs.declared.answer.AskAnswer.{AskAnswer}
use Rattle.daemon_core.specs.Fetches.{note_of}
use Rattle.client_plays.specs.Faults.{faults_in}
use Rattle.client_plays.proofs.FaultLaws.{fetch-counted}
use Rattle.client_plays.proofs.ShelfLaws.{note-fetched}
use Rattle.script_runs.specs.Passes.{own}
use Rattle.script_runs.proofs.Fetches.{sized-enough}
use Rattle.daemon_tasks.proofs.Asking.{may-resume}
use Rattle.daemon_tasks.proofs.resuming.resume_held.Goals as goal

pub fetch-ticket-requires : goal.fetch-ticket-requires
fetch-ticket-requires g c = sized-enough c.args.given.size c.args.given.blocks.count c.requires.hold.1.blocks_are

pub resume_with-requires-clause-may : goal.resume_with-requires-clause-may
resume_with-requires-clause-may g c =
    let f = c.fetch-ticket in
    may-resume g.N.Naming.name c.args.entry c.args.pass.now.seen c.requires.hold.0 c.args.given f.result.0 f.result.1 c.requires.waits c.requires.hold.1 c.requires.held f.ensures.ticket f.ensures.blocks f.ensures.digest f.ensures.size

pub returns-clause-ended : goal.returns-clause-ended
returns-clause-ended g c =
    let f = c.fetch-ticket in
    let files = g.P.Shelf.files c.args.shelf.now in
    c.resume_with.ensures.ended files (AskAnswer.Hold c.args.given.blocks.count c.args.given.ticket.release) (
      note_of f.result.1,
      refl,
      note-fetched g.N.Naming.name.basis.facts 0 c.requires.hold.0 (Some c.args.entry) files c.args.given f.result.1 c.requires.hold.1 f.ensures.found (record {
        digest = f.ensures.digest;
        size = f.ensures.size;
        other_length = f.ensures.other_length;
        other_digest = f.ensures.other_digest;
        hashed = f.ensures.hashed;
        blocks = rw f.ensures.blocks (sized-enough c.args.given.size c.args.given.blocks.count c.requires.hold.1.blocks_are);
      }),
    )

pub returns-clause-told : goal.returns-clause-told
returns-clause-told g c =
    let f = c.fetch-ticket in
    fetch-counted f.result.1 (faults_in (own c.args.pass.now)) (faults_in (own c.resume_with.new.pass)) (g.P.Shelf.faults c.args.shelf.now) (g.P.Shelf.faults f.new.shelf)
    c.resume_with.ensures.told f.ensures.cause f.ensures.counts
