use Rattle.plugin_trait.specs.Steps.{steps_at}
use Rattle.client_plays.specs.Tools.{means_of}
use Rattle.std.proofs.Common.{ap, sym, subst, ◌∙◌}
use Rattle.std.specs.Prelude.{None}
use Rattle.update_log.specs.Holding.{hold}
use Rattle.client_plays.specs.Plays.{ClaimPlays}
use Rattle.client_plays.specs.Shelves.{IsFetched}
use Rattle.client_plays.proofs.ShelfLaws.{note-fetched}
use Rattle.daemon_core.specs.declared.hold.Ticket.{Ticket}
use Rattle.daemon_core.specs.Fetches.{note_of}
use Rattle.shared_daemon.specs.Entries.{past_seen}
use Rattle.script_runs.specs.Passes.{Ended, own}
use Rattle.script_runs.proofs.Fetches.{fetched-whole, sized-enough, still-held}
use Rattle.client_plays.specs.Faults.{faults_in}
use Rattle.client_plays.proofs.FaultLaws.{fetch-counted}
use Rattle.script_runs.proofs.installing.install_held.Goals as goal

pub fetch-ticket-requires : goal.fetch-ticket-requires
fetch-ticket-requires g c = sized-enough c.args.given.size c.args.given.blocks.count c.requires.hold.blocks_are

pub claim_fetched-requires-clause-held : goal.claim_fetched-requires-clause-held
claim_fetched-requires-clause-held g c =
    let f = c.fetch-ticket in
    still-held c.args.given f.result.0 f.result.1 (hold (past_seen c.args.pass.now.seen) c.args.pass.now.number) f.ensures.ticket f.ensures.blocks c.requires.held

pub claim_fetched-requires-clause-asked : goal.claim_fetched-requires-clause-asked
claim_fetched-requires-clause-asked g c = ap (λ (t : Ticket). t.pending) c.fetch-ticket.ensures.ticket ∙ c.requires.hold.pending_is

pub claim_fetched-requires-clause-whole : goal.claim_fetched-requires-clause-whole
claim_fetched-requires-clause-whole g c =
    let f = c.fetch-ticket in
    fetched-whole g.N.Naming.name.basis.facts c.args.pass.now.number c.args.given.ticket.request None c.args.given f.result.0 f.result.1 c.requires.hold f.ensures.ticket f.ensures.digest f.ensures.size

pub returns-clause-ended : goal.returns-clause-ended
returns-clause-ended g c =
    let f = c.fetch-ticket in
    let files = g.P.Shelf.files c.args.shelf.now in
    subst (λ (t : Ticket). Ended c.claim_fetched.result (ClaimPlays g.N.Naming.name.basis (means_of files (steps_at (λ b. (goal.Plugin-dyn g (b.vtable, b.value)).steps b.value) c.args.plugins.now)) c.args.pass.now.number t.request t.release) c.args.pass.now c.claim_fetched.new.pass) f.ensures.ticket
    (c.claim_fetched.ensures.ended files
    (subst (λ (t : Ticket). IsFetched g.N.Naming.name.basis.facts files t.release (note_of f.result.1)) (sym f.ensures.ticket)
    (note-fetched g.N.Naming.name.basis.facts c.args.pass.now.number c.args.given.ticket.request None files c.args.given f.result.1 c.requires.hold f.ensures.found (record {
      digest = f.ensures.digest;
      size = f.ensures.size;
      other_length = f.ensures.other_length;
      other_digest = f.ensures.other_digest;
      hashed = f.ensures.hashed;
      blocks = rw f.ensures.blocks (sized-enough c.args.given.size c.args.given.blocks.count c.requires.hold.blocks_are);
    }))))

pub returns-clause-told : goal.returns-clause-told
returns-clause-told g c =
    let f = c.fetch-ticket in
    fetch-counted f.result.1 (faults_in (own c.args.pass.now)) (faults_in (own c.claim_fetched.new.pass)) (g.P.Shelf.faults c.args.shelf.now) (g.P.Shelf.faults f.new.shelf)
    c.claim_fetched.ensures.told f.ensures.cause f.ensures.counts
