use Rattle.std.proofs.Common.{subst}
use Rattle.daemon_core.specs.declared.claimed.Claimed.{Claimed}
use Rattle.daemon_core.specs.Claims.{claim_event}
use Rattle.shared_daemon.specs.Calls.{AddsOn}
use Rattle.shared_daemon.specs.Taking.{ClaimGaveIn}
use Rattle.std.specs.Prelude.{Ok}
use Rattle.claim_runs.proofs.Taking.{claim-runs}
use Rattle.shared_daemon_tests.proofs.clients.claim_taken.Goals as goal

pub returns-clause-runs : goal.returns-clause-runs
returns-clause-runs g c =
    let t = c.in-Ok-Taken.ensures.turn in
    let ticket = c.fetch-ticket.result.0 in
    let fetched = c.fetch-ticket.result.1 in
    let gave = subst (λ (a : Claimed). ClaimGaveIn g.N.Naming.name c.args.pass.now.number ticket fetched (Ok a) c.claim.new.pass.seen) c.in-Ok-Taken.field-0-is c.in-Ok-Taken.ensures.gave in
    claim-runs g.N.Naming.name ticket.request fetched c.in-Ok-Taken.taken c.args.pass.now c.claim.new.pass c.claim.ensures.pass.log c.claim.ensures.same t
    (subst (λ (a : Claimed). AddsOn c.args.pass.now.number (claim_event c.args.pass.now.number ticket.request fetched a) t.met c.claim.new.pass.seen) c.in-Ok-Taken.field-0-is t.does)
    gave.0 gave.1
