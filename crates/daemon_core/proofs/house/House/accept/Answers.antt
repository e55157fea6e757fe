use Rattle.std.proofs.Common.{sym, subst}
use Rattle.std.specs.Prelude.{Ok}
use Rattle.daemon_core.specs.declared.fetched.Fetched.{Fetched}
use Rattle.daemon_core.specs.HouseLog.{Appended}
use Rattle.daemon_core.specs.Claims.{ClaimGave, MayClaim, claim_event, stopped_by}
use Rattle.daemon_core.specs.Fetches.{IsFetchOf, block_count}
use Rattle.daemon_core.specs.Turns.{Turned}
use Rattle.daemon_core.proofs.house.House.accept.Goals as goal

pub take-requires-clause-may : goal.take-requires-clause-may
take-requires-clause-may g c =
    subst (λ (x : Fetched). MayClaim c.args.self.now.house_log c.args.client c.args.ticket (block_count x)) c.in-Ok.ensures.whole c.requires.may

pub take-requires-clause-whole : goal.take-requires-clause-whole
take-requires-clause-whole g c =
    subst (λ (x : Fetched). IsFetchOf c.args.self.now.house_log.facts c.args.ticket.release x) c.in-Ok.ensures.whole c.requires.whole

pub returns-in-Ok-clause-turn : goal.returns-in-Ok-clause-turn
returns-in-Ok-clause-turn g c =
    subst (λ (x : Fetched). Turned c.args.client (claim_event c.args.client c.args.ticket.request x) (stopped_by c.take.result) c.args.self.now.house_log c.take.new.self.house_log) (sym c.in-Ok.ensures.whole) c.take.ensures.turn

pub returns-in-Ok-clause-gave : goal.returns-in-Ok-clause-gave
returns-in-Ok-clause-gave g c =
    subst (λ (x : Fetched). ClaimGave c.args.client c.args.ticket x c.take.result c.args.self.now c.take.new.self) (sym c.in-Ok.ensures.whole) c.take.ensures.gave

pub refuse-requires-clause-may : goal.refuse-requires-clause-may
refuse-requires-clause-may g c =
    subst (λ (x : Fetched). MayClaim c.args.self.now.house_log c.args.client c.args.ticket (block_count x)) (sym c.in-Err.ensures.other.0) c.requires.may

pub refuse-requires-clause-broken : goal.refuse-requires-clause-broken
refuse-requires-clause-broken g c =
    c.in-Err.ensures.other.1

pub returns-in-Err-clause-turn : goal.returns-in-Err-clause-turn
returns-in-Err-clause-turn g c =
    (c.requires.may.runs, subst (λ (x : Fetched). Appended c.args.client (claim_event c.args.client c.args.ticket.request x c.refuse.result) c.args.self.now.house_log c.refuse.new.self.house_log) c.in-Err.ensures.other.0 c.refuse.ensures.appended)

pub returns-in-Err-clause-gave : goal.returns-in-Err-clause-gave
returns-in-Err-clause-gave g c =
    subst (λ (x : Fetched). ClaimGave c.args.client c.args.ticket x (Ok c.refuse.result) c.args.self.now c.refuse.new.self) c.in-Err.ensures.other.0 c.refuse.ensures.gave
