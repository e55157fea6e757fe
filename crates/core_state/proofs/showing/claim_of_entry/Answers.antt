use Rattle.std.proofs.Common.{ℕ, ap, sym, map, ◌∙◌}
use Rattle.std.specs.Prelude.{Option}
use Rattle.device_list.specs.Lists.{claimed_on}
use Rattle.core_state.proofs.ClaimChanges.{claims-of-none, claims-of-one}
use Rattle.core_state.proofs.showing.claim_of_entry.Goals as goal

pub returns-in-Some : goal.returns-in-Some
returns-in-Some c =
    λ before same had.
    c.set_claim_of.ensures
    ∙ ap (λ (o : Option ℕ). map (claimed_on c.in-Some.row.now.device o) c.args.devices.now) c.claim_on.ensures
    ∙ claims-of-one c.args.rows.now.rows c.args.entry c.in-Some.row.now before c.args.live.now (sym c.in-Some.ensures) same c.args.devices.now had

pub returns-in-None : goal.returns-in-None
returns-in-None c =
    λ before same had.
    sym had ∙ claims-of-none c.args.rows.now.rows c.args.entry before c.args.live.now (sym c.in-None.ensures) same c.args.devices.now
