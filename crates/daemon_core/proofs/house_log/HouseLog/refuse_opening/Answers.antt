use Rattle.std.proofs.Common.{◌≡◌, false, ap, ◌∙◌}
use Rattle.daemon_core.specs.Housed.{HouseLogView}
use Rattle.daemon_core.specs.Openings.{house_log_of, is_taken}
use Rattle.daemon_core.proofs.BootHouseLog.{house_log-refused, refused-as}
use Rattle.daemon_core.proofs.house_log.HouseLog.refuse_opening.Goals as goal

pub invariant_of-self : goal.invariant_of-self
invariant_of-self c =
    let unloaded : is_taken c.self.inside.opening ≡ false = ap (λ (a : HouseLogView). a.loaded) c.self.view_is ∙ c.requires.unloaded in
    record { house_log = house_log-refused (house_log_of c.self.inside) c.args.rows.items unloaded c.self.invariant.house_log; opening = tt }

pub returns : goal.returns
returns c =
    let unloaded : is_taken c.self.inside.opening ≡ false = ap (λ (a : HouseLogView). a.loaded) c.self.view_is ∙ c.requires.unloaded in
    record { kept = refused-as (house_log_of c.self.inside) c.args.rows.items unloaded ∙ ap (λ (a : HouseLogView). record a { opening = c.args.rows.items }) c.self.view_is }
