use Rattle.std.proofs.Common.{◌≡◌, length, ap, subst, arith}
use Rattle.std.specs.Prelude.{Some}
use Rattle.history_keeper.specs.Changes.{Suits}
use Rattle.history_keeper.specs.declared.change.Change.{Change}
use Rattle.history_keeper.specs.declared.row.RowState.{RowState}
use Rattle.core_state.specs.CoreSteps.{addition_on}
use Rattle.update_log.specs.Pasts.{time_of}
use Rattle.daemon_core.specs.Housed.{HouseLogView, past_in}
use Rattle.daemon_core.specs.Openings.{house_log_of}
use Rattle.daemon_core.proofs.PuttingOff.{accept-over, few-over, suits-over}
use Rattle.daemon_core.proofs.house_log.HouseLog.row_put_off.Goals as goal

pub overflow_cast-entry : goal.overflow_cast-entry
overflow_cast-entry c =
    let v : HouseLogView = house_log_of c.self.inside in
    let e : v ≡ c.args.self.now = c.self.view_is in
    let a = accept-over v c.args.self.now c.args.client c.args.request.now e c.requires in
    let f = few-over v c.args.client c.args.request.now c.self.invariant.house_log a in
    let l = ap length c.rows.ensures in
    omega (arith, f, l)

pub overflow_add-entry : goal.overflow_add-entry
overflow_add-entry c =
    let v : HouseLogView = house_log_of c.self.inside in
    let e : v ≡ c.args.self.now = c.self.view_is in
    let a = accept-over v c.args.self.now c.args.client c.args.request.now e c.requires in
    let f = few-over v c.args.client c.args.request.now c.self.invariant.house_log a in
    let l = ap length c.rows.ensures in
    omega (arith, f, l)

pub asked-requires : goal.asked-requires
asked-requires c =
    let v : HouseLogView = house_log_of c.self.inside in
    let e : v ≡ c.args.self.now = c.self.view_is in
    let a = accept-over v c.args.self.now c.args.client c.args.request.now e c.requires in
    let f = few-over v c.args.client c.args.request.now c.self.invariant.house_log a in
    λ h. omega (arith, f)

pub returns-clause-suits : goal.returns-clause-suits
returns-clause-suits c =
    let v : HouseLogView = house_log_of c.self.inside in
    let e : v ≡ c.args.self.now = c.self.view_is in
    let a = accept-over v c.args.self.now c.args.client c.args.request.now e c.requires in
    let h : addition_on v.facts (time_of (past_in v)) v.core.views v.core.rows c.args.client c.args.request.now RowState.Pending ≡ Some (Change.Add c.in-Some-Add.row) = cc in
    subst (λ (x : HouseLogView). Suits (Change.Add c.in-Some-Add.row) x.core.rows) e (suits-over v c.args.client c.args.request.now c.in-Some-Add.row c.self.invariant.house_log a h)
