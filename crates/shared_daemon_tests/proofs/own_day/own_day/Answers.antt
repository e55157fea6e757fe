use Rattle.std.proofs.Common.{◌≡◌, List, rules, ap, sym, ◌∙◌}
use Rattle.std.specs.Prelude.{Some, option_map}
use Rattle.history_keeper.specs.declared.row.Row.{Row}
use Rattle.history_keeper.specs.declared.row.RowState.{RowState}
use Rattle.history_keeper.specs.Signs.{signs_of}
use Rattle.update_log.specs.Known.{row_of}
use Rattle.daemon_tasks.specs.Begins.{name_of}
use Rattle.daemon_tasks.proofs.Closing.{begins-named, its-name, nothing-out}
use Rattle.shared_daemon_tests.proofs.Kept.{put-off-in, row-in}
use Rattle.shared_daemon_tests.proofs.own_day.own_day.Goals as goal

pub day-requires-clause-name : goal.day-requires-clause-name
day-requires-clause-name g c =
    let f = signs_of g.K.Keeper.tells g.K.Keeper.doubt g.K.Keeper.faults in begins-named f (name_of f c.args.house) c.args.house (its-name f c.args.house) c.requires

pub day-requires-clause-nothing : goal.day-requires-clause-nothing
day-requires-clause-nothing g c = nothing-out (signs_of g.K.Keeper.tells g.K.Keeper.doubt g.K.Keeper.faults) c.args.house c.known.ensures.house_log c.requires.idle

pub day-requires-clause-put_off : goal.day-requires-clause-put_off
day-requires-clause-put_off g c =
    let f = (signs_of g.K.Keeper.tells g.K.Keeper.doubt g.K.Keeper.faults) in
    let h = c.args.house in
    let is : c.state_of.result ≡ Some RowState.Pending = search rules in
    put-off-in f (name_of f h) h (begins-named f (name_of f h) h (its-name f h) c.requires) c.known.ensures.house_log c.args.tasks.now.put_off
    (ap (λ (x : List Row). option_map (λ (r : Row). r.state) (row_of x c.args.tasks.now.put_off)) (sym c.rows.ensures) ∙ sym c.state_of.ensures ∙ is)

pub day-requires-clause-begun : goal.day-requires-clause-begun
day-requires-clause-begun g c =
    let f = (signs_of g.K.Keeper.tells g.K.Keeper.doubt g.K.Keeper.faults) in
    let h = c.args.house in
    let is : c.state_of-2.result ≡ Some RowState.Begun = search rules in
    row-in f (name_of f h) h (begins-named f (name_of f h) h (its-name f h) c.requires) c.known.ensures.house_log c.args.tasks.now.begun RowState.Begun
    (ap (λ (x : List Row). option_map (λ (r : Row). r.state) (row_of x c.args.tasks.now.begun)) (sym c.rows-2.ensures) ∙ sym c.state_of-2.ensures ∙ is)
