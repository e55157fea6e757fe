use Rattle.std.proofs.Common.{ap, ◌∙◌}
use Rattle.emulated_boards.specs.Conditions.{unplugged}
use Rattle.daemon_core.specs.Housed.{Housed}
use Rattle.daemon_core.specs.Quiet.{is_quiet}
use Rattle.daemon_core.proofs.Moves.{moved-none, moved-over, unplug-free_over, unplug-refused_over}
use Rattle.daemon_core.proofs.house.House.unplug.Goals as goal

pub note-requires-clause-quiet : goal.note-requires-clause-quiet
note-requires-clause-quiet g c = ap is_quiet c.unplug_refused_so.ensures ∙ c.in-Some.ensures.stays

pub note-requires-clause-allowed : goal.note-requires-clause-allowed
note-requires-clause-allowed g c =
    unplug-refused_over c.self.inside.house_log c.enter.new.self.house_log c.core.result.now c.args.client c.args.device.now c.in-Some.refused c.unplug_refused_so.result
    (ap (λ (h : Housed g.row.K.Denot). h.house_log) c.self.view_is) c.core.ensures c.known.ensures c.in-Some.ensures.why c.unplug_refused_so.ensures

pub take_out-requires-clause-free : goal.take_out-requires-clause-free
take_out-requires-clause-free g c =
    unplug-free_over c.self.inside.house_log c.enter.new.self.house_log c.core.result.now c.args.device.now
    (ap (λ (h : Housed g.row.K.Denot). h.house_log) c.self.view_is) c.core.ensures c.in-None.ensures.why

pub returns-in-Some-clause-places : goal.returns-in-Some-clause-places
returns-in-Some-clause-places g c =
    moved-none unplugged c.args.self.now.house_log c.args.device.now c.in-Some.refused c.args.self.now.places c.enter.new.self.places c.note.new.self.places
    c.in-Some.ensures.stays c.note.ensures.elsewhere.places c.in_ok-enter.ensures.elsewhere.places

pub returns-in-None-clause-places : goal.returns-in-None-clause-places
returns-in-None-clause-places g c =
    moved-over unplugged c.args.self.now.house_log c.enter.new.self.house_log c.args.device.now c.args.self.now.places c.enter.new.self.places c.take_out.new.self.places
    c.in_ok-enter.ensures.entered.same c.in_ok-enter.ensures.elsewhere.places c.take_out.ensures.moved
