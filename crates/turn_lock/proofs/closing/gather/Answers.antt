use Rattle.std.proofs.Common.{◌∷◌, ◌∙◌}
use Rattle.turn_lock.specs.Views.{accounts_of, knowledge_of}
use Rattle.turn_lock.proofs.Fields.{idle_seat}
use Rattle.turn_lock.proofs.Gathering.{idle_can, closing_can, ready_last, gathered_last, gathered_more}
use Rattle.turn_lock.proofs.closing.gather.Goals as goal

pub lend-closer-requires : goal.lend-closer-requires
lend-closer-requires g c = (ready_last c.args.table.now.table_id c.args.passes.items c.pop.new.self.items c.in-Some.last c.in-Some.ensures.items c.requires.ready).1.1

pub loop-pass-init : goal.loop-pass-init
loop-pass-init g c =
    let all = c.args.passes.items in
    let rest = c.pop.new.self.items in
    let last = c.in-Some.last in
    let v = c.lend-closer.result.me.0 in
    let ready = ready_last c.args.table.now.table_id all rest last c.in-Some.ensures.items c.requires.ready in
    let idle = idle_seat c.lend-closer.result.me (knowledge_of last) c.lend-closer.ensures.seat.1 in record {
      seat = c.lend-closer.ensures.seat.0 ∙ ready.1.0;
      closer = idle_can v (knowledge_of last) idle.0;
      ready = ready.0;
      accounts = gathered_last all rest last v c.in-Some.ensures.items idle.0;
    }

pub take_in-requires-clause-ready : goal.take_in-requires-clause-ready
take_in-requires-clause-ready g c =
    (ready_last c.args.table.now.table_id c.loop-pass.passes.items c.pop-in-loop-pass.new.self.items c.in-Some-pop.pass c.in-Some-pop.ensures.items c.loop-pass.invariant.ready).1

pub loop-pass-preserved : goal.loop-pass-preserved
loop-pass-preserved g c =
    let all = c.loop-pass.passes.items in
    let rest = c.pop-in-loop-pass.new.self.items in
    let pass = c.in-Some-pop.pass in
    let v = c.loop-pass.closer.me.0 in
    let w = c.take_in.new.closer.me.0 in record {
      seat = c.take_in.ensures.seat ∙ c.loop-pass.invariant.seat;
      closer = closing_can w (knowledge_of pass ∷ accounts_of v) c.take_in.ensures.joined;
      ready = (ready_last c.args.table.now.table_id all rest pass c.in-Some-pop.ensures.items c.loop-pass.invariant.ready).0;
      accounts = gathered_more all rest pass v w c.in-Some-pop.ensures.items c.take_in.ensures.joined ∙ c.loop-pass.invariant.accounts;
    }
