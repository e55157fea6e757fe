use Rattle.std.proofs.Common.{arith}
use Rattle.update_plans.specs.Plans.{scene}
use Rattle.update_plans.proofs.Puts.{begins-ask, begins-ask-rows, begins-claim, begins-claim-rows, begins-put}
use Rattle.update_plans.proofs.planner.Asker.take.Goals as goal
use Rattle.update_log.specs.Known.{basis_of}

pub step-requires : goal.step-requires
step-requires g c =
    let s = scene (basis_of c.args.self.now.facts.now g.at.opening) c.args.self.now.client c.args.self.now.tag.now in
    let b = c.requires.1.0 in
    (b.stands, (begins-ask s c.args.step.now g.at c.args.release.now c.args.entry c.args.state.now b c.args.request.now c.blocks_of.result c.requires.0 c.blocks_of.ensures, (omega (arith, c.requires.1.1.0), (begins-ask-rows s c.args.step.now g.at c.args.release.now c.args.entry c.args.state.now b c.args.request.now c.blocks_of.result c.requires.0 c.blocks_of.ensures))))

pub step-requires-2 : goal.step-requires-2
step-requires-2 g c =
    let s = scene (basis_of c.args.self.now.facts.now g.at.opening) c.args.self.now.client c.args.self.now.tag.now in
    let b = c.requires.1.0 in (
      c.step.ensures.stands,
      (
        begins-claim s c.args.step.now g.at c.args.release.now c.args.entry c.args.state.now b c.args.request.now c.blocks_of.result c.requires.0 c.blocks_of.ensures c.step.new.state.log c.step.ensures.log,
        (
          omega (arith, c.requires.1.1.0, c.step.ensures.room),
          (
              begins-claim-rows s c.args.step.now g.at c.args.release.now c.args.entry c.args.state.now b c.args.request.now c.blocks_of.result c.requires.0 c.blocks_of.ensures c.step.new.state c.step.ensures.log
              c.step.ensures.row_room c.requires.1.1.1),
        ),
      ),
    )

pub returns-clause-put : goal.returns-clause-put
returns-clause-put g c =
    let s = scene (basis_of c.args.self.now.facts.now g.at.opening) c.args.self.now.client c.args.self.now.tag.now in
    begins-put s c.args.step.now g.at c.args.release.now c.args.entry c.args.state.now c.requires.1.0 c.args.request.now c.blocks_of.result c.requires.0 c.blocks_of.ensures
    c.step.new.state.log c.step-2.new.state c.step.ensures.log c.step-2.ensures.log c.step-2.ensures.stands

pub returns-clause-room : goal.returns-clause-room
returns-clause-room g c = omega (arith, c.step.ensures.room, c.step-2.ensures.room)
