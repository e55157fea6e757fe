use Rattle.std.proofs.Common.{arith}
use Rattle.core_state.specs.CoreBoards.{board}
use Rattle.core_state.proofs.BoardsInTurn.{beaten-here, beaten-next, beaten-none}
use Rattle.core_state.proofs.arranging.is_beaten.Goals as goal

pub returns-then-beats : goal.returns-then-beats
returns-then-beats c =
    beaten-here c.args.facts.now (board c.args.number c.args.sheet.now) c.items-its-items.result.now c.loop-other.other c.its-item.result c.beats.result
    c.items-its-items.ensures c.loop-other-test.true c.its-item.is c.beats.ensures c.if-beats.true

pub loop-other-preserved : goal.loop-other-preserved
loop-other-preserved c =
    beaten-next c.args.facts.now (board c.args.number c.args.sheet.now) c.items-its-items.result.now c.loop-other.other c.its-item.result c.beats.result
    c.items-its-items.ensures c.loop-other-test.true c.its-item.is c.beats.ensures c.if-beats.false c.loop-other.invariant

pub returns : goal.returns
returns c =
    beaten-none c.args.facts.now (board c.args.number c.args.sheet.now) c.items-its-items.result.now c.loop-other.other
    c.items-its-items.ensures (omega (arith, c.loop-other-test.false)) c.loop-other.invariant
