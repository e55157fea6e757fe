use Rattle.std.proofs.Common.{arith}
use Rattle.update_log.specs.Boards.{Board}
use Rattle.core_state.specs.CoreBoards.{first_view}
use Rattle.core_state.proofs.BoardsInTurn.{as-many, few-devices, free-item, kept-item, kept-whole}
use Rattle.core_state.proofs.arranging.arrange.Goals as goal

pub consider-requires-clause-free : goal.consider-requires-clause-free
consider-requires-clause-free c = λ t.
    free-item c.args.facts.now c.items-sheet-items.result.now c.loop-number.number c.sheet-item.result c.loop-number.devices
    c.items-sheet-items.ensures c.requires c.loop-number-test.true c.sheet-item.is c.loop-number.invariant.devices t

pub loop-number-preserved : goal.loop-number-preserved
loop-number-preserved c =
    record {
      devices =
          kept-item first_view c.args.facts.now c.items-sheet-items.result.now c.loop-number.number c.sheet-item.result c.loop-number.devices c.consider.new.devices
          c.items-sheet-items.ensures c.loop-number-test.true c.sheet-item.is c.loop-number.invariant.devices c.in_ok-consider.ensures.devices;
      boards =
          kept-item (λ (b : Board). b.number) c.args.facts.now c.items-sheet-items.result.now c.loop-number.number c.sheet-item.result c.loop-number.boards.items c.consider.new.boards.items
          c.items-sheet-items.ensures c.loop-number-test.true c.sheet-item.is c.loop-number.invariant.boards c.in_ok-consider.ensures.boards;
    }

pub returns : goal.returns
returns c = record {
  devices =
      kept-whole first_view c.args.facts.now c.items-sheet-items.result.now c.loop-number.number c.loop-number.devices
      c.items-sheet-items.ensures (omega (arith, c.loop-number-test.false)) c.loop-number.invariant.devices;
  boards =
      kept-whole (λ (b : Board). b.number) c.args.facts.now c.items-sheet-items.result.now c.loop-number.number c.loop-number.boards.items
      c.items-sheet-items.ensures (omega (arith, c.loop-number-test.false)) c.loop-number.invariant.boards;
  few =
      few-devices first_view c.args.facts.now c.loop-number.devices c.requires
      (kept-whole first_view c.args.facts.now c.items-sheet-items.result.now c.loop-number.number c.loop-number.devices
      c.items-sheet-items.ensures (omega (arith, c.loop-number-test.false)) c.loop-number.invariant.devices);
  matched =
      as-many c.args.facts.now c.loop-number.devices c.loop-number.boards.items
      (kept-whole first_view c.args.facts.now c.items-sheet-items.result.now c.loop-number.number c.loop-number.devices
      c.items-sheet-items.ensures (omega (arith, c.loop-number-test.false)) c.loop-number.invariant.devices)
      (kept-whole (λ (b : Board). b.number) c.args.facts.now c.items-sheet-items.result.now c.loop-number.number c.loop-number.boards.items
      c.items-sheet-items.ensures (omega (arith, c.loop-number-test.false)) c.loop-number.invariant.boards);
}
