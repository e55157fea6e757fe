use Rattle.std.proofs.Common.{length}
use Rattle.plugin_order.specs.Sheets.{rule_of, between}
use Rattle.plugin_order.proofs.TableLaws.{filled_none, filled_more, filled_says}
use Rattle.plugin_order.proofs.rules.Rules.of.Goals as goal

pub loop-p-init : goal.loop-p-init
loop-p-init c = filled_none (between (rule_of c.args.kind) c.args.sheets.now) (length c.args.sheets.now)

pub loop-q-preserved : goal.loop-q-preserved
loop-q-preserved c =
    filled_more (between (rule_of c.args.kind) c.args.sheets.now) (length c.args.sheets.now) c.loop-q.table c.loop-p.p c.loop-q.q
    c.rule_at.result c.requires c.loop-p-test.true c.loop-q-test.true c.rule_at.ensures c.loop-q.invariant

pub returns-clause-rules : goal.returns-clause-rules
returns-clause-rules c = λ p q. filled_says (rule_of c.args.kind) c.args.sheets.now c.loop-p.table c.loop-p.p c.loop-p-test.false c.loop-p.invariant p q
