use Rattle.plugin_order.specs.Sheets.{rule_of, between}
use Rattle.std.proofs.Common.{length}
use Rattle.plugin_order.proofs.TableLaws.{IsFilled}
use Rattle.plugin_order.proofs.rules.Rules.of.Given as goal

abbrev pub invariant-loop-q : goal.invariant-loop-q
invariant-loop-q l = IsFilled (between (rule_of l.kind) l.sheets) (length l.sheets) l.table l.p l.q

abbrev pub invariant-loop-p : goal.invariant-loop-p
invariant-loop-p l = IsFilled (between (rule_of l.kind) l.sheets) (length l.sheets) l.table l.p 0
