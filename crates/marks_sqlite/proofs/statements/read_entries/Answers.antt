use Rattle.std.proofs.Common.{sym, arith}
use Rattle.marks_sqlite.proofs.statements.read_entries.Goals as goal

pub returns-in-None-clause-cause : goal.returns-in-None-clause-cause
returns-in-None-clause-cause c is = (c.loop-columns.columns-index, c.columns-item.result, omega arith, sym c.columns-item.is, sym c.in-None.ensures)
