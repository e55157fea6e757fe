use Rattle.std.proofs.Common.{◌≡◌, map, take, Some}
use Rattle.marks_sqlite.specs.Causes.{entry_read}
use Rattle.marks_sqlite.proofs.statements.read_entries.Given as goal

abbrev pub invariant-loop-columns : goal.invariant-loop-columns
invariant-loop-columns l = map Some l.entries.items ≡ map entry_read (take l.columns-index l.table)
