use Rattle.std.proofs.Common.{length}
use Rattle.history_sqlite.proofs.finding.+are_columns.Given as goal

abbrev pub decreases-are_columns : goal.decreases-are_columns
decreases-are_columns l = length l.columns.now
