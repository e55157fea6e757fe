use Rattle.std.proofs.Common.{sym, ◌∙◌}
use Rattle.row_index.proofs.IndexLaws.{one-more}
use Rattle.row_index.proofs.index.Index.note.Goals as goal

pub returns-clause-noted : goal.returns-clause-noted
returns-clause-noted c =
    one-more c.args.rows.now c.args.row.now c.args.self.now.tags c.args.self.now.waiting c.note_tag.new.tags c.note_waiting.new.waiting
    c.requires.index c.if-row-rows.false (sym c.is_in_conflict.ensures ∙ c.if-is_in_conflict.false) c.note_tag.ensures.noted c.note_waiting.ensures.noted
