use Rattle.marks_sqlite.proofs.file_marks.FileMarksMarkKeeper.mark.Goals as goal

pub returns-clause-marked : goal.returns-clause-marked
returns-clause-marked c = c.mark.ensures.marked
