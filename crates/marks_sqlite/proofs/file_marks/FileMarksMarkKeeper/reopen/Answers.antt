use Rattle.marks_sqlite.proofs.file_marks.FileMarksMarkKeeper.reopen.Goals as goal

pub returns-clause-reopened : goal.returns-clause-reopened
returns-clause-reopened c = c.reopen.ensures.reopened
