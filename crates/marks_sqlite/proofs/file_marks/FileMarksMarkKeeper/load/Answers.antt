use Rattle.marks_sqlite.proofs.file_marks.FileMarksMarkKeeper.load.Goals as goal

pub returns-clause-answer : goal.returns-clause-answer
returns-clause-answer c = c.load.ensures.answer

pub returns-clause-unchanged : goal.returns-clause-unchanged
returns-clause-unchanged c = c.load.ensures.unchanged
