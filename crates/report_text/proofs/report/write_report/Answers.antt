use Rattle.report_text.proofs.report.write_report.Goals as goal

pub returns-clause-whole : goal.returns-clause-whole
returns-clause-whole g c = rw c.in_ok-followed.ensures.items at c.write_report_in_place.ensures.whole

pub returns-clause-front : goal.returns-clause-front
returns-clause-front g c = rw c.in_ok-followed.ensures.items at c.write_report_in_place.ensures.front
