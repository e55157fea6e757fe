use Rattle.site_scripts.proofs.absent.absents_or_none.Goals as goal

pub returns-in-Some : goal.returns-in-Some
returns-in-Some c = rw (← c.in-Some.ensures) (rw c.field.ensures at c.absents.ensures)
