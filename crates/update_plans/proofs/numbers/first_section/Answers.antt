use Rattle.std.proofs.Common.{◌∙◌, sym, ◌+◌}
use Rattle.std.proofs.lemmas.List.{take_rest}
use Rattle.version_formats.proofs.OrderLemmas.{sections_at_dot, sections_no_dot}
use Rattle.update_plans.proofs.numbers.first_section.Goals as goal

pub returns-in-Some-clause-first : goal.returns-in-Some-clause-first
returns-in-Some-clause-first c =
    rw (take_rest c.args.text.now (c.in-Some.at + 1)) (sections_at_dot c.args.text.now c.in-Some.at (sym c.first_dot.ensures ∙ c.in-Some.is))

pub returns-in-None-clause-first : goal.returns-in-None-clause-first
returns-in-None-clause-first c = sections_no_dot c.args.text.now (sym c.first_dot.ensures ∙ c.in-None.is)
