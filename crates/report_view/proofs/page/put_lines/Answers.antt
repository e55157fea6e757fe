use Rattle.std.proofs.Common.{◌∙◌}
use Rattle.report_view.proofs.page.put_lines.Goals as goal

pub put_all-requires : goal.put_all-requires
put_all-requires c = record { events = c.deref.ensures.value ∙ c.in_ok-events.ensures; strays = c.deref-2.ensures.value ∙ c.in_ok-strays.ensures }

pub drawn_by-requires : goal.drawn_by-requires
drawn_by-requires c = record { events = c.deref-3.ensures.value ∙ c.in_ok-events.ensures; strays = c.deref-4.ensures.value ∙ c.in_ok-strays.ensures }

pub returns-clause-page : goal.returns-clause-page
returns-clause-page c = c.in_ok-put_all.ensures

pub returns-clause-drawn : goal.returns-clause-drawn
returns-clause-drawn c = c.drawn_by.ensures
