use Rattle.std.proofs.Common.{List, map, ap, ◌∙◌}
use Rattle.row_index.specs.Formers.{as_were, former_of}
use Rattle.row_index.specs.declared.former.Former.{Former}
use Rattle.update_log.specs.Known.{basis_of}
use Rattle.core_state.proofs.RowsBack.{opening-back}
use Rattle.report_text.proofs.report.write_over.Goals as goal

pub returns-clause-rows : goal.returns-clause-rows
returns-clause-rows g c =
    c.as_were.ensures
    ∙ ap (λ (fs : List Former). as_were fs c.into_log_and_rows-followed.result.1.items) (c.deref.ensures.value ∙ c.in_ok-state.ensures.formers)
    ∙ ap (as_were (map former_of g.opening)) c.into_log_and_rows-followed.ensures.rows
    ∙ opening-back (basis_of c.args.facts.now g.opening) c.write_events-written.new.state c.write_events-written.ensures.stands
