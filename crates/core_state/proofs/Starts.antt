-- The state before the first event.
use Rattle.std.proofs.Common.{◌≡◌, List, [], ap, sym, ◌∙◌, map}
use Rattle.std.specs.Prelude.{None}
use Rattle.update_log.specs.declared.event.Event.{Event}
use Rattle.update_log.specs.declared.facts.Facts.{Facts}
use Rattle.update_log.specs.declared.trace.Traced.{Traced}
use Rattle.update_log.proofs.Openings.{no-history}
use Rattle.update_log.specs.Boards.{devices}
use Rattle.core_state.specs.Core.{Core, Stands, trace_kept, trace_of_live}
use Rattle.core_state.specs.CoreBoards.{first_view}
use Rattle.update_log.specs.Holding.{live}
use Rattle.update_log.specs.Known.{basis_of, doubt, rows, views}
use Rattle.update_log.specs.Pasts.{past_of}

pub stands-first : (facts : Facts) (core : Core) → core.log ≡ [] → core.rows ≡ [] → core.traces ≡ [] → core.doubt ≡ None
    → core.views ≡ map first_view (devices facts) → core.boards ≡ map (λ b. b.number) (devices facts) → Stands (basis_of facts []) core
stands-first facts core l r t d v b =
    record {
      history = no-history;
      rows = r ∙ ap (λ (es : List Event). rows (basis_of facts []) (past_of es)) (sym l);
      views = v ∙ ap (λ (es : List Event). views (basis_of facts []) (past_of es)) (sym l);
      boards = b;
      traces = ap (λ (ts : List Traced). map trace_kept ts) t ∙ ap (λ (es : List Event). map (trace_of_live (basis_of facts []) (past_of es)) (live (past_of es))) (sym l);
      doubt = d ∙ ap (λ (es : List Event). doubt (basis_of facts []) (past_of es)) (sym l);
    }
