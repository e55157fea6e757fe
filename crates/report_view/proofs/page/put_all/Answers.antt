use Rattle.std.proofs.Common.{Bor, List, ℕ, map, ap, ◌∙◌}
use Rattle.report_view.specs.Rows.{rows_of}
use Rattle.report_view.specs.Lanes.{clients_of, names_of}
use Rattle.report_view.proofs.page.put_all.Goals as goal

pub put_parts-requires : goal.put_parts-requires
put_parts-requires c =
    let all : List (List ℕ) = map (λ (line : Bor (List ℕ)). line.now) c.args.lines.now in
    record {
      events = c.requires.events;
      rows = c.deref-2.ensures.value ∙ c.in_ok-rows.ensures ∙ ap (rows_of all) c.requires.events;
      clients = c.deref-3.ensures.value ∙ c.in_ok-clients.ensures ∙ ap clients_of c.requires.events;
      names = ap (map (λ (name : Bor (List ℕ)). name.now)) c.deref-4.ensures.value ∙ c.in_ok-names.ensures
          ∙ ap (names_of all) (c.deref.ensures.value ∙ c.in_ok-rows.ensures ∙ ap (rows_of all) c.requires.events);
      strays = c.requires.strays;
    }

pub returns : goal.returns
returns c = c.in_ok-put_parts.ensures
