use Rattle.std.proofs.Common.{sym, ◌∙◌}
use Rattle.client_scripts.specs.Places.{line_at}
use Rattle.client_scripts.proofs.First.{listed-64}
use Rattle.client_scripts.proofs.releases.put_places.Goals as goal

pub returns : goal.returns
returns c = listed-64 (line_at c.args.catalogue.now c.args.shown.now) c.args.places.now c.min-listed.result _ _ _ (sym c.is_empty.ensures ∙ c.if-is_empty.false) c.min-listed.ensures c.in_ok-put_lines.ensures c.in_ok-put_left_out.ensures
