use Rattle.std.proofs.Common.{◌∙◌}
use Rattle.row_index.specs.Rows.{has_tag}
use Rattle.row_index.proofs.Places.{find-place}
use Rattle.row_index.proofs.indexed_rows.IndexedRows.with_tag.Goals as goal

pub returns-in-Some : goal.returns-in-Some
returns-in-Some c =
    let kept = c.self.invariant c.in-Some.index c.in-Some.is in
    let index = kept.index in
    c.row_with_tag.ensures
    ∙ rw (c.at_place.ensures, c.deref.ensures.value, c.place_of_tag.ensures, index.of_tags c.args.tag.now, ← c.self.view_is)
    (find-place (has_tag c.args.tag.now) c.self.inside.rows.items)
