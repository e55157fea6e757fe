use Rattle.std.specs.Str.{bytes_eq}
use Rattle.indexmap.specs.IndexMap.{get}
use Rattle.row_index.proofs.Places.{near-passes}
use Rattle.row_index.proofs.indexed_rows.IndexedRows.near.Goals as goal

pub returns-in-Some : goal.returns-in-Some
returns-in-Some c = λ test h.
    let kept = c.self.invariant c.in-Some.index c.in-Some.is in
    let index = kept.index in
    rw (c.at_place.ensures, c.deref.ensures.value, c.place_of_device.ensures, ← c.self.view_is)
    (near-passes test c.self.inside.rows.items (get bytes_eq c.in-Some.index.waiting c.args.device.now) (λ at r g p. index.of_devices c.args.device.now at r g (h r p)))
