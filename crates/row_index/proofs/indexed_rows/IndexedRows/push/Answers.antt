use Rattle.std.proofs.Common.{ℕ, ◌+◌, ◌-◌, [], ◌∷◌, ◌++◌, ap, sym, ◌∙◌, arith, vec_len, vec_capacity}
use Rattle.std.specs.Prelude.{IfSome}
use Rattle.row_index.specs.declared.index.Index.{Index}
use Rattle.row_index.specs.Indexes.{HasRoom, IsIndexOf}
use Rattle.row_index.specs.Rows.{Rows}
use Rattle.row_index.proofs.IndexLaws.{some-at, some-if}
use Rattle.row_index.proofs.indexed_rows.IndexedRows.push.Goals as goal

pub invariant_of-self : goal.invariant_of-self
invariant_of-self c = λ x e.
    let rows = c.self.inside.rows in
    let new = c.push_reserved.new.self in
    let before = ap (λ (v : Rows). v.room) c.self.view_is in
    let room = some-at (λ (i : Index). (more : ℕ) → IfSome c.take-index.result (λ (j : Index). HasRoom (more + 1) j.tags j.waiting) → HasRoom more i.tags i.waiting) c.noted.result x e c.noted.ensures.room in
    record {
      index = rw (c.push_reserved.ensures.items, ← c.deref.ensures.value) (some-at (λ (i : Index). IsIndexOf (c.deref.result.now ++ c.args.row ∷ []) i.tags i.waiting) c.noted.result x e c.noted.ensures.noted);
      room = room (vec_capacity new - vec_len new) (some-if (λ (j : Index). HasRoom (vec_capacity new - vec_len new + 1) j.tags j.waiting) c.take-index.result
          (λ y f. let kept = c.self.invariant y (sym c.take-index.ensures.value ∙ f) in
          let had = kept.room in
          record {
            for_tags = omega (arith, had.for_tags, before, c.requires, c.push_reserved.ensures.len, c.push_reserved.ensures.capacity);
            for_devices = omega (arith, had.for_devices, before, c.requires, c.push_reserved.ensures.len, c.push_reserved.ensures.capacity);
          }));
    }
