use Rattle.std.proofs.Common.{◌≡◌, ℕ, ◌-◌, length, sym, ◌∙◌, arith, vec_len, vec_capacity}
use Rattle.std.specs.Prelude.{IfSome}
use Rattle.std.proofs.lemmas.List.{with_items_is}
use Rattle.row_index.specs.declared.index.Index.{Index}
use Rattle.row_index.specs.Indexes.{HasRoom, IsIndexOf}
use Rattle.row_index.proofs.IndexLaws.{some-at, some-if}
use Rattle.row_index.proofs.indexed_rows.IndexedRows.advance.Goals as goal

pub invariant_of-self : goal.invariant_of-self
invariant_of-self c = λ x e.
    let rows = c.self.inside.rows in
    let same : length c.advanced.new.rows ≡ vec_len rows = omega (arith, c.advanced.auto.rows, c.deref_mut.ensures.len) in
    let room = some-at (λ (i : Index). (more : ℕ) → IfSome c.take-index.result (λ (j : Index). HasRoom more j.tags j.waiting) → HasRoom more i.tags i.waiting) c.advanced.result x e c.advanced.ensures.room in
    record {
      index = rw (with_items_is rows c.advanced.new.rows same) (some-at (λ (i : Index). IsIndexOf c.advanced.new.rows i.tags i.waiting) c.advanced.result x e c.advanced.ensures.index);
      room = room (vec_capacity rows - vec_len rows) (some-if (λ (j : Index). HasRoom (vec_capacity rows - vec_len rows) j.tags j.waiting) c.take-index.result (λ y f. let kept = c.self.invariant y (sym c.take-index.ensures.value ∙ f) in kept.room));
    }
