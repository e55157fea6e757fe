use Rattle.std.proofs.Common.{◌≡◌, drop, ap, sym, ◌∙◌}
use Rattle.outer_traits.specs.Plans.{MemoryInput}
use Rattle.outer_traits.proofs.Pieces.{left_from}
use Rattle.outer_traits.proofs.memory_source.MemorySourceSource.read.Goals as goal

pub returns-clause-came : goal.returns-clause-came
returns-clause-came c =
    let left : c.args.self.now.left ≡ drop c.self.inside.at c.self.inside.bytes.items = ap (λ (v : MemoryInput). v.left) (sym c.self.view_is) in
    rw (c.copy_front-count.ensures.bytes, c.split_at.ensures.back, c.deref.ensures.value) (left ∙ left_from c.self.inside.bytes.items c.self.inside.at c.copy_front-count.result)
