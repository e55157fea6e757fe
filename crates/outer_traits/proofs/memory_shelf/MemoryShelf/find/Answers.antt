use Rattle.std.proofs.Common.{ℕ, List, Vec, Global, Some, None, ap}
use Rattle.outer_traits.specs.Plans.{MemoryFiles}
use Rattle.outer_traits.proofs.Files.{found}
use Rattle.outer_traits.proofs.memory_shelf.MemoryShelf.find.Goals as goal

pub returns-in_err-file : goal.returns-in_err-file
returns-in_err-file c =
    rw c.from_residual.ensures (found (λ (x : List ℕ × Vec ℕ Global). x.0) (λ (x : List ℕ × Vec ℕ Global). x.1.items) c.self.inside.files.items c.deref.result.now c.args.self.now.files c.args.name.now None (ap (λ (v : MemoryFiles). v.files) c.self.view_is) c.deref.ensures.value c.in_err-file.ensures)

pub returns : goal.returns
returns c =
    rw c.as_slice.ensures.value (found (λ (x : List ℕ × Vec ℕ Global). x.0) (λ (x : List ℕ × Vec ℕ Global). x.1.items) c.self.inside.files.items c.deref.result.now c.args.self.now.files c.args.name.now (Some c.in_ok-file.file.now) (ap (λ (v : MemoryFiles). v.files) c.self.view_is) c.deref.ensures.value c.in_ok-file.ensures)
