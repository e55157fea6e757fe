use Rattle.std.proofs.Common.{◌≡◌, ℕ, List, Ok, subst}
use Rattle.fw_base.specs.Lines.{line_read}
use Rattle.fw_base.proofs.line.Line.reads_back.Goals as goal

pub returns : goal.returns
returns c =
    let P : List ℕ → Type 0 = λ xs. line_read xs ≡ Ok xs in
    subst P c.self.view_is c.self.invariant.accepted
