use Rattle.std.proofs.Common.{◌≡◌, ℕ, List, Ok, subst}
use Rattle.version_formats.specs.Versions.{version_read}
use Rattle.version_formats.proofs.version.Version.reads_back.Goals as goal

pub returns : goal.returns
returns c =
    let P : List ℕ → Type 0 = λ xs. version_read xs ≡ Ok xs in
    subst P c.self.view_is c.self.invariant.accepted
