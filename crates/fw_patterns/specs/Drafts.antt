-- Branches that are read from their end.
use Rattle.std.specs.Prelude.{List, ◌∷◌, reverse}
use Rattle.fw_patterns.specs.Reading.{branch}
use Rattle.fw_patterns.specs.declared.branches.Draft.{Draft}
use Rattle.fw_patterns.specs.declared.syntax.Branch.{Branch}

-- the branches of a draft, whose lists hold the last item first
abbrev pub drafted : Draft → List Branch
drafted d = branch d.from_start d.to_end (reverse d.pieces.items) ∷ reverse d.done.items
