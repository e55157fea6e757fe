use Rattle.std.proofs.Common.{refl}
use Rattle.fw_patterns.specs.Reading.{branches}
use Rattle.fw_patterns.proofs.branches.Draft.new.Goals as goal

pub returns-clause-branches : goal.returns-clause-branches
unfolding branches
returns-clause-branches c = rw (c.new.ensures.items, c.new-2.ensures.items) refl
