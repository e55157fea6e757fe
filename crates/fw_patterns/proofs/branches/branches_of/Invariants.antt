use Rattle.std.proofs.Common.{◌≡◌, vec_len}
use Rattle.fw_patterns.specs.Drafts.{drafted}
use Rattle.fw_patterns.specs.Reading.{branches}
use Rattle.fw_patterns.proofs.BranchLemmas.{over}
use Rattle.fw_patterns.proofs.branches.branches_of.Given as goal

abbrev pub invariant-loop-placed : goal.invariant-loop-placed
invariant-loop-placed l = over l.left.items l.draft.repeat (drafted l.draft) ≡ branches l.fn.marks.items

abbrev pub decreases-loop-placed : goal.decreases-loop-placed
decreases-loop-placed l = vec_len l.left
