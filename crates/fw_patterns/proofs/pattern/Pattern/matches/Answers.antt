use Rattle.std.proofs.Common.{true, false, sym, ◌∙◌}
use Rattle.fw_patterns.proofs.DecidingLemmas.{some_branch-tried}
use Rattle.fw_patterns.proofs.MatchLemmas.{some_branch-decides}
use Rattle.fw_patterns.proofs.PlaceLemmas.{some_branch-more, some_branch-end}
use Rattle.fw_patterns.proofs.pattern.Pattern.matches.Goals as goal

pub returns-then-branch_matches : goal.returns-then-branch_matches
returns-then-branch_matches c =
    let whole = c.items-branch-items.ensures ∙ c.self.view_is in
    let more = some_branch-more c.args.self.now c.args.text.now c.loop-branch.branch-index c.branch-item.result
    (rw whole at c.loop-branch-test.true) (rw whole at c.branch-item.is) in
    let is = sym (rw (sym c.branch_matches.ensures ∙ c.if-branch_matches.true) at more) ∙ c.loop-branch.invariant in
    record {
      stands = some_branch-decides true c.args.self.now c.args.text.now is;
      decided = some_branch-tried true c.args.self.now c.args.text.now is;
    }

pub loop-branch-preserved : goal.loop-branch-preserved
loop-branch-preserved c =
    let whole = c.items-branch-items.ensures ∙ c.self.view_is in
    let more = some_branch-more c.args.self.now c.args.text.now c.loop-branch.branch-index c.branch-item.result
    (rw whole at c.loop-branch-test.true) (rw whole at c.branch-item.is) in
    sym (rw (sym c.branch_matches.ensures ∙ c.if-branch_matches.false) at more) ∙ c.loop-branch.invariant

pub returns : goal.returns
returns c =
    let whole = c.items-branch-items.ensures ∙ c.self.view_is in
    let is = sym (some_branch-end c.args.self.now c.args.text.now c.loop-branch.branch-index (rw whole at c.loop-branch-test.false)) ∙ c.loop-branch.invariant in
    record {
      stands = some_branch-decides false c.args.self.now c.args.text.now is;
      decided = some_branch-tried false c.args.self.now c.args.text.now is;
    }
