use Rattle.std.proofs.Common.{◌≡◌, true, false, sym, ◌∙◌}
use Rattle.history_tests.proofs.keeping.one_more.Goals as goal

-- the keeper was made to tell nothing
pub commit-requires-clause-suits : goal.commit-requires-clause-suits
commit-requires-clause-suits c = λ all t. let bad : false ≡ true = sym c.in_ok-adopt.ensures.unused.may_tell ∙ (c.load.ensures.unchanged all t).may in cc
