use Rattle.std.proofs.Common.{◌∙◌}
use Rattle.log_tests.proofs.first_steps.are_logged_of_none.Goals as goal

pub are_logged_over-requires : goal.are_logged_over-requires
are_logged_over-requires c = record { no_boards = c.in_ok-facts.ensures ∙ c.new.ensures.items }
