use Rattle.log_tests.proofs.first_steps.are_logged_over.Goals as goal

pub boot_and_cut_with_room-requires : goal.boot_and_cut_with_room-requires
boot_and_cut_with_room-requires c =
    record {
      no_boards = c.requires.no_boards;
      stands = c.in_ok-state.ensures.stands;
      empty = c.in_ok-state.ensures.empty;
    }
