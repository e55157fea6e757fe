use Rattle.std.proofs.Common.{[], ap, ◌∙◌}
use Rattle.core_state.proofs.FirstSteps.{stands-reserved}
use Rattle.core_state.specs.Core.{Core}
use Rattle.update_log.specs.Known.{basis_of}
use Rattle.log_tests.proofs.first_steps.boot_and_cut_with_room.Goals as goal

pub boot_and_cut-requires : goal.boot_and_cut-requires
boot_and_cut-requires c =
    record {
      no_boards = c.requires.no_boards;
      none_listed = c.new.ensures.items;
      stands = stands-reserved (basis_of c.args.facts.now []) c.args.state.now c.reserve.new.self c.in_ok-reserve.ensures.same c.requires.stands;
      empty = ap (λ (k : Core). k.log) c.in_ok-reserve.ensures.same ∙ c.requires.empty;
      room = c.in_ok-reserve.ensures.room;
    }
