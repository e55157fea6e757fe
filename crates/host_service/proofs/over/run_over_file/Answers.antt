use Rattle.std.proofs.Common.{map}
use Rattle.history_keeper.specs.Signs.{signs_of}
use Rattle.command_words.specs.Commands.{command_of}
use Rattle.fwupd_service.specs.Plugged.{plugin_words}
use Rattle.host_service.specs.Brought.{folder_shelves, program_plugins}
use Rattle.host_service.proofs.OverLaws.{words-so}
use Rattle.host_service.proofs.over.run_over_file.Goals as goal

pub returns-clause-ends : goal.returns-clause-ends
returns-clause-ends g c = (c.in_ok-keeper.keeper, record { no_doubt = c.in_ok-keeper.ensures.no_doubt; no_others = c.in_ok-keeper.ensures.no_others }, c.in_ok-ran.ensures.ends)

-- the keeper that was opened tells no other rows than the file held
pub returns-clause-over : goal.returns-clause-over
returns-clause-over g c held holds left tells =
    words-so (signs_of g.K.Keeper.tells g.K.Keeper.doubt g.K.Keeper.faults) c.in_ok-keeper.keeper
    (record { log = c.in_ok-ran.ran.log; opening = c.in_ok-ran.ran.opening; boards = c.in_ok-ran.ran.boards; keeper = c.in_ok-ran.ran.keeper })
    held left (c.in_ok-keeper.ensures.no_others held holds) tells
    (program_plugins (plugin_words (λ b. (goal.Plugin-dyn g (b.vtable, b.value)).own_sheet b.value) (λ b. (goal.Plugin-dyn g (b.vtable, b.value)).own_vetoes b.value) (λ b. (goal.Plugin-dyn g (b.vtable, b.value)).steps b.value)))
    (command_of (map (λ word. word.now) c.args.words.now)) c.in_ok-ran.ran.status
    (record { shelves = folder_shelves; unread = g.S.Source.left c.args.source.now; written = g.T.Sink.taken c.args.out.now })
    (record { shelves = _; unread = g.S.Source.left c.run_over_folder.new.source; written = g.T.Sink.taken c.run_over_folder.new.out }) c.in_ok-ran.ensures.ends
