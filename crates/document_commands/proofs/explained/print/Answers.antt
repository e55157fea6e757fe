use Rattle.std.proofs.Common.{All, List, ℕ, sym, subst}
use Rattle.outer_traits.specs.Sinks.{Took, TookFront}
use Rattle.first_boots.specs.FirstBoot.{IsAsMade}
use Rattle.update_log.proofs.Openings.{no-history}
use Rattle.document_commands.proofs.ExplainsSo.{as_made, printed_text}
use Rattle.document_commands.proofs.explained.print.Goals as goal

pub state_at_first_boot-requires-clause-made : goal.state_at_first_boot-requires-clause-made
state_at_first_boot-requires-clause-made g c =
    subst (All IsAsMade) (sym c.deref.ensures.value) (as_made c.args.campaign.now.boards.items c.requires.begins.made)

pub state_at_first_boot-requires-clause-history : goal.state_at_first_boot-requires-clause-history
state_at_first_boot-requires-clause-history g c = no-history

pub returns-in-Ok-write_explain-clause-printed : goal.returns-in-Ok-write_explain-clause-printed
returns-in-Ok-write_explain-clause-printed g c =
    subst (λ (text : List ℕ). Took text (g.T.Sink.taken c.args.out.now) (g.T.Sink.taken c.write_explain.new.out))
    (printed_text c.args.campaign.now.facts c.undisturbed-boot.result c.in-Ok.state.log c.args.campaign.now.boards.items c.deref.result.now c.args.port c.args.version c.undisturbed-boot.ensures c.in-Ok.ensures.log c.deref.ensures.value)
    c.in-Ok-write_explain.ensures.whole

pub returns-in-Err-SinkFault-clause-printed : goal.returns-in-Err-SinkFault-clause-printed
returns-in-Err-SinkFault-clause-printed g c =
    subst (λ (text : List ℕ). TookFront text (g.T.Sink.taken c.args.out.now) (g.T.Sink.taken c.write_explain.new.out))
    (printed_text c.args.campaign.now.facts c.undisturbed-boot.result c.in-Ok.state.log c.args.campaign.now.boards.items c.deref.result.now c.args.port c.args.version c.undisturbed-boot.ensures c.in-Ok.ensures.log c.deref.ensures.value)
    c.in-Err-SinkFault.ensures.front
