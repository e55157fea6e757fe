use Rattle.std.proofs.Common.{◌≡◌, [], OnOk, subst}
use Rattle.update_log.specs.Pasts.{past_of}
use Rattle.command_outputs.proofs.Wholes.{explained_whole}
use Rattle.command_outputs.proofs.explain.put_explained.Goals as goal

pub returns : goal.returns
returns c =
    subst (λ text. OnOk c.put_verdict.result (c.put_verdict.new.out.items ≡ text))
    (explained_whole c.args.facts.now (past_of c.args.state.now.log) c.args.port c.args.version _ _ _ c.args.out.now.items _ _
    c.asked-request.ensures c.requires.views (c.verdict.ensures [] c.requires) c.in_ok-put_heading.ensures c.in_ok-put_lines.ensures)
    c.put_verdict.ensures
