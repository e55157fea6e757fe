use Rattle.std.proofs.Common.{codes}
use Rattle.std.proofs.lemmas.Result.{on_ok_weaker}
use Rattle.std.specs.Fmt.{decimal}
use Rattle.command_outputs.specs.Printed.{counts_text}
use Rattle.command_outputs.proofs.Joined.{put_on_ok, three_and_end}
use Rattle.command_outputs.proofs.remotes.put_counts.Goals as goal

pub returns : goal.returns
unfolding counts_text
returns c =
    on_ok_weaker c.extend_from_slice.result
    (λ e. three_and_end c.args.out.now.items c.put_count.new.out.items c.put_count-2.new.out.items c.put_count-3.new.out.items c.extend_from_slice.new.self.items
    (codes " components ") (decimal c.args.components) (codes " releases ") (decimal c.args.releases) (codes " kept ") (decimal c.args.kept) (codes "\n")
    c.in_ok-put_count.ensures c.in_ok-put_count-2.ensures c.in_ok-put_count-3.ensures e)
    (put_on_ok c.extend_from_slice.result _ _ _ c.extend_from_slice.ensures.items)
