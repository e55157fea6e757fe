use Rattle.std.proofs.Common.{true, refl, ap, ◌∙◌, List, ℕ, ◌++◌, map}
use Rattle.guid_ids.specs.Identifiers.{guid_text}
use Rattle.client_scripts.specs.Replies.{with_commas}
use Rattle.client_scripts.proofs.Worded.{all_fit, put_fit, put_fits}
use Rattle.client_scripts.proofs.commas.put_guids.Goals as goal

pub loop-guid-preserved : goal.loop-guid-preserved
loop-guid-preserved c = put_fit (λ guid. true) guid_text c.args.guids.now c.loop-guid.guid-index c.guid-item.result true c.text.result _ _ _ _ _ c.loop-guid-test.true c.guid-item.is refl c.text.ensures.text c.loop-guid.invariant c.in_ok-begun.ensures.text c.in_ok-begun.ensures.begun

pub returns : goal.returns
returns c =
    put_fits (λ guid. true) guid_text c.args.guids.now c.loop-guid.guid-index c.args.out.now.items c.loop-guid.out.items c.put_end.new.out.items c.loop-guid.begun c.loop-guid-test.false c.loop-guid.invariant c.in_ok-put_end.ensures
    ∙ ap (λ (guids : List (List ℕ)). c.args.out.now.items ++ with_commas (map guid_text guids)) (all_fit c.args.guids.now)
