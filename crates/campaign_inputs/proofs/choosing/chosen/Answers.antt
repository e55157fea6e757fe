use Rattle.std.proofs.lemmas.Result.{IfOk-weaker}
use Rattle.campaign_inputs.proofs.Taking.{full_places, out_of}
use Rattle.campaign_inputs.proofs.choosing.chosen.Goals as goal

pub taken-requires-clause-full : goal.taken-requires-clause-full
taken-requires-clause-full g c =
    full_places c.args.plugins.items c.in_ok-slots.slots.items c.args.places.now c.in_ok-slots.ensures c.requires.within

pub returns : goal.returns
returns g c =
    IfOk-weaker c.taken.result _ _
    (λ taken e. out_of c.args.plugins.items c.in_ok-slots.slots.items taken.items c.args.places.now c.in_ok-slots.ensures e)
    c.taken.ensures
