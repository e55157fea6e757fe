use Rattle.std.proofs.Common.{List, subst}
use Rattle.std.specs.Prelude.{IfOk}
use Rattle.client_scripts.specs.declared.item.Item.{Item}
use Rattle.campaign_plans.specs.Updating.{Plays}
use Rattle.campaign_plans.proofs.updating.updated.Goals as goal

pub returns : goal.returns
returns c = subst (λ (items : List Item). IfOk c.with_script.result (λ made. Plays items c.args.campaign made)) c.in_ok-items.ensures c.with_script.ensures
