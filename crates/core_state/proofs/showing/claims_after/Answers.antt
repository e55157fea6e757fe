use Rattle.std.proofs.Common.{List, ap, sym, map, ◌∙◌}
use Rattle.core_state.proofs.ClaimChanges.{none-changes, one-changes}
use Rattle.core_state.specs.CoreViews.{claimed}
use Rattle.update_log.specs.Holding.{without_entry}
use Rattle.update_log.specs.declared.live.LiveEntry.{LiveEntry}
use Rattle.core_state.proofs.showing.claims_after.Goals as goal

pub returns-in-Some : goal.returns-in-Some
returns-in-Some c =
    λ before after had.
    c.claim_of_entry.ensures before
    (one-changes c.args.event.now c.in-Some.entry before (sym c.in-Some.ensures) ∙ ap (λ (ls : List LiveEntry). without_entry c.in-Some.entry ls) (sym after))
    had

pub returns-in-None : goal.returns-in-None
returns-in-None c =
    λ before after had.
    c.unclaim_at_boot.ensures
    ∙ none-changes c.args.event.now c.args.rows.now.rows before c.args.devices.now (sym c.in-None.ensures) had
    ∙ ap (λ (ls : List LiveEntry). map (claimed c.args.rows.now.rows ls) c.args.devices.now) (sym after)
