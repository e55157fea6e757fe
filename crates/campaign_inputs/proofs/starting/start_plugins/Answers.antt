use Rattle.std.proofs.Common.{ℕ, List, All, length, map, sym, ap, subst, ◌∙◌, ◌<◌}
use Rattle.std.specs.Prelude.{nat_eq}
use Rattle.std.specs.List.{IsDistinct}
use Rattle.std.proofs.lemmas.List.{length-map}
use Rattle.campaign_inputs.proofs.Places.{enabled_of, made_at, running_differ, running_within}
use Rattle.campaign_inputs.proofs.starting.start_plugins.Goals as goal

pub chosen-requires-clause-apart : goal.chosen-requires-clause-apart
chosen-requires-clause-apart g c =
    subst (IsDistinct nat_eq) (sym (c.deref-3.ensures.value ∙ c.in_ok-places.ensures))
    (running_differ c.deref-2.result.now c.in_ok-arrangement.arrangement c.in_ok-arrangement.ensures.arranged)

pub chosen-requires-clause-within : goal.chosen-requires-clause-within
chosen-requires-clause-within g c =
    subst (λ (ps : List ℕ). All (λ p. p < length c.args.plugins.items) ps) (sym (c.deref-3.ensures.value ∙ c.in_ok-places.ensures))
    (running_within c.deref-2.result.now c.in_ok-arrangement.arrangement (length c.args.plugins.items) c.in_ok-arrangement.ensures.arranged
    (ap length (c.deref-2.ensures.value ∙ c.in_ok-sheets.ensures ∙ ap (map (λ b. (goal.Plugin-dyn g (b.vtable, b.value)).own_sheet b.value)) c.deref.ensures.value)
    ∙ length-map c.args.plugins.items (λ b. (goal.Plugin-dyn g (b.vtable, b.value)).own_sheet b.value)))

pub returns-clause-sheets : goal.returns-clause-sheets
returns-clause-sheets g c =
    made_at (λ b. (goal.Plugin-dyn g (b.vtable, b.value)).own_sheet b.value) (λ b. (goal.Plugin-dyn g (b.vtable, b.value)).own_sheet b.value)
    c.args.plugins.items c.in_ok-plugins.plugins.items c.start_all.new.plugins.items _ _ (c.deref-3.ensures.value ∙ c.in_ok-places.ensures)
    c.in_ok-plugins.ensures c.start_all.ensures.sheets

pub returns-clause-vetoes : goal.returns-clause-vetoes
returns-clause-vetoes g c =
    made_at (λ b. (goal.Plugin-dyn g (b.vtable, b.value)).vetoes_on b.value c.args.machine.now) (λ b. (goal.Plugin-dyn g (b.vtable, b.value)).own_vetoes b.value)
    c.args.plugins.items c.in_ok-plugins.plugins.items c.start_all.new.plugins.items _ _ (c.deref-3.ensures.value ∙ c.in_ok-places.ensures)
    c.in_ok-plugins.ensures c.start_all.ensures.vetoes

pub returns-clause-enabled : goal.returns-clause-enabled
returns-clause-enabled g c =
    enabled_of (λ b. (goal.Plugin-dyn g (b.vtable, b.value)).own_sheet b.value) c.args.plugins.items c.start_all.new.plugins.items
    c.deref-2.result.now c.in_ok-arrangement.arrangement c.requires
    (length-map c.args.plugins.items (λ b. (goal.Plugin-dyn g (b.vtable, b.value)).own_sheet b.value))
    (c.deref-2.ensures.value ∙ c.in_ok-sheets.ensures ∙ ap (map (λ b. (goal.Plugin-dyn g (b.vtable, b.value)).own_sheet b.value)) c.deref.ensures.value)
    c.in_ok-arrangement.ensures.accepted c.in_ok-arrangement.ensures.arranged
    (made_at (λ b. (goal.Plugin-dyn g (b.vtable, b.value)).own_sheet b.value) (λ b. (goal.Plugin-dyn g (b.vtable, b.value)).own_sheet b.value)
    c.args.plugins.items c.in_ok-plugins.plugins.items c.start_all.new.plugins.items _ _ (c.deref-3.ensures.value ∙ c.in_ok-places.ensures)
    c.in_ok-plugins.ensures c.start_all.ensures.sheets)
