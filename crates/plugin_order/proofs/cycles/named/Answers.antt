use Rattle.std.proofs.Common.{◌≡◌, ℕ, List, ◌++◌, map, drop, ap, ◌∙◌}
use Rattle.plugin_order.specs.Sheets.{name_at}
use Rattle.plugin_order.proofs.CycleNames.{shows}
use Rattle.plugin_order.proofs.cycles.named.Goals as goal

pub returns : goal.returns
returns c =
    let first : c.push_names.new.shown.items ≡ map (name_at c.args.sheets.now) (drop c.least_at.result c.args.cycle.now) =
    c.in_ok-push_names.ensures
    ∙ ap (λ (xs : List (List ℕ)). xs ++ map (name_at c.args.sheets.now) c.split_at.result.1.now) c.new-shown.ensures.items
    ∙ ap (λ (ps : List ℕ). map (name_at c.args.sheets.now) ps) c.split_at.ensures.back in
    shows c.args.sheets.now c.args.cycle.now c.least_at.result _ c.least_at.ensures.within c.least_at.ensures.least
    (c.in_ok-push_names-2.ensures
    ∙ ap (λ (xs : List (List ℕ)). xs ++ map (name_at c.args.sheets.now) c.split_at.result.0.now) first
    ∙ ap (λ (ps : List ℕ). map (name_at c.args.sheets.now) (drop c.least_at.result c.args.cycle.now) ++ map (name_at c.args.sheets.now) ps) c.split_at.ensures.front)
    c.requires.apart
