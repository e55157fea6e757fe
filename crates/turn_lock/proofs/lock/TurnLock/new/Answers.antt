use Rattle.std.proofs.Common.{◌≡◌, ◌∙◌, List, All, map, ap, subst}
use Rattle.std.proofs.lemmas.List.Elements.{All-same}
use Rattle.turn_lock.specs.Shown.{PassView, IsReady, IsFresh}
use Rattle.turn_lock.proofs.Fields.{numbers-new_passes, new_passes-ready, new_passes-fresh}
use Rattle.turn_lock.proofs.lock.TurnLock.new.Goals as goal

pub returns-clause-numbers : goal.returns-clause-numbers
returns-clause-numbers g c = ap (λ (ps : List (PassView g.row.V-Entry.Denot)). map (λ (p : PassView g.row.V-Entry.Denot). p.number) ps) c.make_passes.ensures.passes ∙ numbers-new_passes _ _ _

pub returns-clause-ready : goal.returns-clause-ready
returns-clause-ready g c = All-same (IsReady c.in_ok-table.table.shared.table_id) _ _ c.make_passes.ensures.passes (new_passes-ready _ _ _)

pub returns-clause-fresh : goal.returns-clause-fresh
returns-clause-fresh g c = let e = g.V.Chronicle.entries in
    let E : Type 0 = g.row.V-Entry.Denot in
    let start = e c.in_ok-table.table.shared.key.value.value.held.value in
    let same : start ≡ e c.args.value = ap e c.in_ok-table.ensures.value in
    let P : List E → Type 0 = λ list. All (IsFresh list) c.make_passes.new.passes.items in
    subst P same (All-same (IsFresh start) _ _ c.make_passes.ensures.passes (new_passes-fresh _ _ _))
