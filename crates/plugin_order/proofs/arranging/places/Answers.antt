use Rattle.std.proofs.Common.{ℕ, ◌<◌, List, inl, length, reverse, slice_index, subst, sym, ◌∙◌, arith}
use Rattle.plugin_order.specs.declared.levels.Levels.TheVariants.{Heights, Cycle}
use Rattle.plugin_order.specs.Sheets.{runs_after, runs_before}
use Rattle.plugin_order.specs.Chains.{IsCycle, IsApart}
use Rattle.plugin_order.specs.Table.{holds}
use Rattle.plugin_order.specs.Heights.{IsLevels}
use Rattle.plugin_order.specs.Arranged.{ShowsCycle}
use Rattle.plugin_order.proofs.Apart.{IsApart-reverse}
use Rattle.plugin_order.proofs.ChainLaws.{flipped, IsCycle-reverse, IsCycle-same, IsLongest-same}
use Rattle.plugin_order.proofs.CycleNames.{cycle_within}
use Rattle.plugin_order.proofs.TableLaws.{holds-to}
use Rattle.plugin_order.proofs.LevelLaws.{place_of, no_cycle_of, no_cycle-flipped}
use Rattle.plugin_order.proofs.arranging.places.Goals as goal

pub named-requires-clause-inside : goal.named-requires-clause-inside
named-requires-clause-inside c =
    let l : IsLevels c.of.result (Cycle c.in-Cycle.cycle) = subst (IsLevels c.of.result) c.in-Cycle.is c.in_ok-places.ensures in
    let turned : IsCycle (flipped (holds c.of.result)) c.deref.result.now =
    subst (IsCycle (flipped (holds c.of.result))) (sym (c.deref.ensures.value ∙ c.reverse.ensures.items)) (IsCycle-reverse (holds c.of.result) c.in-Cycle.cycle.items l.0) in
    cycle_within (flipped (holds c.of.result)) (length c.args.sheets.now)
    (λ p q h. let w : p < c.of.result.count = holds-to c.of.result q p h in omega (arith, w, c.of.ensures.count)) c.deref.result.now turned

pub named-requires-clause-apart : goal.named-requires-clause-apart
named-requires-clause-apart c =
    let l : IsLevels c.of.result (Cycle c.in-Cycle.cycle) = subst (IsLevels c.of.result) c.in-Cycle.is c.in_ok-places.ensures in
    subst IsApart (sym (c.deref.ensures.value ∙ c.reverse.ensures.items)) (IsApart-reverse c.in-Cycle.cycle.items l.1)

pub returns-in-Heights-clause-each : goal.returns-in-Heights-clause-each
returns-in-Heights-clause-each c =
    let l : IsLevels c.of.result (Heights c.in-Heights.places) = subst (IsLevels c.of.result) c.in-Heights.is c.in_ok-places.ensures in
    λ p lt. place_of c.args.sheets.now p (slice_index c.in-Heights.places.items p)
    (IsLongest-same (holds c.of.result) (runs_after c.args.sheets.now) c.of.ensures.rules p _ (l.1 p (omega (arith, lt, c.of.ensures.count))))

pub returns-in-Heights-clause-accepted : goal.returns-in-Heights-clause-accepted
returns-in-Heights-clause-accepted c =
    let l : IsLevels c.of.result (Heights c.in-Heights.places) = subst (IsLevels c.of.result) c.in-Heights.is c.in_ok-places.ensures in
    no_cycle-flipped (runs_after c.args.sheets.now)
    (no_cycle_of c.of.result (runs_after c.args.sheets.now) (length c.args.sheets.now) c.of.ensures.rules c.of.ensures.count
    (λ p lt. (slice_index c.in-Heights.places.items p, l.1 p lt)))

pub returns-in_ok-named-in-Cycle-clause-refused : goal.returns-in_ok-named-in-Cycle-clause-refused
returns-in_ok-named-in-Cycle-clause-refused c =
    let l : IsLevels c.of.result (Cycle c.in-Cycle.cycle) = subst (IsLevels c.of.result) c.in-Cycle.is c.in_ok-places.ensures in
    let turned : IsCycle (runs_before c.args.sheets.now) (reverse c.in-Cycle.cycle.items) =
    IsCycle-same (flipped (holds c.of.result)) (runs_before c.args.sheets.now) (λ p q. c.of.ensures.rules q p) (reverse c.in-Cycle.cycle.items)
    (IsCycle-reverse (holds c.of.result) c.in-Cycle.cycle.items l.0) in
    let cycle : IsCycle (runs_before c.args.sheets.now) c.deref.result.now =
    subst (IsCycle (runs_before c.args.sheets.now)) (sym (c.deref.ensures.value ∙ c.reverse.ensures.items)) turned in (
      c.requires.names,
      inl (subst (λ (shown : List (List ℕ)). ShowsCycle (runs_before c.args.sheets.now) c.args.sheets.now shown)
          (sym c.of-in-Cycle.ensures) (c.in_ok-named-in-Cycle.ensures (runs_before c.args.sheets.now) cycle)),
    )
