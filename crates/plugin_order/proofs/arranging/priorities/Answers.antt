use Rattle.std.proofs.Common.{ℕ, ◌<◌, List, inr, length, slice_index, subst, sym, arith}
use Rattle.plugin_order.specs.declared.levels.Levels.TheVariants.{Heights, Cycle}
use Rattle.plugin_order.specs.Sheets.{is_better}
use Rattle.plugin_order.specs.Chains.{IsCycle, IsApart}
use Rattle.plugin_order.specs.Table.{holds}
use Rattle.plugin_order.specs.Heights.{IsLevels}
use Rattle.plugin_order.specs.Arranged.{ShowsCycle}
use Rattle.plugin_order.proofs.ChainLaws.{IsCycle-same, IsLongest-same}
use Rattle.plugin_order.proofs.CycleNames.{cycle_within}
use Rattle.plugin_order.proofs.TableLaws.{holds-from}
use Rattle.plugin_order.proofs.LevelLaws.{no_cycle_of}
use Rattle.plugin_order.proofs.arranging.priorities.Goals as goal

pub named-requires-clause-inside : goal.named-requires-clause-inside
named-requires-clause-inside c =
    let l : IsLevels c.of.result (Cycle c.in-Cycle.cycle) = subst (IsLevels c.of.result) c.in-Cycle.is c.in_ok-priorities.ensures in
    cycle_within (holds c.of.result) (length c.args.sheets.now)
    (λ p q h. let w : p < c.of.result.count = holds-from c.of.result p q h in omega (arith, w, c.of.ensures.count)) c.deref.result.now
    (subst (IsCycle (holds c.of.result)) (sym c.deref.ensures.value) l.0)

pub named-requires-clause-apart : goal.named-requires-clause-apart
named-requires-clause-apart c =
    let l : IsLevels c.of.result (Cycle c.in-Cycle.cycle) = subst (IsLevels c.of.result) c.in-Cycle.is c.in_ok-priorities.ensures in
    subst IsApart (sym c.deref.ensures.value) l.1

pub returns-in-Heights-clause-each : goal.returns-in-Heights-clause-each
returns-in-Heights-clause-each c =
    let l : IsLevels c.of.result (Heights c.in-Heights.priorities) = subst (IsLevels c.of.result) c.in-Heights.is c.in_ok-priorities.ensures in
    λ p lt. IsLongest-same (holds c.of.result) (is_better c.args.sheets.now) c.of.ensures.rules p _ (l.1 p (omega (arith, lt, c.of.ensures.count)))

pub returns-in-Heights-clause-accepted : goal.returns-in-Heights-clause-accepted
returns-in-Heights-clause-accepted c =
    let l : IsLevels c.of.result (Heights c.in-Heights.priorities) = subst (IsLevels c.of.result) c.in-Heights.is c.in_ok-priorities.ensures in
    no_cycle_of c.of.result (is_better c.args.sheets.now) (length c.args.sheets.now) c.of.ensures.rules c.of.ensures.count
    (λ p lt. (slice_index c.in-Heights.priorities.items p, l.1 p lt))

pub returns-in_ok-named-in-Cycle-clause-refused : goal.returns-in_ok-named-in-Cycle-clause-refused
returns-in_ok-named-in-Cycle-clause-refused c =
    let l : IsLevels c.of.result (Cycle c.in-Cycle.cycle) = subst (IsLevels c.of.result) c.in-Cycle.is c.in_ok-priorities.ensures in
    let cycle : IsCycle (is_better c.args.sheets.now) c.deref.result.now =
    subst (IsCycle (is_better c.args.sheets.now)) (sym c.deref.ensures.value)
    (IsCycle-same (holds c.of.result) (is_better c.args.sheets.now) c.of.ensures.rules c.in-Cycle.cycle.items l.0) in (
      c.requires.names,
      inr (
        c.requires.order,
        subst (λ (shown : List (List ℕ)). ShowsCycle (is_better c.args.sheets.now) c.args.sheets.now shown)
            (sym c.of-in-Cycle.ensures) (c.in_ok-named-in-Cycle.ensures (is_better c.args.sheets.now) cycle),
      ),
    )
