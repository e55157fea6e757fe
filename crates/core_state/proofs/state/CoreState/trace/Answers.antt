use Rattle.std.proofs.Common.{◌≡◌, ◌∙◌, ap}
use Rattle.std.specs.Prelude.{IsSome, find, ◌==◌}
use Rattle.core_state.specs.Core.{Core}
use Rattle.core_state.proofs.CoreStands.{stands-result, trace-there}
use Rattle.core_state.proofs.state.CoreState.trace.Goals as goal

pub trace_of-requires : goal.trace_of-requires
trace_of-requires c =
    rw c.deref.ensures.value
    (trace-there c.self.inside.traces.items c.self.inside.live.items c.args.entry c.self.invariant.entries
    (rw (c.self.invariant.live, ap (λ (k : Core). k.log) c.self.view_is) c.requires))

pub returns : goal.returns
returns c =
    let there : IsSome (find (λ t. t.entry == c.args.entry) c.self.inside.traces.items) =
    trace-there c.self.inside.traces.items c.self.inside.live.items c.args.entry c.self.invariant.entries
    (rw (c.self.invariant.live, ap (λ (k : Core). k.log) c.self.view_is) c.requires) in
    let same : c.self.inside.traces.items ≡ c.args.self.now.traces = ap (λ (k : Core). k.traces) c.self.view_is in
    let all : c.deref.result.now ≡ c.args.self.now.traces = c.deref.ensures.value ∙ same in
    λ basis s. stands-result basis c.args.self.now c.args.entry c.trace_of.result s (rw same at there) (rw all at c.trace_of.ensures)
