use Rattle.std.proofs.Common.{◌≡◌, ◌<◌, ℕ, vec_len, length, List, Some, drop, subst, ap, slice_set, slice_index, ◌++◌, ◌∷◌, [], sym, ◌∙◌, arith}
use Rattle.std.proofs.lemmas.Result.{IfOk-weaker}
use Rattle.plugin_order.specs.Table.{holds, height_of}
use Rattle.plugin_order.specs.Chains.{IsCycle, IsApart}
use Rattle.plugin_order.proofs.Apart.{IsNoted, IsApart-drop, IsNoted-IsApart, IsNoted-more, none_of}
use Rattle.plugin_order.proofs.ChainLaws.{Leads-push}
use Rattle.plugin_order.proofs.Found.{none_found, cycle_tail, kept_more}
use Rattle.plugin_order.proofs.levels.cycle_from.Goals as goal

pub walk-init : goal.walk-init
walk-init c = record {
  leads = rw c.new-path.ensures.items tt;
  there = c.requires.at;
  open_end = c.requires.open;
  noted = rw c.new-path.ensures.items (λ p. omega arith);
  kept = λ k i e. absurd (none_found 64 k i e);
}

pub tail_of-requires : goal.tail_of-requires
tail_of-requires c =
    let k : (c.in-Some.step < vec_len c.walk.path) × (slice_index c.walk.path.items c.in-Some.step ≡ c.walk.at) =
    c.walk.invariant.kept c.walk.at c.in-Some.step (sym c.in-Some.ensures) in
    omega (arith, k.0)

pub returns-in-Some : goal.returns-in-Some
returns-in-Some c =
    let k : (c.in-Some.step < vec_len c.walk.path) × (slice_index c.walk.path.items c.in-Some.step ≡ c.walk.at) =
    c.walk.invariant.kept c.walk.at c.in-Some.step (sym c.in-Some.ensures) in
    let len : length c.deref.result.now ≡ vec_len c.walk.path = c.deref.ensures.len in
    let value : c.deref.result.now ≡ c.walk.path.items = c.deref.ensures.value in
    let short : c.in-Some.step < length c.walk.path.items = rw value at (let l : c.in-Some.step < length c.deref.result.now = omega (arith, k.0) in l) in
    let P : List ℕ → Type 0 = IsCycle (holds c.args.rules.now) in
    let cycle : P (drop c.in-Some.step c.walk.path.items) =
    cycle_tail (holds c.args.rules.now) c.walk.path.items c.walk.at c.in-Some.step c.walk.invariant.leads short k.1 in
    let apart : IsApart (drop c.in-Some.step c.walk.path.items) =
    IsApart-drop c.in-Some.step c.walk.path.items (IsNoted-IsApart c.walk.steps c.walk.path.items c.walk.invariant.noted) in
    record {
      cycle = IfOk-weaker c.tail_of.result _ _ (λ v e. subst P (sym (e ∙ ap (drop c.in-Some.step) value)) cycle) c.tail_of.ensures;
      apart = IfOk-weaker c.tail_of.result _ _ (λ v e. subst IsApart (sym (e ∙ ap (drop c.in-Some.step) value)) apart) c.tail_of.ensures;
    }

pub walk-preserved : goal.walk-preserved
walk-preserved c =
    let items : c.push.new.self.items ≡ c.walk.path.items ++ c.walk.at ∷ [] = c.in_ok-push.ensures.items in
    let len : c.len.result ≡ length c.walk.path.items = omega (arith, c.walk.path.ok.0, c.len.ensures) in
    let more : vec_len c.push.new.self ≡ length c.push.new.self.items = omega (arith, c.push.new.self.ok.0) in
    let room : c.walk.at < length c.walk.steps = omega (arith, c.args.rules.now.few, c.walk.array_long, c.walk.invariant.there) in
    let old : (k i : ℕ) → height_of c.walk.steps k ≡ Some i → (i < length c.walk.path.items) × (slice_index c.walk.path.items i ≡ k) =
    λ k i e. (let o : (i < vec_len c.walk.path) × (slice_index c.walk.path.items i ≡ k) = c.walk.invariant.kept k i e in (omega (arith, o.0, c.walk.path.ok.0), o.1)) in
    let new : (k i : ℕ) → height_of (slice_set c.walk.steps c.walk.at (Some (length c.walk.path.items))) k ≡ Some i
    → (i < length (c.walk.path.items ++ c.walk.at ∷ [])) × (slice_index (c.walk.path.items ++ c.walk.at ∷ []) i ≡ k) =
    kept_more c.walk.steps c.walk.path.items c.walk.at room old in
    record {
      leads = rw items (Leads-push (holds c.args.rules.now) c.walk.path.items c.walk.at c.in-Some-waits_on.next c.walk.invariant.leads c.in-Some-waits_on.ensures.some.1);
      there = c.in-Some-waits_on.ensures.some.0;
      open_end = c.in-Some-waits_on.ensures.some.2;
      noted = rw items (subst (λ (j : ℕ). IsNoted (slice_set c.walk.steps c.walk.at (Some j)) (c.walk.path.items ++ c.walk.at ∷ [])) (sym len)
          (IsNoted-more c.walk.steps c.walk.path.items c.walk.at (length c.walk.path.items) room (sym c.step_at.ensures ∙ none_of c.step_at.result c.in_default.not-Some) c.walk.invariant.noted));
      kept = λ k i e.
          let n : (i < length (c.walk.path.items ++ c.walk.at ∷ [])) × (slice_index (c.walk.path.items ++ c.walk.at ∷ []) i ≡ k) =
          new k i (ap (λ (j : ℕ). height_of (slice_set c.walk.steps c.walk.at (Some j)) k) (sym len) ∙ e) in
          (omega (arith, n.0, more, ap length items), rw items n.1);
    }
