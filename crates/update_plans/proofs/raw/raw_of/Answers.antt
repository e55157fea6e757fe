use Rattle.std.proofs.Common.{ℕ, List, Some, None, sym, ap, ◌∙◌, subst, arith}
use Rattle.version_formats.specs.VersionOrder.{same_version}
use Rattle.update_plans.specs.Fields.{IsLikely}
use Rattle.update_plans.proofs.Likely.{raw_of-none, raw_of-not, raw_of-some}
use Rattle.update_plans.proofs.raw.raw_of.Goals as goal

pub returns-in_err-raw : goal.returns-in_err-raw
returns-in_err-raw c =
    c.from_residual.ensures
    ∙ sym (raw_of-none c.args.format c.args.version.now (subst (λ (v : List ℕ). IsLikely c.args.format v None) c.bytes.ensures c.in_err-raw.ensures))

pub returns-then-is_same : goal.returns-then-is_same
returns-then-is_same c =
    let raw = c.in_ok-raw.raw in
    let likely = subst (λ (v : List ℕ). IsLikely c.args.format v (Some raw)) c.bytes.ensures c.in_ok-raw.ensures in
    let same = ap (λ (text : List ℕ). same_version text c.args.version.now) (sym c.render.ensures) ∙ sym c.if-is_same.ensures in
    sym (raw_of-some c.args.format c.args.version.now raw (omega arith) likely same)

pub returns-else-is_same : goal.returns-else-is_same
returns-else-is_same c =
    let raw = c.in_ok-raw.raw in
    let likely = subst (λ (v : List ℕ). IsLikely c.args.format v (Some raw)) c.bytes.ensures c.in_ok-raw.ensures in
    let other = ap (λ (text : List ℕ). same_version text c.args.version.now) (sym c.render.ensures) ∙ sym c.if-is_same.ensures in
    sym (raw_of-not c.args.format c.args.version.now raw likely other)
