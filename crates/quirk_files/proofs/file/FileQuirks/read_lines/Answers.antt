use Rattle.std.proofs.Common.{◌≡◌, ◌∙◌, Bor, List, ℕ, map, inl, inr, refl, sym}
use Rattle.std.proofs.lemmas.Result.{err_from_is_err_and}
use Rattle.quirk_files.specs.Files.{fault_at, group_at, line_at, without_return}
use Rattle.quirk_files.proofs.FileLines.{line_here, fault_here, none_of, quirks_more, group_more, still_no_fault, first_fault_is, no_first_fault, all_quirks, at_end, in_lines}
use Rattle.quirk_files.proofs.file.FileQuirks.read_lines.Goals as goal

pub loop-at-init : goal.loop-at-init
unfolding group_at
loop-at-init c = record { quirks = c.new-file.ensures; group = refl; no_fault = refl }

pub loop-at-preserved : goal.loop-at-preserved
loop-at-preserved c =
    let lines : List (List ℕ) = map without_return (map (λ (line : Bor (List ℕ)). line.now) c.args.lines.now) in
    let here : c.without_return-line.result.now ≡ line_at lines c.loop-at.at =
    line_here c.args.lines.now c.loop-at.at _ c.without_return-line.result.now c.loop-at-test.true c.without_return-line.ensures in
    let fault : c.line_fault.result ≡ fault_at lines c.loop-at.at =
    fault_here lines c.loop-at.at c.loop-at.group c.is_some.result c.without_return-line.result.now c.line_fault.result c.loop-at.invariant.group c.is_some.ensures here c.line_fault.ensures in
    record {
      quirks = quirks_more lines c.loop-at.at c.loop-at.file c.take_line.new.self c.loop-at.group c.trimmed.result.now c.without_return-line.result.now
          c.loop-at.invariant.quirks c.loop-at.invariant.group here c.trimmed.ensures c.in_ok-take_line.ensures;
      group = group_more lines c.loop-at.at c.loop-at.group c.group_begun.result c.or-group.result c.trimmed-in-loop-at.result.now c.without_return-line.result.now
          (in_lines c.args.lines.now c.loop-at.at c.loop-at-test.true) c.loop-at.invariant.group here c.trimmed-in-loop-at.ensures c.group_begun.ensures c.or-group.ensures;
      no_fault = still_no_fault lines c.loop-at.at c.loop-at.invariant.no_fault (sym fault ∙ none_of c.line_fault.result c.in_default.not-Some);
    }

pub returns-in-Some-clause-refused : goal.returns-in-Some-clause-refused
returns-in-Some-clause-refused c =
    let lines : List (List ℕ) = map without_return (map (λ (line : Bor (List ℕ)). line.now) c.args.lines.now) in
    let here : c.without_return-line.result.now ≡ line_at lines c.loop-at.at =
    line_here c.args.lines.now c.loop-at.at _ c.without_return-line.result.now c.loop-at-test.true c.without_return-line.ensures in
    let fault : c.line_fault.result ≡ fault_at lines c.loop-at.at =
    fault_here lines c.loop-at.at c.loop-at.group c.is_some.result c.without_return-line.result.now c.line_fault.result c.loop-at.invariant.group c.is_some.ensures here c.line_fault.ensures in
    inr (first_fault_is lines c.loop-at.at c.in-Some.fault (in_lines c.args.lines.now c.loop-at.at c.loop-at-test.true) c.loop-at.invariant.no_fault (sym fault ∙ c.in-Some.is))

pub returns-in_err-take_line-clause-refused : goal.returns-in_err-take_line-clause-refused
returns-in_err-take_line-clause-refused c =
    let p = err_from_is_err_and c.from_residual.result c.from_residual.ensures.1 in rw (p.1, p.2) (inl refl)

pub returns-clause-read : goal.returns-clause-read
returns-clause-read c =
    all_quirks _ c.loop-at.at c.loop-at.file (at_end c.args.lines.now c.loop-at.at c.loop-at.auto.at-end c.loop-at-test.false) c.loop-at.invariant.quirks

pub returns-clause-sound : goal.returns-clause-sound
returns-clause-sound c =
    no_first_fault _ c.loop-at.at (at_end c.args.lines.now c.loop-at.at c.loop-at.auto.at-end c.loop-at-test.false) c.loop-at.invariant.no_fault
