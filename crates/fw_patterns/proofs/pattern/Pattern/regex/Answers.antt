use Rattle.std.proofs.Common.{refl, sym, ap, inr, Ok, ◌∙◌, arith}
use Rattle.fw_patterns.proofs.PatternLemmas.{regex-long, regex-bad, regex-good, regex-short}
use Rattle.fw_patterns.proofs.RegexLemmas.{regex-refused, regex-stands, regex-written}
use Rattle.fw_patterns.proofs.pattern.Pattern.regex.Goals as goal

pub returns-then-text-gt-PATTERN_MAX-clause-read : goal.returns-then-text-gt-PATTERN_MAX-clause-read
returns-then-text-gt-PATTERN_MAX-clause-read c = inr (regex-long c.args.text.now c.if-text-gt-PATTERN_MAX.true)

pub returns-then-text-gt-PATTERN_MAX-clause-written : goal.returns-then-text-gt-PATTERN_MAX-clause-written
returns-then-text-gt-PATTERN_MAX-clause-written c = inr (λ small is. absurd (omega arith))

pub invariant_of-result : goal.invariant_of-result
invariant_of-result c =
    rw (c.of.ensures, c.in_ok-branches-in-None.ensures, c.in_ok-marks.ensures.items)
    (regex-short c.args.text.now c.if-text-gt-PATTERN_MAX.false)

pub returns-in-Some-clause-read : goal.returns-in-Some-clause-read
returns-in-Some-clause-read c =
    inr (regex-bad c.args.text.now _ c.if-text-gt-PATTERN_MAX.false
    (rw (← c.in_ok-marks.ensures.end, ← c.in_ok-marks.ensures.items, ← c.deref.ensures.value)
    (sym c.first_fault.ensures ∙ c.in-Some.is)))

pub returns-in-Some-clause-written : goal.returns-in-Some-clause-written
returns-in-Some-clause-written c =
    inr (regex-refused c.args.text.now c.in-Some.fault (regex-bad c.args.text.now c.in-Some.fault c.if-text-gt-PATTERN_MAX.false
    (rw (← c.in_ok-marks.ensures.end, ← c.in_ok-marks.ensures.items, ← c.deref.ensures.value)
    (sym c.first_fault.ensures ∙ c.in-Some.is))))

pub returns-in_ok-branches-in-None-clause-read : goal.returns-in_ok-branches-in-None-clause-read
returns-in_ok-branches-in-None-clause-read c =
    regex-good c.args.text.now c.if-text-gt-PATTERN_MAX.false
    (rw (← c.in_ok-marks.ensures.end, ← c.in_ok-marks.ensures.items, ← c.deref.ensures.value)
    (sym c.first_fault.ensures ∙ c.in-None.is))
    ∙ ap Ok (rw (c.of.ensures, c.in_ok-branches-in-None.ensures, c.in_ok-marks.ensures.items) refl)

pub returns-in_ok-branches-in-None-clause-written : goal.returns-in_ok-branches-in-None-clause-written
returns-in_ok-branches-in-None-clause-written c =
    regex-written c.args.text.now _
    (regex-good c.args.text.now c.if-text-gt-PATTERN_MAX.false
    (rw (← c.in_ok-marks.ensures.end, ← c.in_ok-marks.ensures.items, ← c.deref.ensures.value)
    (sym c.first_fault.ensures ∙ c.in-None.is))
    ∙ ap Ok (rw (c.of.ensures, c.in_ok-branches-in-None.ensures, c.in_ok-marks.ensures.items) refl))

pub returns-in_ok-branches-in-None-clause-stands : goal.returns-in_ok-branches-in-None-clause-stands
returns-in_ok-branches-in-None-clause-stands c t =
    regex-stands c.args.text.now _ t c.if-text-gt-PATTERN_MAX.false
    (regex-good c.args.text.now c.if-text-gt-PATTERN_MAX.false
    (rw (← c.in_ok-marks.ensures.end, ← c.in_ok-marks.ensures.items, ← c.deref.ensures.value)
    (sym c.first_fault.ensures ∙ c.in-None.is))
    ∙ ap Ok (rw (c.of.ensures, c.in_ok-branches-in-None.ensures, c.in_ok-marks.ensures.items) refl))
