use Rattle.std.proofs.Common.{sym, ap, inl, inr, Ok, ◌∙◌}
use Rattle.std.proofs.lemmas.Result.{MatchResult-weaker}
use Rattle.fw_patterns.proofs.GlobLemmas.{glob-stands}
use Rattle.fw_patterns.proofs.PatternLemmas.{glob-long, glob-bad, glob-good}
use Rattle.fw_patterns.proofs.pattern.Pattern.glob.Goals as goal

pub returns-then-text-gt-PATTERN_MAX-clause-read : goal.returns-then-text-gt-PATTERN_MAX-clause-read
returns-then-text-gt-PATTERN_MAX-clause-read c = inr (glob-long c.args.text.now c.if-text-gt-PATTERN_MAX.true)

pub returns-in-Some-clause-read : goal.returns-in-Some-clause-read
returns-in-Some-clause-read c = inr (glob-bad c.args.text.now _ c.if-text-gt-PATTERN_MAX.false (sym c.first_bad.ensures ∙ c.in-Some.is))

pub returns-in-None-clause-read : goal.returns-in-None-clause-read
returns-in-None-clause-read c =
    let read = glob-good c.args.text.now c.if-text-gt-PATTERN_MAX.false (sym c.first_bad.ensures ∙ c.in-None.is) in
    MatchResult-weaker c.of_glob.result c.of_glob.ensures
    (λ pattern is. read ∙ ap Ok (sym is))
    (λ fault is. inl is)

pub returns-in-None-clause-stands : goal.returns-in-None-clause-stands
returns-in-None-clause-stands c =
    MatchResult-weaker c.of_glob.result c.of_glob.ensures
    (λ pattern is t. glob-stands c.args.text.now pattern t is)
    (λ fault is. tt)
