use Rattle.std.proofs.Common.{◌∙◌, ap}
use Rattle.version_formats.proofs.FormatLemmas.{with_word, all_formats, with_word-own, with_word-has_it}
use Rattle.version_formats.proofs.format.Format.read.Goals as goal

pub returns-clause-found : goal.returns-clause-found
returns-clause-found c = rw c.with_word.ensures (with_word-has_it c.args.word.now all_formats)

pub returns-clause-every : goal.returns-clause-every
returns-clause-every c = λ format e. c.with_word.ensures ∙ ap (λ w. with_word w all_formats) e ∙ with_word-own format
