use Rattle.std.proofs.Common.{Bor, List, ℕ}
use Rattle.command_words.specs.Commands.{is_option}
use Rattle.command_words.proofs.Mapped.{place_of}
use Rattle.command_words.proofs.make.option_place.Goals as goal

pub returns-clause-place : goal.returns-clause-place
returns-clause-place c =
    place_of is_option (λ (word : Bor (List ℕ)). word.now) c.args.words.now c.option_among.result c.unwrap_or.result c.option_among.ensures c.unwrap_or.ensures
