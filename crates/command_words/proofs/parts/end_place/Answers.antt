use Rattle.std.proofs.Common.{Bor, List, ℕ}
use Rattle.command_words.specs.Parts.{is_end}
use Rattle.command_words.proofs.Mapped.{place_of}
use Rattle.command_words.proofs.parts.end_place.Goals as goal

pub returns-clause-place : goal.returns-clause-place
returns-clause-place c =
    place_of is_end (λ (word : Bor (List ℕ)). word.now) c.args.words.now c.end_among.result c.unwrap_or.result c.end_among.ensures c.unwrap_or.ensures
