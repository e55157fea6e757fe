use Rattle.std.proofs.Common.{Bor, List, ℕ}
use Rattle.command_words.specs.Texts.{is_text}
use Rattle.command_words.proofs.Mapped.{passes_at}
use Rattle.command_words.proofs.values.push_texts.Goals as goal

pub push_text-requires : goal.push_text-requires
push_text-requires c =
    passes_at is_text (λ (word : Bor (List ℕ)). word.now) c.args.words.now c.loop-word.word-index _ c.loop-word-test.true c.requires
