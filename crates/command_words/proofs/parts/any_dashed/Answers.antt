use Rattle.std.proofs.Common.{Bor, List, ℕ, sym, ◌∙◌}
use Rattle.command_words.specs.Parts.{is_dashed}
use Rattle.command_words.proofs.Mapped.{list_any-map}
use Rattle.command_words.proofs.parts.any_dashed.Goals as goal

pub returns : goal.returns
returns c = c.has_dashed.ensures ∙ sym (list_any-map is_dashed (λ (word : Bor (List ℕ)). word.now) c.args.words.now)
