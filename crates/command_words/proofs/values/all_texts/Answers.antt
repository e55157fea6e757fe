use Rattle.std.proofs.Common.{Bor, List, ℕ, sym, ◌∙◌}
use Rattle.std.proofs.lemmas.List.Folds.{list_all-map}
use Rattle.command_words.specs.Texts.{is_text}
use Rattle.command_words.proofs.values.all_texts.Goals as goal

pub returns : goal.returns
returns c = c.are_all_texts.ensures ∙ sym (list_all-map is_text (λ (word : Bor (List ℕ)). word.now) c.args.words.now)
