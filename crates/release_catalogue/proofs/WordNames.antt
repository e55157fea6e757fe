-- Every word of the document is a name.
use Rattle.std.proofs.Common.{◌≡◌, Ok, refl}
use Rattle.fw_base.specs.Names.{name_read}
use Rattle.release_catalogue.specs.Words.{word_text}
use Rattle.release_catalogue.specs.declared.word.Word.{Word}
use Rattle.release_catalogue.specs.declared.word.Word.TheVariants as words

pub word_is_name : (word : Word) → name_read (word_text word) ≡ Ok (word_text word)
word_is_name words.Document = refl
word_is_name _ = refl
