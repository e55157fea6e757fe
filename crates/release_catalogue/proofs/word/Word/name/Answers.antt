use Rattle.std.proofs.Common.{refl}
use Rattle.release_catalogue.proofs.WordNames.{word_is_name}
use Rattle.release_catalogue.proofs.word.Word.name.Goals as goal

pub unwrap-requires : goal.unwrap-requires
unwrap-requires c = rw (c.read.ensures, c.as_bytes.ensures.value, c.text.ensures, word_is_name c.args.self) refl
