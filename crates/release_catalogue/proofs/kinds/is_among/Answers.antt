use Rattle.std.proofs.Common.{ℕ, List, Bor, sym, ◌∙◌}
use Rattle.std.specs.Str.{bytes_eq}
use Rattle.release_catalogue.proofs.Images.{any_of_map}
use Rattle.release_catalogue.proofs.kinds.is_among.Goals as goal

pub returns : goal.returns
returns c = c.some_is.ensures ∙ sym (any_of_map (λ (s : Bor (List ℕ)). s.now) (bytes_eq c.args.name.now) c.args.names.now)
