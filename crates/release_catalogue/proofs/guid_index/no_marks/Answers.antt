use Rattle.release_catalogue.proofs.Indexes.{none_marked}
use Rattle.release_catalogue.proofs.guid_index.no_marks.Goals as goal

pub returns : goal.returns
returns c = λ place. none_marked 4096 place
