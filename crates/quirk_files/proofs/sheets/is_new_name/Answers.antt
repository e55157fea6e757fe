use Rattle.std.proofs.Common.{◌∙◌, ap, not}
use Rattle.quirk_files.proofs.Loops.{any_added_reference, any_of_references}
use Rattle.quirk_files.proofs.sheets.is_new_name.Goals as goal

pub returns-clause-fresh : goal.returns-clause-fresh
returns-clause-fresh c = c.in_ok-fresh.ensures.added ∙ ap not (any_of_references c.args.name.now c.args.there.now.keys)

pub returns-clause-there : goal.returns-clause-there
returns-clause-there c = λ q. any_added_reference c.args.there.now.keys c.insert.new.self.keys c.args.name q c.in_ok-fresh.ensures.keys
