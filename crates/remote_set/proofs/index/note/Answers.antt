use Rattle.remote_set.proofs.Noting.{key, noted}
use Rattle.remote_set.proofs.index.note.Goals as goal

pub returns : goal.returns
returns c = λ rank id version.
    noted c.args.of.now id c.args.shown.now version c.args.index.now.entries c.insert.new.self.entries c.first_of-first.result rank c.args.own
    (c.in_ok-insert.ensures.updates.0 (key id version)) (c.first_of-first.ensures rank)
