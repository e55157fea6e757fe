use Rattle.std.proofs.Common.{ℕ, Bool, cond, List, ap₂, subst}
use Rattle.sqlite_disk.specs.Events.{Event, replay}
use Rattle.sqlite_wal.specs.Recovery.{Image}
use Rattle.sqlite.specs.Files.{file_state}
use Rattle.sqlite.specs.Start.{FindsIn}
use Rattle.history_sqlite.proofs.Opening.{if_ok}
use Rattle.history_sqlite.proofs.database_files.open_path.Goals as goal

abbrev image : List ℕ → List ℕ → Image
image log db = record { log = log; db = db }

abbrev seen : List ℕ → List ℕ → Bool → List Event → List ℕ
seen log db is_log history = (replay (cond is_log log db) history).seen

-- what was found in the files is what they held, since nothing has happened to them
pub returns-clause-found : goal.returns-clause-found
returns-clause-found g c =
    let (log, db) = c.in-Ok.ensures.fresh in
    let same = ap₂ image (ap₂ (seen g.S.Start.log g.S.Start.db) log.0 log.1) (ap₂ (seen g.S.Start.log g.S.Start.db) db.0 db.1) in
    if_ok c.connect.result _ (λ connection is clean.
    let found = (rw is at c.connect.ensures.found) clean in
    subst (λ i. FindsIn i (file_state connection)) same (record { holds = found.holds; reads = found.reads }))
