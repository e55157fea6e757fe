use Rattle.std.proofs.Common.{None, refl}
use Rattle.sqlite.specs.Files.{over_files}
use Rattle.sqlite.specs.Held.{state}
use Rattle.sqlite_wal.specs.Files.{image_at}
use Rattle.history_sqlite.proofs.Opening.{if_ok}
use Rattle.marks_sqlite.proofs.Found.{adoptable, has_any, held_opens, marks_found}
use Rattle.marks_sqlite.proofs.sql_marks.SqlMarks+FileStore+FileFrom+S.file.Goals as goal

pub adopt_so-requires : goal.adopt_so-requires
adopt_so-requires g c = λ may so clean.
    let conn = c.in_ok-connection.connection in
    let opened = c.in_ok-connection.ensures.opened clean in
    let o = opened.0 in
    has_any (state over_files (record conn { step_limit = None })) (record { is_open = o.is_open; clean = o.clean; autocommit = o.autocommit; unmarked = o.unmarked; uncounted = o.uncounted }) refl so.0
    (marks_found (image_at g.S.Start) (state over_files conn) o opened.1 (c.in_ok-connection.ensures.found clean) so.0 so.1)

pub returns-clause-tells : goal.returns-clause-tells
returns-clause-tells g c =
    let conn = c.in_ok-connection.connection in
    if_ok c.adopt_so.result _ (λ keeper is marks held clean.
    let before = (rw is at c.adopt_so.ensures.clean) clean in
    let opened = c.in_ok-connection.ensures.opened before in
    let found = marks_found (image_at g.S.Start) (state over_files conn) opened.0 opened.1 (c.in_ok-connection.ensures.found before) marks held in
    record {
      may = (rw is at c.adopt_so.ensures.unused).may_tell;
      store_is = (marks, held);
      clean = clean;
      holds = held_opens (state over_files conn) opened.0 c.in_ok-connection.ensures.fresh.unlimited marks (state over_files keeper.connection) ((rw is at c.adopt_so.ensures.opens) clean) found;
    })

pub returns-clause-adopted : goal.returns-clause-adopted
returns-clause-adopted g c =
    let conn = c.in_ok-connection.connection in
    if_ok c.adopt_so.result _ (λ keeper is clean.
    let before = (rw is at c.adopt_so.ensures.clean) clean in
    let opened = c.in_ok-connection.ensures.opened before in
    adoptable (image_at g.S.Start) (state over_files conn) opened.0 opened.1 (c.in_ok-connection.ensures.found before) (rw is at c.adopt_so.ensures.adopted))
