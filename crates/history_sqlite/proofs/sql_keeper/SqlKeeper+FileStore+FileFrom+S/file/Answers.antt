use Rattle.std.proofs.Common.{None, refl}
use Rattle.sqlite.specs.Files.{over_files}
use Rattle.sqlite.specs.Held.{state}
use Rattle.sqlite_wal.specs.Files.{image_at}
use Rattle.history_sqlite.proofs.Found.{has_any, held_opens, history_in}
use Rattle.history_sqlite.proofs.Opening.{if_ok}
use Rattle.history_sqlite.proofs.sql_keeper.SqlKeeper+FileStore+FileFrom+S.file.Goals as goal

pub adopt_so-requires : goal.adopt_so-requires
adopt_so-requires g c = λ may so clean.
    let conn = c.in_ok-connection.connection in
    let opened = c.in_ok-connection.ensures.opened clean in
    let o = opened.0 in
    has_any (state over_files (record conn { step_limit = None })) (record { is_open = o.is_open; clean = o.clean; autocommit = o.autocommit; unmarked = o.unmarked; uncounted = o.uncounted }) refl so.0
    (history_in (image_at g.S.Start) so.0 (state over_files conn) so.1 o opened.1 (c.in_ok-connection.ensures.found clean))

pub returns-clause-tells : goal.returns-clause-tells
returns-clause-tells g c =
    let conn = c.in_ok-connection.connection in
    if_ok c.adopt_so.result _ (λ keeper is rows held clean.
    let before = (rw is at c.adopt_so.ensures.clean) clean in
    let opened = c.in_ok-connection.ensures.opened before in
    let history = history_in (image_at g.S.Start) rows (state over_files conn) held opened.0 opened.1 (c.in_ok-connection.ensures.found before) in
    record {
      may = (rw is at c.adopt_so.ensures.unused).may_tell;
      store_is = (rows, held);
      clean = clean;
      holds = held_opens (state over_files conn) opened.0 c.in_ok-connection.ensures.fresh.unlimited rows (state over_files keeper.connection) ((rw is at c.adopt_so.ensures.opens) clean) history;
    })
