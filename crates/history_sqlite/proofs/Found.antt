-- A history that files held, as it is opened.
use Rattle.std.proofs.Common.{◌≡◌, inl, inr, List, None, sym, subst}
use Rattle.sqlite.specs.Effect.{Database}
use Rattle.sqlite.specs.Files.{AreFoundIn}
use Rattle.sqlite.specs.Start.{FindsIn}
use Rattle.sqlite.specs.State.{State, IsLive, Opens as IsFresh}
use Rattle.sqlite_wal.specs.Recovery.{Image}
use Rattle.history_keeper.specs.declared.row.Row.{Row}
use Rattle.history_sqlite.specs.Opened.{FilesHold, HasHistory, HasOlderTable, HasTable}
use Rattle.history_sqlite.specs.Tables.{HasAny, HoldsOlderRows, HoldsRows, IsBlank, Opens, no_schema}

-- the database that was found in the files has the rows that they held
pub history_in : (image : Image) (rows : List Row) (s : State) → FilesHold image rows → IsFresh s → IsLive s → FindsIn image s → HasHistory s.now.schema s.now.trees rows
history_in image rows s held o live found =
    held s.now.schema s.now.trees (subst (λ (d : Database). AreFoundIn image d.trees) (sym o.clean) found.reads) (live o.is_open).0

module _ (s : State) (o : IsFresh s) (limit : s.step_limit ≡ None) (rows : List Row) where
  in_table : HasTable s.now.schema s.now.trees rows → HoldsRows s rows
  in_table h = record {
    layout = h.layout;
    is_open = o.is_open;
    schema = h.schema_is;
    settled = sym o.clean;
    autocommit = o.autocommit;
    unlimited = limit;
    number = h.number;
    table = h.table;
    entries = h.entries;
  }

  in_older : (h : HasOlderTable s.now.schema s.now.trees rows) → HoldsOlderRows s h.older
  in_older h = record {
    is_open = o.is_open;
    schema = h.schema_is;
    settled = sym o.clean;
    autocommit = o.autocommit;
    unlimited = limit;
    number = h.number;
    table = h.table;
    entries = h.entries;
  }

  in_none : s.now.schema ≡ no_schema → IsBlank s
  in_none e = record { is_open = o.is_open; schema = e; autocommit = o.autocommit; unlimited = limit }

  pub has_any : HasHistory s.now.schema s.now.trees rows → HasAny s
  has_any (inl h) = inl (rows, in_table h)
  has_any (inr (inl h)) = inr (inl (h.older, in_older h))
  has_any (inr (inr h)) = inr (inr (in_none h.0))

  -- once its tables were opened, they have these rows
  pub held_opens : (new : State) → Opens s new → HasHistory s.now.schema s.now.trees rows → HoldsRows new rows
  held_opens new opens (inl h) = opens.0 rows (in_table h)
  held_opens new opens (inr (inl h)) = subst (HoldsRows new) (sym h.rows_are) (opens.1.0 h.older (in_older h))
  held_opens new opens (inr (inr h)) = subst (HoldsRows new) (sym h.1) (opens.1.1 (in_none h.0))
