-- Marks that files held, as they are opened.
use Rattle.std.proofs.Common.{◌≡◌, ◌⊎◌, inl, inr, ℕ, List, None, sym, subst}
use Rattle.sqlite.specs.Effect.{Database}
use Rattle.sqlite.specs.Files.{AreFoundIn}
use Rattle.sqlite.specs.Start.{FindsIn}
use Rattle.sqlite.specs.State.{State, IsLive, Opens as IsFresh}
use Rattle.sqlite_wal.specs.Recovery.{Image}
use Rattle.marks_sqlite.specs.Finding.{HasNone, HasTable}
use Rattle.marks_sqlite.specs.Opened.{FilesHold, HasMarked, HasMarks, IsAdoptable}
use Rattle.marks_sqlite.specs.Tables.{HasAny, HoldsMarks, IsBlank, Opens, no_schema}

module _ (image : Image) (s : State) (o : IsFresh s) (live : IsLive s) (found : FindsIn image s) where
  in_files : AreFoundIn image s.now.trees
  in_files = subst (λ (d : Database). AreFoundIn image d.trees) (sym o.clean) found.reads

  -- the database that was found in the files has the marks that they held
  pub marks_found : (marks : List ℕ) → FilesHold image marks → HasMarks s.now.schema s.now.trees marks
  marks_found marks held = held s.now.schema s.now.trees in_files (live o.is_open).0

  -- and one that was adopted was found
  pub adoptable : HasNone s.now.schema ⊎ HasTable s.now.schema → IsAdoptable image
  adoptable fits = record { schema = s.now.schema; trees = s.now.trees; found = in_files; database = (live o.is_open).0; fits = fits }

module _ (s : State) (o : IsFresh s) (limit : s.step_limit ≡ None) (marks : List ℕ) where
  in_table : HasMarked s.now.schema s.now.trees marks → HoldsMarks s marks
  in_table h = record { is_open = o.is_open; schema = h.schema_is; settled = sym o.clean; autocommit = o.autocommit; unlimited = limit; table = h.table }

  in_none : s.now.schema ≡ no_schema → IsBlank s
  in_none e = record { is_open = o.is_open; schema = e; autocommit = o.autocommit; unlimited = limit }

  pub has_any : HasMarks s.now.schema s.now.trees marks → HasAny s
  has_any (inl h) = inl (marks, in_table h)
  has_any (inr h) = inr (in_none h.0)

  -- once its table was opened, it has these marks
  pub held_opens : (new : State) → Opens s new → HasMarks s.now.schema s.now.trees marks → HoldsMarks new marks
  held_opens new opens (inl h) = opens.0 marks (in_table h)
  held_opens new opens (inr h) = subst (HoldsMarks new) (sym h.1) (opens.1 (in_none h.0))
