use Rattle.std.proofs.Common.{◌≡◌, Bool, true, false, ◌&&◌, IsTrue, refl, ap, subst, sym, ◌∙◌}
use Rattle.sqlite_disk.specs.declared.Disk.{Ghosts}
use Rattle.sqlite_disk.specs.declared.Files.{Files}
use Rattle.sqlite_wal.specs.Recovery.{Image}
use Rattle.sqlite_store.specs.declared.store.FileStore.{FileStore}
use Rattle.sqlite_trees.specs.Tree.{Trees}
use Rattle.sqlite.specs.Held.{Held}
use Rattle.sqlite.specs.Files.{file_state, image_of, HoldsDatabase, AreFoundIn, Finds}
use Rattle.history_sqlite.proofs.database_files.connect.Goals as goal

clean_parts : (log db : Bool) → IsTrue (log && db) → IsTrue log × IsTrue db
clean_parts true db h = (refl, h)
clean_parts false db h = absurd (let e : false ≡ true = h in cc)

clean_both : (log db : Bool) → IsTrue log → IsTrue db → IsTrue (log && db)
clean_both true db h k = k
clean_both false db h k = h

-- a file that was only read holds what it held
as_read : {D : Type 0} {g : Ghosts D} (log old new : D) (c : Held (FileStore D g)) → g.seen new ≡ g.seen old → (IsTrue (g.is_clean new) → IsTrue (g.is_clean old)) → Finds (record { log = log; db = new }) c → Finds (record { log = log; db = old }) c
as_read {D} {g} log old new c seen clean f =
    let before : Files D = record { log = log; db = old } in
    let after : Files D = record { log = log; db = new } in
    let same : image_of g after ≡ image_of g before = ap (λ (bytes : _). let it : Image = record { log = g.seen log; db = bytes } in it) seen in
    record {
      honest = let both = clean_parts (g.is_clean log) (g.is_clean new) f.honest in clean_both (g.is_clean log) (g.is_clean old) both.0 (clean both.1);
      holds = subst (λ image. (db : Trees) → HoldsDatabase image db → (file_state c).committed.trees ≡ db) same f.holds;
      reads = subst (λ image. AreFoundIn image (file_state c).committed.trees) same f.reads;
    }

pub returns-in-Ok-open_files-clause-found : goal.returns-in-Ok-open_files-clause-found
returns-in-Ok-open_files-clause-found g c clean =
    as_read {g = g.D.Disk} c.args.files.log c.args.files.db c.measure.new.db c.in-Ok-open_files.connection c.measure.ensures.seen c.measure.ensures.clean (c.in-Ok-open_files.ensures.found clean)

pub returns-in-Ok-open_files-clause-left : goal.returns-in-Ok-open_files-clause-left
returns-in-Ok-open_files-clause-left g c clean lone =
    let honest = clean_parts (g.D.Disk.is_clean c.args.files.log) (g.D.Disk.is_clean c.measure.new.db) (c.in-Ok-open_files.ensures.found clean).honest in
    let yes = (c.in-Ok.ensures.ok honest.1).1 lone in
    let no : c.in-Ok.measured.is_lone_byte ≡ false = c.if-measured.false in
    let both : true ≡ false = sym yes ∙ no in
    cc
