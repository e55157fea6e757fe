use Rattle.std.proofs.Common.{Bor, map}
use Rattle.quirk_files.specs.declared.quirk.Quirk.{Quirk}
use Rattle.quirk_files.specs.Sheets.{is_for}
use Rattle.quirk_files.proofs.Loops.{files_step}
use Rattle.quirk_files.proofs.book.push_for.Goals as goal

pub loop-file-preserved : goal.loop-file-preserved
loop-file-preserved c =
    files_step (is_for c.args.guids.now) c.args.files.now c.loop-file.file-index c.file-item.result (map (λ (quirk : Bor Quirk). quirk.now) c.args.quirks.now.items)
    (map (λ (quirk : Bor Quirk). quirk.now) c.loop-file.quirks.items) (map (λ (quirk : Bor Quirk). quirk.now) c.push_for.new.quirks.items)
    c.loop-file-test.true c.loop-file.invariant c.file-item.is c.in_ok-push_for.ensures
