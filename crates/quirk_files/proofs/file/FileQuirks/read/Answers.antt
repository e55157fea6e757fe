use Rattle.std.proofs.Common.{◌≡◌, ◌∙◌, Bor, List, ℕ, map, ap, inl, refl}
use Rattle.std.specs.Prelude.{◌==◌}
use Rattle.std.specs.List.{slice_split}
use Rattle.std.proofs.lemmas.Result.{err_from_is_err_and}
use Rattle.quirk_files.proofs.FileLines.{few_lines, small_file}
use Rattle.quirk_files.proofs.file.FileQuirks.read.Goals as goal

pub returns-in_err-lines-clause-refused : goal.returns-in_err-lines-clause-refused
returns-in_err-lines-clause-refused c =
    let p = err_from_is_err_and c.from_residual.result c.from_residual.ensures.1 in rw (p.1, p.2) (inl refl)

pub read_lines-requires : goal.read_lines-requires
read_lines-requires c = rw c.deref.ensures.value (few_lines c.in_ok-lines.lines.items _ c.args.bytes.now c.in_ok-lines.ensures c.if-bytes-gt-FILE_MAX.false)

pub returns : goal.returns
returns c =
    let same : map (λ (line : Bor (List ℕ)). line.now) c.deref.result.now ≡ slice_split (λ (b : ℕ). b == 10) c.args.bytes.now =
    ap (map (λ (line : Bor (List ℕ)). line.now)) c.deref.ensures.value ∙ c.in_ok-lines.ensures in
    record {
      read = rw same at c.read_lines.ensures.read;
      sound = rw (small_file c.args.bytes.now c.if-bytes-gt-FILE_MAX.false) (rw same at c.read_lines.ensures.sound);
      refused = rw (small_file c.args.bytes.now c.if-bytes-gt-FILE_MAX.false) (rw same at c.read_lines.ensures.refused);
    }
