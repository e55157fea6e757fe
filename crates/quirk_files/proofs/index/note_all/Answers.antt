use Rattle.std.proofs.Common.{map, length, ap, sym, ◌∙◌, ◌≡◌, arith}
use Rattle.std.specs.Str.{bytes_eq}
use Rattle.std.proofs.lemmas.List.{length-map}
use Rattle.indexmap.specs.IndexMap.{get}
use Rattle.quirk_files.specs.declared.quirk.Quirk.{Quirk}
use Rattle.quirk_files.proofs.Indexing.{noted_step, indexed, group_here}
use Rattle.quirk_files.proofs.index.note_all.Goals as goal

pub loop-at-preserved : goal.loop-at-preserved
loop-at-preserved c =
    let noted = noted_step (map (λ (quirk : Quirk). quirk.group) c.args.quirks.now) c.loop-at.at c.index-quirks-at.result.group (get bytes_eq c.loop-at.last) (get bytes_eq c.note.new.last)
    c.loop-at.before.items c.note.new.before.items
    (group_here c.args.quirks.now c.loop-at.at c.index-quirks-at.result c.loop-at-test.true ∙ ap (λ (quirk : Quirk). quirk.group) (sym c.index-quirks-at.is))
    c.loop-at.invariant.long c.loop-at.invariant.last_is c.loop-at.invariant.before_is c.in_ok-note.ensures.last c.in_ok-note.ensures.before in
    record { long = noted.long; last_is = noted.last_is; before_is = noted.before_is }

pub returns : goal.returns
returns c =
    let long : length (map (λ (quirk : Quirk). quirk.group) c.args.quirks.now) ≡ length c.args.quirks.now = length-map c.args.quirks.now (λ (quirk : Quirk). quirk.group) in
    indexed (map (λ (quirk : Quirk). quirk.group) c.args.quirks.now) c.loop-at.at (get bytes_eq c.loop-at.last) c.loop-at.before.items (omega arith)
    c.loop-at.invariant.long c.loop-at.invariant.last_is c.loop-at.invariant.before_is
