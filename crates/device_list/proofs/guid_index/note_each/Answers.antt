use Rattle.std.proofs.Common.{◌||◌, sym, ap, ◌∙◌, take}
use Rattle.std.specs.List.{list_any}
use Rattle.std.specs.Str.{bytes_eq}
use Rattle.device_list.specs.Guids.{listed, with_last}
use Rattle.std.proofs.lemmas.List.Folds.{list_any_more}
use Rattle.device_list.proofs.GuidLaws.{with_last-twice}
use Rattle.device_list.proofs.guid_index.note_each.Goals as goal

pub loop-guid-preserved : goal.loop-guid-preserved
loop-guid-preserved c = record {
  noted = λ q.
      let any = list_any_more (bytes_eq q) c.args.guids.now c.loop-guid.guid-index c.guid-item.result c.loop-guid-test.true in
      c.note.ensures.noted q
      ∙ ap (with_last (bytes_eq q c.guid-item.result) c.args.at) (c.loop-guid.invariant.noted q)
      ∙ with_last-twice (list_any (bytes_eq q) (take c.loop-guid.guid-index c.args.guids.now)) (bytes_eq q c.guid-item.result) c.args.at (listed c.args.index.now q)
      ∙ ap (λ g. with_last (list_any (bytes_eq q) (take c.loop-guid.guid-index c.args.guids.now) || bytes_eq q g) c.args.at (listed c.args.index.now q)) c.guid-item.is
      ∙ ap (λ b. with_last b c.args.at (listed c.args.index.now q)) (sym any);
  kept = λ q h. c.note.ensures.kept q (c.loop-guid.invariant.kept q h);
}
