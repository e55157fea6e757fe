use Rattle.std.proofs.Common.{◌∙◌, List, ℕ, sym}
use Rattle.std.specs.List.{list_any}
use Rattle.std.specs.Str.{bytes_eq}
use Rattle.quirk_files.proofs.Loops.{known_step, added_step, added_none}
use Rattle.quirk_files.proofs.sheets.added_guids.Goals as goal

pub loop-next-preserved : goal.loop-next-preserved
loop-next-preserved c = record {
  known = known_step (λ (q : List ℕ). list_any (bytes_eq q) c.loop-next.there.keys) (λ (q : List ℕ). list_any (bytes_eq q) c.add_guid.new.there.keys)
      c.loop-next.all.items c.add_guid.new.all.items c.next-item.result c.loop-next.invariant.known c.in_ok-add_guid.ensures.all c.in_ok-add_guid.ensures.there;
  to_add = added_step (λ (q : List ℕ). list_any (bytes_eq q) c.loop-next.there.keys) c.loop-next.all.items c.add_guid.new.all.items c.args.list.now c.args.more.now
      c.loop-next.next-index c.next-item.result c.loop-next-test.true c.loop-next.invariant.known c.next-item.is c.in_ok-add_guid.ensures.all c.loop-next.invariant.to_add;
}

pub returns : goal.returns
returns c =
    sym (added_none c.loop-next.all.items c.args.more.now c.loop-next.next-index c.loop-next-test.false) ∙ c.loop-next.invariant.to_add
