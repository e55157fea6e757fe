use Rattle.std.proofs.Common.{◌≡◌, ℕ, List, take}
use Rattle.std.specs.List.{list_any}
use Rattle.std.specs.Str.{bytes_eq}
use Rattle.device_list.specs.Guids.{listed, with_last, IsReady}
use Rattle.device_list.proofs.guid_index.note_each.Given as goal

abbrev pub invariant-loop-guid : goal.invariant-loop-guid
invariant-loop-guid l = record {
  noted : (guid : List ℕ) → listed l.index guid ≡ with_last (list_any (bytes_eq guid) (take l.guid-index l.guids)) l.at (listed l.fn.index guid);
  kept : (guid : List ℕ) → IsReady l.at l.fn.index guid → IsReady l.at l.index guid;
}
