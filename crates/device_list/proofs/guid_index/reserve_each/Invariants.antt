use Rattle.std.proofs.Common.{◌≡◌, ℕ, List, All, take}
use Rattle.device_list.specs.Guids.{listed, HasRoom}
use Rattle.device_list.proofs.guid_index.reserve_each.Given as goal

abbrev pub invariant-loop-guid : goal.invariant-loop-guid
invariant-loop-guid l = record {
  same : (guid : List ℕ) → listed l.index guid ≡ listed l.fn.index guid;
  room : All (HasRoom l.index) (take l.guid-index l.guids);
  kept : (guid : List ℕ) → HasRoom l.fn.index guid → HasRoom l.index guid;
}
