-- Counting the members of an object, and the last call of a plan.
use Rattle.std.proofs.Common.{◌≡◌, ℕ, suc, List, [], ◌∷◌, ◌++◌, length, refl, ap}
use Rattle.std.specs.Borrow.{Bor}
use Rattle.json_values.specs.Trees.{Tree, members_view}
use Rattle.emulated_boards.specs.declared.fault.PlannedFault.{PlannedFault}
use Rattle.site_files.specs.Plans.{latest}
use Rattle.site_files.specs.Machines.{members_len}

pub members_len_of : (es : List (Bor (List ℕ) × Bor Tree)) → length es ≡ members_len (members_view es)
members_len_of [] = refl
members_len_of (e ∷ es) = ap suc (members_len_of es)

pub latest_pushed : (call : ℕ) (planned : List PlannedFault) (x : PlannedFault) → latest call (planned ++ x ∷ []) ≡ x.call
latest_pushed call [] x = refl
latest_pushed call (next ∷ planned) x = latest_pushed next.call planned x
