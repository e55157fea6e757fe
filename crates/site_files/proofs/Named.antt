-- A name is the text that it was read from.
use Rattle.std.proofs.Common.{◌≡◌, ℕ, List, length, Bool, true, false, Option, Some, None, Ok, Err, if◌then◌else◌, nat_lt}
use Rattle.std.specs.Prelude.{position, ◌==◌}
use Rattle.fw_base.specs.declared.name.NameFault.{NameFault}
use Rattle.fw_base.specs.declared.name.NameFault.TheVariants.{Empty, TooLong}
use Rattle.fw_base.specs.Names.{is_no_name_byte, name_read, name_unless}

by_tests : (empty long : Bool) (bad : Option ℕ) (e l : NameFault) (text name : List ℕ)
    → (if empty then Err e else if long then Err l else name_unless bad text) ≡ Ok name → name ≡ text
by_tests true long bad e l text name h = cc
by_tests false true bad e l text name h = cc
by_tests false false (Some at) e l text name h = cc
by_tests false false None e l text name h = cc

pub name_is_text : (text name : List ℕ) → name_read text ≡ Ok name → name ≡ text
name_is_text text name h = by_tests (length text == 0) (nat_lt 64 (length text)) (position is_no_name_byte text) Empty (TooLong (length text)) text name h
