use Rattle.std.proofs.Common.{◌≡◌, true, take}
use Rattle.std.specs.List.{list_all}
use Rattle.std.specs.Char.{is_digit}
use Rattle.std.specs.Str.Parse.{digits_value}
use Rattle.emulated_boards.proofs.image.read_hex.Given as goal

abbrev pub invariant-digits : goal.invariant-digits
invariant-digits l = record {
  read : l.value ≡ digits_value 16 (take l.byte-index l.digits);
  digits : list_all (λ c. is_digit c 16) (take l.byte-index l.digits) ≡ true;
}
