use Rattle.std.proofs.Common.{◌≡◌, ◌<◌, ◌^◌, take}
use Rattle.std.specs.Str.Parse.{digits_value, AllDigits}
use Rattle.history.proofs.number.decimal_value.Given as goal

abbrev pub invariant-loop-byte : goal.invariant-loop-byte
invariant-loop-byte l = record {
  fits : l.number < 2 ^ 64;
  value : l.number ≡ digits_value 10 (take l.byte-index l.bytes);
  digits : AllDigits 10 (take l.byte-index l.bytes);
}
