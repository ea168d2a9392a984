use Rattle.std.proofs.Common.{◌≡◌, ◌<◌, ◌≤◌, ◌-◌, ◌^◌, true, take, length}
use Rattle.std.specs.Char.{is_ascii_digit}
use Rattle.std.specs.List.{list_all}
use Rattle.std.specs.Str.Parse.{digits_value}
use Rattle.text_lines.proofs.tokens.short_digits.Given as goal

abbrev pub invariant-fours : goal.invariant-fours
invariant-fours l = record {
  within : l.at ≤ length l.token;
  digits : list_all is_ascii_digit (take l.at l.token) ≡ true;
  value : l.value ≡ digits_value 10 (take l.at l.token);
  small : l.value < 10 ^ l.at;
}

abbrev pub decreases-fours : goal.decreases-fours
decreases-fours l = length l.token - l.at

abbrev pub invariant-ones : goal.invariant-ones
invariant-ones l = record {
  within : l.at ≤ length l.token;
  digits : list_all is_ascii_digit (take l.at l.token) ≡ true;
  value : l.value ≡ digits_value 10 (take l.at l.token);
  small : l.value < 10 ^ l.at;
}

abbrev pub decreases-ones : goal.decreases-ones
decreases-ones l = length l.token - l.at
