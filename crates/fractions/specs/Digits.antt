-- Digits of a number of 128 bits.
use Rattle.std.specs.Prelude.{ℕ, ◌^◌, List, length, Bool, ◌&&◌, nat_lt}
use Rattle.std.specs.List.{list_all}
use Rattle.std.specs.Char.{is_ascii_digit}
use Rattle.std.specs.Str.Parse.{digits_value}

-- one digit or more, of a number below 2 ^ 128
abbrev pub is_number : List ℕ → Bool
is_number s = nat_lt 0 (length s) && (list_all is_ascii_digit s && nat_lt (digits_value 10 s) (2 ^ 128))
