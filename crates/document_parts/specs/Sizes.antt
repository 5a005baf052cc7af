-- The sizes that several classes keep within.
--
--   is_list_size         a number of players from 1 to 64
--   is_short_list_size   a number of players, or of those of one side, from 1 to 32
--   is_small_cost        at least 0, and below 2^40
--   if_integer           an integer that passes a test
--   is_cost              a number from 0 that times the scale k is below 2^40
use Rattle.std.specs.Prelude.{◌^◌, ℕ, ℤ, pos, negsuc, Bool, false, ◌&&◌, Option, Some}
use Rattle.std.specs.Prelude.{None, nat_lt, nat_le}
use Rattle.serde_json.specs.Data.{Data}
use Rattle.document_parts.specs.ScaledNumbers.{small_number}

abbrev pub is_list_size : ℕ → Bool
is_list_size n = nat_lt 0 n && nat_le n 64

abbrev pub is_short_list_size : ℕ → Bool
is_short_list_size n = nat_lt 0 n && nat_le n 32

abbrev pub is_small_cost : ℤ → Bool
is_small_cost (pos n) = nat_lt n (2 ^ 40)
is_small_cost (negsuc n) = false

abbrev pub if_integer : (ℤ → Bool) → Option ℤ → Bool
if_integer test None = false
if_integer test (Some z) = test z

abbrev pub is_cost : ℕ → Data → Bool
is_cost k d = if_integer is_small_cost (small_number k d)
