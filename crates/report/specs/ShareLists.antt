-- Lists of shares.
--
--   IsNumerator     a numerator of a share, which is below 2^110 in size
--   as_printed      a numerator as it is printed
--   printed_share   a share as it is printed, over the scale
--   share_data      its text
--   share_list      the shares of all players
use Rattle.std.specs.Prelude.{◌^◌, ◌<◌, ℕ, ℤ, pos, neg_ℤ, ◌*ℤ◌, unsigned_abs, map, Bool}
use Rattle.std.specs.Prelude.{if◌then◌else◌}
use Rattle.serde_json.specs.Data.{Data, array}
use Rattle.serde_json.specs.View.{items_of}
use Rattle.definitions.specs.Games.{Allocation}
use Rattle.fractions.specs.Fraction.{Fraction}
use Rattle.json_trees.specs.LowestTerms.{in_lowest_terms}
use Rattle.report.specs.Values.{fraction_data}

abbrev pub IsNumerator : ℤ → Type 0
IsNumerator z = unsigned_abs z < 2 ^ 110

-- a numerator as it is printed: if the game is one of costs, that of a payment
abbrev pub as_printed : Bool → ℤ → ℤ
as_printed is_cost z = if is_cost then neg_ℤ z else z

-- the share z/d as it is printed: over the scale k
abbrev pub printed_share : ℕ → Bool → ℤ → ℤ → Fraction
printed_share k is_cost d z = in_lowest_terms (as_printed is_cost z) (d *ℤ pos k)

-- the text of the share z/d over the scale k
abbrev pub share_data : ℕ → Bool → ℤ → ℤ → Data
share_data k is_cost d z = fraction_data (printed_share k is_cost d z)

-- the shares of all players, over the scale k
abbrev pub share_list : ℕ → Bool → Allocation → Data
share_list k is_cost x = array (items_of (map (share_data k is_cost x.den) x.shares))
