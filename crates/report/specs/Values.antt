-- Fractions over a scale, players and coalitions as JSON.
--
--   fraction_data    the text of a fraction
--   scaled_data      the text of a fraction over the scale k
--   integer_data     the text of an integer over the scale k
--   count_data       a level, or the number of a refusal or a reason
--   player_data      a player, from 1
--   player_numbers   the members of a coalition
use Rattle.std.specs.Prelude.{ℕ, ℤ, pos, ◌+◌, map}
use Rattle.serde_json.specs.Data.{Data, number, unsigned, string, array}
use Rattle.serde_json.specs.View.{items_of}
use Rattle.definitions.specs.Coalitions.{members}
use Rattle.fractions.specs.Fraction.{Fraction}
use Rattle.fractions.specs.FractionTexts.{fraction_text}
use Rattle.json_trees.specs.LowestTerms.{over_scale}

abbrev pub fraction_data : Fraction → Data
fraction_data f = string (fraction_text f)

abbrev pub scaled_data : ℕ → Fraction → Data
scaled_data k f = fraction_data (over_scale (pos k) f)

abbrev pub integer_data : ℕ → ℤ → Data
integer_data k z = scaled_data k (record { num = z; den = pos 1 })

abbrev pub count_data : ℕ → Data
count_data n = number (unsigned n)

abbrev pub player_data : ℕ → Data
player_data i = number (unsigned (i + 1))

-- the members of a coalition, from 1 and ascending
abbrev pub player_numbers : ℕ → Data
player_numbers s = array (items_of (map player_data (members 64 s)))
