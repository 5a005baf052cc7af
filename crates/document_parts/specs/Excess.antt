-- The excess by which the coalitions of a game are to be compared.
--
--   measure_named   the measure that a word names
--   measure_in      the measure that a text names
--   is_measure      a text that names one of both
--   measure_of      plain excess, or excess per head if the game says so
use Rattle.std.specs.Prelude.{ℕ, codes, List, Bool, Option, Some, None, is_some}
use Rattle.std.specs.Prelude.{option_and_then, unwrap_or, if◌then◌else◌}
use Rattle.std.specs.Str.{bytes_eq}
use Rattle.serde_json.specs.Data.{Data}
use Rattle.serde_json.specs.Find.{get, as_str}
use Rattle.definitions.specs.declared.Measure.{Measure}
use Rattle.definitions.specs.declared.Measure.TheVariants.{Plain, PerHead}

abbrev pub measure_named : List ℕ → Option Measure
measure_named s =
    if bytes_eq s (codes "plain") then Some Plain else (if bytes_eq s (codes "per-head") then Some PerHead else None)

abbrev pub measure_in : Data → Option Measure
measure_in d = option_and_then measure_named (as_str d)

-- a text that names a measure
abbrev pub is_measure : Data → Bool
is_measure d = is_some (measure_in d)

-- the measure of a game: plain excess if the game says nothing of it
abbrev pub measure_of : Data → Measure
measure_of game = unwrap_or (option_and_then measure_in (get (codes "excess") game)) Plain
