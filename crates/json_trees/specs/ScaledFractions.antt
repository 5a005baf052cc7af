-- The fractions that are written in a JSON tree, times a scale.
--
--   scaled_of        the fraction that is written, times the scale
--   is_scaled        there is one, with parts of 128 bits before and after
--   scaled_or_zero   that fraction, and 0 if there is none
--   scaled_at        the fraction at a key, times the scale
use Rattle.std.specs.Prelude.{ℕ, pos, List, Bool, Option, is_some, option_map, option_and_then, unwrap_or}
use Rattle.serde_json.specs.Data.{Data}
use Rattle.serde_json.specs.Find.{get}
use Rattle.fractions.specs.Fraction.{Fraction}
use Rattle.json_trees.specs.Fractions.{fraction_of}
use Rattle.json_trees.specs.LowestTerms.{if_scaled}

-- the fraction that is written, times the scale k, if its parts have a form of 128 bits before and after
abbrev pub scaled_of : ℕ → Data → Option Fraction
scaled_of k d = option_and_then (if_scaled k) (fraction_of d)

-- an integer or a fraction text that has such a form times the scale k
abbrev pub is_scaled : ℕ → Data → Bool
is_scaled k d = is_some (scaled_of k d)

-- the fraction that is written, times the scale k, and 0 if there is none
abbrev pub scaled_or_zero : ℕ → Data → Fraction
scaled_or_zero k d = unwrap_or (scaled_of k d) (record { num = pos 0; den = pos 1 })

-- the fraction at a key, times the scale k, and 0 if it is absent
abbrev pub scaled_at : ℕ → List ℕ → Data → Fraction
scaled_at k key d = unwrap_or (option_map (scaled_or_zero k) (get key d)) (record { num = pos 0; den = pos 1 })
