-- The fractions that are written in a JSON tree.
--
--   whole_fraction     an integer as a fraction
--   written_fraction   the fraction that a text, or else an integer, writes
--   fraction_of        the fraction that a number or a text writes
--   is_fraction        an integer, or a fraction text
--   fraction_or_zero   that fraction, and 0 if none is written
use Rattle.std.specs.Prelude.{ℕ, ℤ, pos, List, Bool, Option, Some, None, is_some, option_map}
use Rattle.std.specs.Prelude.{unwrap_or}
use Rattle.serde_json.specs.Data.{Data}
use Rattle.serde_json.specs.Find.{as_str}
use Rattle.fractions.specs.Fraction.{Fraction}
use Rattle.fractions.specs.FractionTexts.{parsed}
use Rattle.json_trees.specs.Trees.{integer}

-- the fraction that a number is, if it is an integer
abbrev pub whole_fraction : Option ℤ → Option Fraction
whole_fraction o = option_map (λ z. record { num = z; den = pos 1 }) o

-- the fraction that is written as a text, or else as an integer
abbrev pub written_fraction : Data → Option (List ℕ) → Option Fraction
written_fraction d None = whole_fraction (integer d)
written_fraction d (Some text) = parsed text

-- the fraction that is written: an integer, or a fraction text
abbrev pub fraction_of : Data → Option Fraction
fraction_of d = written_fraction d (as_str d)

abbrev pub is_fraction : Data → Bool
is_fraction d = is_some (fraction_of d)

abbrev pub fraction_or_zero : Data → Fraction
fraction_or_zero d = unwrap_or (fraction_of d) (record { num = pos 0; den = pos 1 })
