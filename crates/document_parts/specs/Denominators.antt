-- Fractions over their least common denominator, as a number that is computed.
--
--   over_least    fractions over their least common denominator
--   keep_limits   they keep within the limits of shares there
use Rattle.std.specs.Prelude.{pos, List, Bool}
use Rattle.fractions.specs.Fraction.{Fraction}
use Rattle.definitions.specs.Games.{Allocation}
use Rattle.worth_core.specs.LeastDenominators.{over}
use Rattle.document_parts.specs.CommonMultiples.{least_denominator}
use Rattle.document_parts.specs.Shares.{has_small_terms}

abbrev pub over_least : List Fraction → Allocation
over_least fs = over (pos (least_denominator fs)) fs

-- over their least common denominator, the fractions keep within the limits of shares
abbrev pub keep_limits : List Fraction → Bool
keep_limits fs = has_small_terms (least_denominator fs) fs
