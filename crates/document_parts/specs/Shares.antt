-- The shares that a document proposes.
--
--   has_share_numbers     each share is an integer or a fraction text
--   written_shares        the fractions that are written
--   has_shares_for        there are so many shares
--   scaled_fractions      the fractions times the scale k
--   scaled_share          the fraction that is written, times the scale k
--   scaled_shares         the fractions that are written, times the scale k
--   negated               shares with their signs turned
--   as_worth              shares as worth: payments are negated
--   IsDenominatorOf       the least common denominator of the fractions that are written, times a scale
--   has_small_numerator   over a denominator, a fraction has a numerator below 2^110 in size
--   has_small_terms       over a denominator, fractions keep within the limits of shares
use Rattle.std.specs.Prelude.{◌==◌, ◌^◌, ◌&&◌, ℕ, pos, neg_ℤ, unsigned_abs, nat_lt, nat_le}
use Rattle.std.specs.Prelude.{codes, List, length, map, Bool, if◌then◌else◌}
use Rattle.std.specs.List.{list_all}
use Rattle.serde_json.specs.Data.{Data}
use Rattle.definitions.specs.Games.{Allocation}
use Rattle.fractions.specs.Fraction.{Fraction}
use Rattle.json_trees.specs.Fractions.{is_fraction, fraction_or_zero}
use Rattle.json_trees.specs.LowestTerms.{times_scale}
use Rattle.worth_core.specs.LeastDenominators.{IsLeastDenominator, numerator_over}
use Rattle.json_trees.specs.Trees.{parts_at}

abbrev pub has_share_numbers : Data → Bool
has_share_numbers tree = list_all is_fraction (parts_at (codes "shares") tree)

abbrev pub written_shares : Data → List Fraction
written_shares tree = map fraction_or_zero (parts_at (codes "shares") tree)

-- there are n shares
abbrev pub has_shares_for : ℕ → Data → Bool
has_shares_for n tree = length (parts_at (codes "shares") tree) == n

abbrev pub scaled_fractions : ℕ → List Fraction → List Fraction
scaled_fractions k fs = map (times_scale k) fs

abbrev pub scaled_share : ℕ → Data → Fraction
scaled_share k d = times_scale k (fraction_or_zero d)

abbrev pub scaled_shares : ℕ → Data → List Fraction
scaled_shares k tree = map (scaled_share k) (parts_at (codes "shares") tree)

abbrev pub negated : Allocation → Allocation
negated x = record { shares = map neg_ℤ x.shares; den = x.den }

-- the shares as worth: if the numbers are costs, the written ones are payments
abbrev pub as_worth : Bool → Allocation → Allocation
as_worth are_payments x = if are_payments then negated x else x

-- d is the least common denominator of the fractions that are written, times the scale k; it is 1 if none are
abbrev pub IsDenominatorOf : ℕ → Data → ℕ → Type 0
IsDenominatorOf k tree d = IsLeastDenominator (scaled_shares k tree) (pos d)

-- below 2^110 in size, over the denominator d
abbrev pub has_small_numerator : ℕ → Fraction → Bool
has_small_numerator d f = nat_lt (unsigned_abs (numerator_over (pos d) f)) (2 ^ 110)

-- a denominator of at most 2^63, and numerators over it below 2^110 in size
-- (so a share is too fine if it leaves 128 bits when it is multiplied by the scale: that is a lemma, `not_kept`, and no
-- rule)
abbrev pub has_small_terms : ℕ → List Fraction → Bool
has_small_terms d fs = nat_le d (2 ^ 63) && list_all (has_small_numerator d) fs
