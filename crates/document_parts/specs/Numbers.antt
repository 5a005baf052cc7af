-- The numbers of a game, read together: times their least common denominator.
--
--   seen              the trees that references lead to
--   common_scale      the least common denominator of numbers
--   with_fraction     the least common multiple of a scale and the denominator of a fraction, and the fraction times it
--   are_worths        their scale is at most 65,536, and times it each number is below 2^40 in size
--   are_costs         the same, and none is negative
--   AreWorths         numbers in memory: they are worths, and these are they
--   in_rows           numbers in rows as long as some arrays
--   number_of_mask    of masks and numbers side by side: the number at the first place with this mask
use Rattle.std.specs.Prelude.{◌&&◌, ◌≡◌, ℕ, ℤ, pos, List, [], ◌∷◌, length, map, take, drop}
use Rattle.std.specs.Prelude.{Bool, true, Option, Some, is_some, option_map}
use Rattle.std.specs.Prelude.{option_and_then, nat_le, unsigned_abs, if◌then◌else◌}
use Rattle.std.specs.Borrow.{Bor}
use Rattle.std.specs.List.{list_all}
use Rattle.serde_json.specs.Data.{Data}
use Rattle.serde_json.specs.View.{view}
use Rattle.serde_json.specs.declared.value.Value.{Value}
use Rattle.fractions.specs.Fraction.{Fraction}
use Rattle.worth_core.specs.LeastDenominators.{numerator_over}
use Rattle.json_trees.specs.Fractions.{fraction_or_zero}
use Rattle.json_trees.specs.Trees.{parts}
use Rattle.document_parts.specs.CommonMultiples.{lcm, least_denominator}
use Rattle.document_parts.specs.Members.{is_mask}
use Rattle.document_parts.specs.Scales.{if_scale}
use Rattle.document_parts.specs.ScaledNumbers.{if_small, small_number, number_or_zero}
use Rattle.document_parts.specs.Sizes.{is_cost}

abbrev pub seen : List (Bor Value) → List Data
seen vs = map (λ v. view v.now) vs

abbrev pub common_scale : List Data → ℕ
common_scale ds = least_denominator (map fraction_or_zero ds)

-- the least common multiple of the scale k and the denominator of a fraction, and the fraction times it; none unless
-- the multiple is at most 65,536 and the product is below 2^40 in size
abbrev pub with_fraction : ℕ → Fraction → Option (ℕ × ℤ)
with_fraction k f =
    option_and_then (λ m. option_map (λ z. (m, z)) (if_small (Some (numerator_over (pos m) f))))
    (if_scale (lcm k (unsigned_abs f.den)))

abbrev pub are_worths : List Data → Bool
are_worths ds =
    nat_le (common_scale ds) 65536 && list_all (λ d. is_some (small_number (common_scale ds) d)) ds

abbrev pub are_costs : List Data → Bool
are_costs ds = nat_le (common_scale ds) 65536 && list_all (is_cost (common_scale ds)) ds

-- the numbers zs are those that are written, times their scale k
pub record AreWorths (ds : List Data) (k : ℕ) (zs : List ℤ) : Type 0 where
  pub worths : are_worths ds ≡ true
  pub scale : k ≡ common_scale ds
  pub numbers : zs ≡ map (number_or_zero k) ds

-- numbers row by row: in each row as many as in the array beside it
abbrev pub in_rows : List Data → List ℤ → List (List ℤ)
in_rows [] zs = []
in_rows (d ∷ ds) zs = take (length (parts d)) zs ∷ in_rows ds (drop (length (parts d)) zs)

-- the number at the first place with the mask s, and another number if there is none
abbrev pub number_of_mask : List (Option ℕ) → List ℤ → ℤ → ℕ → ℤ
number_of_mask [] zs other s = other
number_of_mask (m ∷ ms) [] other s = other
number_of_mask (m ∷ ms) (z ∷ zs) other s = if is_mask s m then z else number_of_mask ms zs other s
