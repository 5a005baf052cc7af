-- The numbers of a game, times its scale.
--
--   is_small         below 2^40 in size
--   if_small         a number, if it is below 2^40 in size
--   small_number     the number times the scale k, if it is below 2^40 in size
--   number_or_zero   the same, and 0 if there is none
--   number_at        the number at a key
--   numbers_at       the numbers of the array at a key
--   costs_at         the same, none of them negative
--   numbers_of       the numbers of the items of an array
--   rows_at          the numbers of each array in the array at a key
--   second_number    the number of the second of two items
use Rattle.std.specs.Prelude.{◌^◌, ℕ, ℤ, pos, List, [], ◌∷◌, map, Bool, Option}
use Rattle.std.specs.Prelude.{Some, None, option_map}
use Rattle.std.specs.Prelude.{option_and_then, unwrap_or, nat_lt, unsigned_abs, if◌then◌else◌}
use Rattle.serde_json.specs.Data.{Data}
use Rattle.serde_json.specs.Find.{get}
use Rattle.worth_core.specs.LeastDenominators.{numerator_over}
use Rattle.json_trees.specs.Fractions.{fraction_of}
use Rattle.json_trees.specs.Trees.{parts, parts_at}

abbrev pub is_small : ℤ → Bool
is_small z = nat_lt (unsigned_abs z) (2 ^ 40)

abbrev pub if_small : Option ℤ → Option ℤ
if_small None = None
if_small (Some z) = if is_small z then Some z else None

abbrev pub small_number : ℕ → Data → Option ℤ
small_number k d = if_small (option_map (numerator_over (pos k)) (fraction_of d))

abbrev pub number_or_zero : ℕ → Data → ℤ
number_or_zero k d = unwrap_or (small_number k d) (pos 0)

-- the number at a key, and 0 if it is absent
abbrev pub number_at : ℕ → List ℕ → Data → ℤ
number_at k key d = unwrap_or (option_and_then (small_number k) (get key d)) (pos 0)

abbrev pub numbers_at : ℕ → List ℕ → Data → List ℤ
numbers_at k key d = map (number_or_zero k) (parts_at key d)

-- the numbers of the array at a key, none of which is negative
abbrev pub costs_at : ℕ → List ℕ → Data → List ℕ
costs_at k key d = map unsigned_abs (numbers_at k key d)

abbrev pub numbers_of : ℕ → Data → List ℤ
numbers_of k d = map (number_or_zero k) (parts d)

abbrev pub rows_at : ℕ → List ℕ → Data → List (List ℤ)
rows_at k key d = map (numbers_of k) (parts_at key d)

abbrev pub second_number : ℕ → List Data → ℤ
second_number k (x ∷ y ∷ []) = number_or_zero k y
second_number k _ = pos 0
