-- Programs of one row, for the tests of the simplex. They keep its laws.
--
--   one_column          one column in one row, with a solution or without
--   one_column_lawful   it keeps the laws
--   two_ways            two columns in one row, whose cost has no bound
--   two_ways_lawful     it keeps the laws
use Rattle.std.specs.Prelude.{ℕ, Bool, ◌<◌, ◌≡◌, ◌⊎◌, ◌^◌, true, false, cond, nat_eq}
use Rattle.std.specs.Prelude.{nat_lt, ℤ, pos, negsuc, refl, unsigned_abs}
use Rattle.std.proofs.Common.{inl, inr}
use Rattle.std.proofs.Math.Nat.{le_trans, le_of_lt, not-le_of_lt}
use lib.Dec.{lit≤, lit<}
use Rattle.definitions.specs.Programs.{Program}
use Rattle.simplex.specs.Laws.{IsSparse, IsLawful}

constant : (z : ℤ) → (z ≡ pos 1) ⊎ (z ≡ negsuc 0) → IsSparse 1 1 (λ i. z)
constant z h = record {
  sign = z;
  is_sign = h;
  entry = λ i lt. inr refl;
  one = λ i j le ij lt. absurd (not-le_of_lt lt (le_trans le (le_of_lt ij)));
}

-- right side 1, and one column: with entry -1 and cost 0 if the test is true, or else with entry 1 and cost -3
abbrev pub one_column : Bool → Program
one_column opposite = record {
  rows = 1;
  right = λ i. pos 1;
  is_column = λ id. nat_eq id 0;
  entry = λ id i. cond opposite (negsuc 0) (pos 1);
  cost = λ id. cond opposite (pos 0) (negsuc 2);
}

either : (opposite : Bool) → IsSparse 1 1 (λ i. cond opposite (negsuc 0) (pos 1))
either true = constant (negsuc 0) (inr refl)
either false = constant (pos 1) (inl refl)

few : (opposite : Bool) → unsigned_abs (cond opposite (pos 0) (negsuc 2)) < 2 ^ 46
few true = lit< tt
few false = lit< tt

pub one_column_lawful : (opposite : Bool) → IsLawful 1 (one_column opposite)
one_column_lawful opposite = record {
  players_few = lit≤ tt;
  players_within = lit≤ tt;
  rows_few = lit≤ tt;
  band = inl (record { levels = lit≤ tt; columns = λ id c. either opposite; right = constant (pos 1) (inl refl) });
  rights = λ i lt. inr refl;
  costs = λ id c. few opposite;
}

-- right side 0, and columns with entry 1 and cost 1, and with entry -1 and cost 0
abbrev pub two_ways : Program
two_ways = record {
  rows = 1;
  right = λ i. pos 0;
  is_column = λ id. nat_lt id 2;
  entry = λ id i. cond (nat_eq id 0) (pos 1) (negsuc 0);
  cost = λ id. cond (nat_eq id 0) (pos 1) (pos 0);
}

none : IsSparse 1 1 (λ i. pos 0)
none = record { sign = pos 1; is_sign = inl refl; entry = λ i lt. inl refl; one = λ i j le ij lt. inl refl }

ways : (id : ℕ) → IsSparse 1 1 (λ i. cond (nat_eq id 0) (pos 1) (negsuc 0))
ways id =
    elim (nat_eq id 0) as (λ b. IsSparse 1 1 (λ i. cond b (pos 1) (negsuc 0)))
    [ true ↦ constant (pos 1) (inl refl) | false ↦ constant (negsuc 0) (inr refl) ]

small : (id : ℕ) → unsigned_abs (cond (nat_eq id 0) (pos 1) (pos 0)) < 2 ^ 46
small id =
    elim (nat_eq id 0) as (λ b. unsigned_abs (cond b (pos 1) (pos 0)) < 2 ^ 46) [ true ↦ lit< tt | false ↦ lit< tt ]

pub two_ways_lawful : IsLawful 1 two_ways
two_ways_lawful = record {
  players_few = lit≤ tt;
  players_within = lit≤ tt;
  rows_few = lit≤ tt;
  band = inl (record { levels = lit≤ tt; columns = λ id c. ways id; right = none });
  rights = λ i lt. inl refl;
  costs = λ id c. small id;
}
