-- An estate of 10 with claims of 6, 7 and 8, and one of 11 with claims of 7, 8 and 9: all together alone are worth
-- more.
use Rattle.std.proofs.Common.{ℕ, ◌+◌, List, [], ◌∷◌, ℤ, pos, ◌+ℤ◌, ◌*ℤ◌, refl, arith}
use Rattle.std.specs.Int.{int_min}
use Rattle.std.specs.Ordering.{int_eq}
use Rattle.definitions.proofs.Ring.{linear}
use Rattle.definitions.proofs.Splits.{passes_below-at}
use Rattle.definitions.specs.Classes.{bankruptcy_worth}
use Rattle.theorems.proofs.Examples.{from_int_eq}
use Rattle.talmud.specs.Rule.{IsTalmud, cut, part}
use Rattle.law_classes.specs.Estates.{of_ten, of_eleven, AllOfThreeAreWorthMore}

abbrev before : List ℕ
before = 6 ∷ (7 ∷ (8 ∷ []))

abbrev after : List ℕ
after = 7 ∷ (8 ∷ (9 ∷ []))

ten : IsTalmud 10 before of_ten
ten = record {
  players = refl;
  positive = omega (arith, linear);
  all = refl;
  parts = (
    pos 7,
    omega (arith, linear),
    λ i lt. from_int_eq _ _
        (passes_below-at 3
        (λ i. int_eq (part 10 before of_ten i +ℤ part 10 before of_ten i)
        (int_min (pos 2 *ℤ pos (cut 10 before i)) (pos 14))) refl i lt),
  );
}

eleven : IsTalmud 11 after of_eleven
eleven = record {
  players = refl;
  positive = omega (arith, linear);
  all = refl;
  parts = (
    pos 15,
    omega (arith, linear),
    λ i lt. from_int_eq _ _
        (passes_below-at 3
        (λ i. int_eq (part 11 after of_eleven i +ℤ part 11 after of_eleven i)
        (int_min (pos 4 *ℤ pos (cut 11 after i)) (pos 30))) refl i lt),
  );
}

pub all_of_three_are_worth_more : AllOfThreeAreWorthMore
all_of_three_are_worth_more = (
  λ s lt. from_int_eq _ _
      (passes_below-at 7 (λ s. int_eq (bankruptcy_worth 10 before s) (bankruptcy_worth 11 after s)) refl s lt),
  ten,
  eleven,
)
