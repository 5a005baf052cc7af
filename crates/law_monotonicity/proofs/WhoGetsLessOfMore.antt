-- Two convex games of four players, and the certificates of their nucleoli.
use Rattle.std.proofs.Common.{◌≡◌, ℕ, Bool, true, false, ◌||◌, nat_eq, [], ◌∷◌, ℤ, pos, negsuc, ◌≤ℤ◌}
use Rattle.std.proofs.Common.{int_le, refl, inl, arith, rules}
use Rattle.std.proofs.lemmas.Int.{ints}
use Rattle.std.specs.Ordering.{int_eq}
use Rattle.definitions.proofs.Cases.{nat_eq-other, or_other}
use Rattle.definitions.proofs.Splits.{passes_below, passes_below-at}
use Rattle.theorems.proofs.Certified.{from_int_eq, IsNucleolus-from_test}
use Rattle.definitions.specs.Coalitions.{has_player}
use Rattle.definitions.specs.Convexity.{IsConvex, apart, together}
use Rattle.definitions.specs.Games.{Game, IsNucleolus}
use Rattle.definitions.specs.Certificates.{Level}
use Rattle.definitions.specs.declared.Family.{Family}
use Rattle.definitions.specs.declared.Measure.TheVariants.{Plain}
use Rattle.law_monotonicity.specs.Growth.{WholeGrows, two_contracts, before, after, WhoGetsLessOfMore}

-- ---- the games

abbrev three : Game
three = two_contracts (pos 3)

abbrev four : Game
four = two_contracts (pos 4)

pub grows : WholeGrows (pos 1) three four
grows = record {
  players = refl;
  more = refl;
  others = λ s lt ne. from_int_eq _ _
      (or_other _ _ (nat_eq-other s 15 ne)
      (passes_below-at 16 (λ s. nat_eq s 15 || int_eq (four.worth s) (three.worth s)) refl s lt));
}

-- the players are outside and differ, so they add no less together
adds_up : Game → ℕ → ℕ → ℕ → Bool
adds_up g s i j = has_player s i || (has_player s j || (nat_eq i j || int_le (apart g s i j) (together g s i j)))

from_test : (a b c : Bool) (u v : ℤ) → (a || (b || (c || int_le u v))) ≡ true → a ≡ false → b ≡ false → c ≡ false
    → u ≤ℤ v
from_test a b c u v h e f k = omega (arith, ints, or_other c _ k (or_other b _ f (or_other a _ e h)))

three_convex : IsConvex three
unfolding adds_up
three_convex s i j o =
    from_test _ _ _ _ _
    (passes_below-at 4 (adds_up three s i)
    (passes_below-at 4 (λ i. passes_below 4 (adds_up three s i))
    (passes_below-at 16 (λ s. passes_below 4 (λ i. passes_below 4 (adds_up three s i))) refl s o.0) i o.1) j o.2)
    o.4 o.5 (nat_eq-other i j o.3)

four_convex : IsConvex four
unfolding adds_up
four_convex s i j o =
    from_test _ _ _ _ _
    (passes_below-at 4 (adds_up four s i)
    (passes_below-at 4 (λ i. passes_below 4 (adds_up four s i))
    (passes_below-at 16 (λ s. passes_below 4 (λ i. passes_below 4 (adds_up four s i))) refl s o.0) i o.1) j o.2)
    o.4 o.5 (nat_eq-other i j o.3)

-- ---- the certificates

-- 2 alone, and the others
abbrev first_level : Level
first_level = record {
  excess_num = negsuc 0;
  excess_den = pos 2;
  coalitions = (2, pos 1) ∷ ((13, pos 1) ∷ []);
  earlier = [];
  bounds = [];
  total = pos 1;
}

-- 1 and 2, 3 alone, and 4 alone
abbrev second_level : Level
second_level = record {
  excess_num = negsuc 1;
  excess_den = pos 3;
  coalitions = (3, pos 1) ∷ ((4, pos 1) ∷ ((8, pos 1) ∷ []));
  earlier = [];
  bounds = [];
  total = pos 1;
}

-- each alone
abbrev only_level : Level
only_level = record {
  excess_num = negsuc 0;
  excess_den = pos 1;
  coalitions = (1, pos 1) ∷ ((2, pos 1) ∷ ((4, pos 1) ∷ ((8, pos 1) ∷ [])));
  earlier = [];
  bounds = [];
  total = pos 1;
}

before_nucleolus : (family : Family) → IsNucleolus family Plain three before
before_nucleolus family =
    IsNucleolus-from_test family Plain three before (first_level ∷ (second_level ∷ [])) (inl refl) refl

after_nucleolus : (family : Family) → IsNucleolus family Plain four after
after_nucleolus family = IsNucleolus-from_test family Plain four after (only_level ∷ []) (inl refl) refl

pub who_gets_less_of_more : WhoGetsLessOfMore
who_gets_less_of_more = (grows, three_convex, four_convex, before_nucleolus, after_nucleolus, search rules)
