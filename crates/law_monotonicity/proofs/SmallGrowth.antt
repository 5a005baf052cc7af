-- The two contracts, from 3 to 4: by computation.
use Rattle.std.proofs.Common.{ℕ, ◌<◌, ◌||◌, pos, ◌-ℤ◌, ◌*ℤ◌, ◌≤ℤ◌, int_le, refl, arith}
use Rattle.std.proofs.lemmas.Int.{ints}
use Rattle.std.specs.Ordering.{int_eq}
use Rattle.definitions.proofs.Cases.{or_other}
use Rattle.definitions.proofs.Ring.{linear}
use Rattle.definitions.proofs.Splits.{passes_below, passes_below-at}
use Rattle.theorems.proofs.Examples.{from_int_eq}
use Rattle.definitions.specs.Coalitions.{has_player}
use Rattle.definitions.specs.Games.{Game, share}
use Rattle.law_monotonicity.specs.Growth.{GetsEqualPart, before}
use Rattle.law_monotonicity.specs.CoreRules.{GrowsAround, LosesInTheCore}
use Rattle.law_monotonicity.specs.SmallGrowth.{quarters, three, four, ContractsCompared}
use Rattle.law_monotonicity.proofs.GrowsAround.{adds}
use Rattle.law_monotonicity.proofs.WhoGetsLessOfMore.{grows}

-- all have each player, and no other coalition changes
around : (i : ℕ) → i < 4 → GrowsAround three four i
around i hi = record {
  players = refl;
  around = λ s lt inside. no_less s lt;
  apart = λ s lt out. from_int_eq _ _
      (or_other _ _ out
      (passes_below-at 4 (λ i. has_player s i || int_eq (four.worth s) (three.worth s))
      (passes_below-at 16 (λ s. passes_below 4 (λ i. has_player s i || int_eq (four.worth s) (three.worth s))) refl s
      lt) i hi));
}
  where
    no_less : (s : ℕ) → s < 16 → three.worth s ≤ℤ four.worth s
    no_less s lt = omega (arith, ints, passes_below-at 16 (λ s. int_le (three.worth s) (four.worth s)) refl s lt)

equal_parts : (i : ℕ) → i < 4 → GetsEqualPart (pos 1) 4 before quarters i
equal_parts i lt =
    from_int_eq _ _
    (passes_below-at 4
    (λ i. int_eq (pos 4 *ℤ (share quarters i *ℤ pos 6 -ℤ share before i *ℤ pos 12)) (pos 1 *ℤ (pos 6 *ℤ pos 12))) refl
    i lt)

no_loss : (g : Game) (i : ℕ) → ¬ LosesInTheCore g g i
no_loss g i loses =
    let point = loses.2 in
    omega (arith, linear, loses.4 point.0 point.0 point.1 point.1)

pub contracts_compared : ContractsCompared
contracts_compared = (
  (grows, λ h. (omega (arith, ints, h.more))),
  (grows, λ h. (omega (arith, ints, h.more))),
  (around, λ h. (let le = h.around 15 (omega arith) refl in omega (arith, ints, le))),
  (
    λ i lt. adds three four i (around i lt) lt,
    λ h. (let le = h.adds 14 (omega arith) refl in omega (arith, ints, le)),
  ),
  (equal_parts, λ h. omega (arith, ints, h)),
  no_loss,
)
