-- What the checker's verdict says.
--
--   IsGreatestOutside   the greatest measured excess of the coalitions that the levels don't fix
--   IsWrongSign         the first weight of a level that is below 1
--   Means               what a reason says of the failure that it names
--   IsVerdict           Yes to what certifies the shares, No with the first failure
use Rattle.std.specs.Prelude.{ℕ, ◌^◌, ◌<◌, List, ℤ, pos, ◌≤ℤ◌, Option, None, Some}
use Rattle.fractions.specs.Fraction.{Fraction}
use Rattle.definitions.specs.Sums.{IsGreatest}
use Rattle.definitions.specs.Games.{Game, Allocation, measured_excess}
use Rattle.definitions.specs.Certificates.{Level, Weights, BoundWeighs, IsOutside, Certifies}
use Rattle.definitions.specs.Failures.{Reason as Failure, not_efficient, not_individual, wrong_excess}
use Rattle.definitions.specs.Failures.{coalition_sign, player_sign, unbalanced, bound_not_tight}
use Rattle.definitions.specs.Failures.{outside_above, not_all, IsFirstFailing, IsFirstFailure}
use Rattle.definitions.specs.declared.Family.{Family}
use Rattle.definitions.specs.declared.Measure.{Measure}
use Rattle.definitions.specs.declared.Mode.{Mode}
use Rattle.worth_core.specs.Measured.{IsValueOf}
use Rattle.kohlberg.specs.declared.verdicts.Verdict.{Verdict}
use Rattle.kohlberg.specs.declared.verdicts.Verdict.TheVariants.{Yes, No}
use Rattle.kohlberg.specs.declared.verdicts.Place.{Place}
use Rattle.kohlberg.specs.declared.verdicts.Place.TheVariants.{Coalition, Player}
use Rattle.kohlberg.specs.declared.verdicts.Reason.{Reason}
use Rattle.kohlberg.specs.declared.verdicts.Reason.TheVariants.{NotEfficient, NotIndividual, WrongExcess}
use Rattle.kohlberg.specs.declared.verdicts.Reason.TheVariants.{WeightSign, Unbalanced, BoundNotTight, OutsideAbove}
use Rattle.kohlberg.specs.declared.verdicts.Reason.TheVariants.{NotAll}

-- no coalition is outside of what the levels fix, or the fraction is the greatest measured excess of those that are
abbrev pub IsGreatestOutside : Mode → Measure → Game → Allocation → List Level → Option Fraction → Type 0
IsGreatestOutside mode measure g x levels None = (s : ℕ) → s < 2 ^ g.players → ¬ IsOutside mode g.players levels s
IsGreatestOutside mode measure g x levels (Some f) =
    (m : ℤ)
    × IsGreatest (λ s. (s < 2 ^ g.players) × IsOutside mode g.players levels s) (measured_excess measure g x) m
    × IsValueOf measure x m f

-- the first weight that is below 1: of the level's coalitions, or, if those of all coalitions are at least 1, of its
-- bounds
abbrev pub IsWrongSign : List Level → Level → Place → Type 0
IsWrongSign front l (Coalition s) = IsFirstFailing (λ c. pos 1 ≤ℤ c.1) l.coalitions s
IsWrongSign front l (Player i) = Weights l × IsFirstFailing (BoundWeighs front) l.bounds i

-- a fact on the failure that a reason names; an excess is a fraction, and in the failure over the denominator of
-- measured excesses of x
abbrev pub Means : Measure → Allocation → (Failure → Type 0) → Reason → Type 0
Means measure x P NotEfficient = P not_efficient
Means measure x P (NotIndividual i) = P (not_individual i)
Means measure x P (WrongExcess j s) = P (wrong_excess j s)
Means measure x P (WeightSign j (Coalition s)) = P (coalition_sign j s)
Means measure x P (WeightSign j (Player i)) = P (player_sign j i)
Means measure x P (Unbalanced j i) = P (unbalanced j i)
Means measure x P (BoundNotTight j i) = P (bound_not_tight j i)
Means measure x P (OutsideAbove j f) = (e : ℤ) × IsValueOf measure x e f × P (outside_above j e)
Means measure x P (NotAll i) = P (not_all i)

-- Yes if the certificate certifies the shares, otherwise No with the first failure
abbrev pub IsVerdict : Mode → Family → Measure → Game → Allocation → List Level → Verdict → Type 0
IsVerdict mode family measure g x levels Yes = Certifies mode family measure g x levels
IsVerdict mode family measure g x levels (No r) = Means measure x (IsFirstFailure mode family measure g x levels) r
