-- Two voters: by computation.
use Rattle.std.proofs.Common.{◌≡◌, ◌≢◌, not, ℕ, zero, suc, ◌<◌, ◌+◌, ◌-◌, Bool, true, false, nat_eq, ◌||◌, pos}
use Rattle.std.proofs.Common.{◌+ℤ◌, ◌-ℤ◌, ◌*ℤ◌, int_le, refl, arith, rules}
use Rattle.std.proofs.lemmas.Bool.{false≢true}
use Rattle.std.proofs.lemmas.Int.{ints}
use Rattle.definitions.proofs.Cases.{or_other, nat_eq-other}
use Rattle.definitions.proofs.Splits.{passes_below, passes_below-at}
use Rattle.definitions.specs.Coalitions.{has_player, singleton}
use Rattle.definitions.specs.Games.{amount, excess}
use Rattle.definitions.specs.Prekernel.{holds_without, IsSurplus, AreBalanced, InPrekernel}
use Rattle.theorems.proofs.Examples.{from_either}
use Rattle.law_stability.proofs.BargainingSet.{prekernel_counters}
use Rattle.law_stability.specs.Subsidies.{IsSubsidyFree}
use Rattle.law_stability.specs.TwoVoters.{both_agree, one_suffices, halves, TwoVoters}
use Rattle.law_stability.specs.ZeroMonotonic.{IsZeroMonotonic}
use Rattle.law_stability.specs.Superadditive.{IsJoined}
use Rattle.law_stability.proofs.SuperadditiveGames.{convex_is_superadditive, superadditive_is_zero_monotonic}
use Rattle.definitions.specs.Convexity.{IsConvex, apart, together}

does_no_harm : IsZeroMonotonic both_agree
does_no_harm s i lt hi out =
    let e = or_other _ _ out
    (passes_below-at 2
    (λ i. has_player s i
    || int_le (both_agree.worth s +ℤ both_agree.worth (singleton i)) (both_agree.worth (s + singleton i)))
    (passes_below-at 4
    (λ s. passes_below 2
    (λ i. has_player s i
    || int_le (both_agree.worth s +ℤ both_agree.worth (singleton i)) (both_agree.worth (s + singleton i)))) refl s lt)
    i hi) in
    omega (arith, ints, e)

free : IsSubsidyFree both_agree halves
free = (
  (refl, search rules),
  refl,
  λ s lt.
      (let e = passes_below-at 4
      (λ s. int_le (amount halves s) (pos 2 *ℤ (both_agree.worth 3 -ℤ both_agree.worth (3 - s)))) refl s lt in
      omega (arith, ints, e)),
)

does_harm : ¬ IsZeroMonotonic one_suffices
does_harm h = (let le = h 1 1 (omega arith) (omega arith) refl in omega (arith, ints, le))

convex : IsConvex both_agree
convex s i j h =
    let n = both_agree.players in
    let test : ℕ → ℕ → ℕ → Bool = λ s i j.
    has_player s i || (has_player s j || (nat_eq i j || int_le (apart both_agree s i j) (together both_agree s i j))) in
    let all = passes_below-at 2 (test s i)
    (passes_below-at 2 (λ i. passes_below 2 (test s i))
    (passes_below-at 4 (λ s. passes_below 2 (λ i. passes_below 2 (test s i))) refl s h.0) i h.1) j h.2 in
    let e = or_other _ _ (nat_eq-other i j h.3) (or_other _ _ h.5 (or_other _ _ h.4 all)) in
    omega (arith, ints, e)

each_joins : IsJoined 2 1 2 3
each_joins = record {
  first = omega arith;
  second = omega arith;
  all = omega arith;
  apart = λ i lt. alone i lt;
  members = λ i lt. both i lt;
}
  where
    alone : (i : ℕ) → i < 2 → has_player 1 i ≡ true → has_player 2 i ≡ false
    alone zero lt e = refl
    alone (suc zero) lt e = absurd (false≢true e)
    alone (suc (suc i)) lt e = absurd (omega (arith, lt))

    both : (i : ℕ) → i < 2 → has_player 3 i ≡ (has_player 1 i || has_player 2 i)
    both zero lt = refl
    both (suc zero) lt = refl
    both (suc (suc i)) lt = absurd (omega (arith, lt))

-- of two, only one alone holds the one and lacks the other
first_surplus : IsSurplus one_suffices halves 0 1 (pos 1)
first_surplus = (
  (1, (omega arith, refl), refl),
  λ s h. from_either _ _ _
      (passes_below-at 4 (λ s. not (holds_without 0 1 s) || int_le (excess one_suffices halves s) (pos 1)) refl s h.0)
      h.1,
)

second_surplus : IsSurplus one_suffices halves 1 0 (pos 1)
second_surplus = (
  (2, (omega arith, refl), refl),
  λ s h. from_either _ _ _
      (passes_below-at 4 (λ s. not (holds_without 1 0 s) || int_le (excess one_suffices halves s) (pos 1)) refl s h.0)
      h.1,
)

halves_in_prekernel : InPrekernel one_suffices halves
halves_in_prekernel = ((refl, search rules), refl, balanced)
  where
    balanced : (i j : ℕ) → i < 2 → j < 2 → i ≢ j → AreBalanced one_suffices halves i j
    balanced zero zero hi hj ne = absurd (ne refl)
    balanced zero (suc zero) hi hj ne = (pos 1, first_surplus, second_surplus)
    balanced (suc zero) zero hi hj ne = (pos 1, second_surplus, first_surplus)
    balanced (suc zero) (suc zero) hi hj ne = absurd (ne refl)
    balanced zero (suc (suc j)) hi hj ne = absurd (omega (arith, hj))
    balanced (suc zero) (suc (suc j)) hi hj ne = absurd (omega (arith, hj))
    balanced (suc (suc i)) j hi hj ne = absurd (omega (arith, hi))

pub two_voters : TwoVoters
two_voters = (
  (does_no_harm, does_harm),
  (convex_is_superadditive both_agree refl convex, λ h. does_harm (superadditive_is_zero_monotonic one_suffices h)),
  (each_joins, λ h. false≢true (h.members 1 (omega arith))),
  (free, λ h. (let le = h.2 1 (omega arith) in omega (arith, ints, le))),
  (
    halves_in_prekernel,
    prekernel_counters one_suffices halves halves_in_prekernel,
    λ h. (let le = h.0.2 0 (omega arith) in omega (arith, ints, le)),
  ),
)
