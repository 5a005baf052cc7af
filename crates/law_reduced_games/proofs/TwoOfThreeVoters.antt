-- The reduced game of two of three voters, by computation.
use Rattle.std.proofs.Common.{◌≡◌, ℕ, zero, suc, ◌^◌, ◌<◌, Bool, ◌||◌, not, true, nat_eq, [], ◌∷◌, pos, ◌≤ℤ◌, int_le}
use Rattle.std.proofs.Common.{refl, arith}
use Rattle.definitions.proofs.Ring.{linear}
use Rattle.definitions.proofs.Cases.{nat_eq-equal}
use Rattle.definitions.proofs.Splits.{passes_below-at}
use Rattle.definitions.specs.Games.{Game}
use Rattle.law_answers.specs.ClassGames.{voting_game}
use Rattle.law_answers.specs.SmallNucleoli.{thirds}
use Rattle.theorems.proofs.Examples.{from_either}
use Rattle.definitions.specs.Classes.{table_worth}
use Rattle.definitions.specs.Sums.{IsGreatest}
use Rattle.law_reduced_games.specs.ReducedGames.{staying, staying_shares, worth_left, IsReducedGame, IsStandard}
use Rattle.law_reduced_games.specs.ReducedGames.{left_to_two, without_third, TwoOfThreeVoters}

abbrev majority : Game
majority = voting_game 2 (1 ∷ (1 ∷ (1 ∷ [])))

abbrev is_low : ℕ → ℕ → Bool
is_low t s = not (nat_eq (staying 2 (λ k. k) s) t) || int_le (worth_left 2 (λ k. k) majority thirds s) (pos 2)

low : (t s : ℕ) → is_low t s ≡ true → staying 2 (λ k. k) s ≡ t → worth_left 2 (λ k. k) majority thirds s ≤ℤ pos 2
low t s e is = from_either _ _ _ e (nat_eq-equal (staying 2 (λ k. k) s) t is)

-- alone with the third voter
one_alone : (t : ℕ) → 0 < t → t < 3 → IsGreatest (λ s. (s < 2 ^ 3) × (staying 2 (λ k. k) s ≡ t))
    (worth_left 2 (λ k. k) majority thirds) (table_worth (pos 2 ∷ (pos 2 ∷ (pos 2 ∷ []))) t)
one_alone zero some less = absurd (omega arith)
one_alone (suc zero) some less =
    ((5, (omega arith, refl), refl), λ s p. low 1 s (passes_below-at 8 (is_low 1) refl s p.0) p.1)
one_alone (suc (suc zero)) some less =
    ((6, (omega arith, refl), refl), λ s p. low 2 s (passes_below-at 8 (is_low 2) refl s p.0) p.1)
one_alone (suc (suc (suc t))) some less = absurd (omega arith)

-- with nobody else the first voter keeps nothing, but with the third it keeps 2
no_partner : ¬ IsReducedGame 2 (λ k. k) majority thirds without_third
no_partner r = omega (arith, linear, (r.some 1 (omega arith) (omega arith)).1 5 (omega arith, refl))

a_third_each : IsStandard left_to_two (staying_shares 2 (λ k. k) thirds)
a_third_each = record { players = refl; shares = (refl, omega (arith, linear)); all = refl; alike = refl }

not_all_for_one : ¬ IsStandard left_to_two (record { shares = pos 2 ∷ (pos 0 ∷ []); den = pos 1 })
not_all_for_one s = omega (arith, linear, s.alike)

pub two_of_three_voters : TwoOfThreeVoters
two_of_three_voters = (
  record { some = omega arith; players = λ k lt. omega arith; once = λ k l hk hl e. e },
  λ a. (let e = a.once 0 1 (omega arith) (omega arith) refl in omega (arith, e)),
  record { players = refl; nobody = refl; all = refl; some = one_alone },
  no_partner,
  a_third_each,
  not_all_for_one,
)
