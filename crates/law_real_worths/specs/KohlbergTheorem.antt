-- Kohlberg's theorem for worths that are real numbers (Kohlberg 1971; for preimputations Sobolev 1975).
--
--   IsBalancedTest n test   weights of at least 1 on the coalitions that pass add to one number at each player
--   is_level N g y t        the coalitions with at least the excess of t
--   KohlbergTheorem         shares are the prenucleolus exactly when each such collection is balanced
use Rattle.std.specs.Prelude.{◌≡◌, ◌↔◌, ℕ, ◌^◌, ◌<◌, Bool, true, false, ◌&&◌, not, nat_eq}
use Rattle.std.specs.Prelude.{List, ℤ, pos, ◌*ℤ◌, ◌≤ℤ◌, if◌then◌else◌}
use Rattle.definitions.specs.Sums.{sum_below}
use Rattle.definitions.specs.Coalitions.{has_player, grand_coalition}
use Rattle.definitions.specs.declared.Family.TheVariants.{Preimputations}
use Rattle.real_shares.specs.Numbers.{Numbers}
use Rattle.real_shares.specs.Reals.{Real, AreReals}
use Rattle.law_real_worths.specs.Games.{NumberGame, excess_in, InFamilyIn, IsNucleolusIn}

-- The coalitions below 2 ^ n that pass have weights of at least 1, all others of 0, that add to one number at each
-- player. The book's weights are positive and add to 1: in fractions, which are enough, these over that number.
pub record IsBalancedTest (n : ℕ) (test : ℕ → Bool) : Type 0 where
  pub weights : ℕ → ℤ
  pub total : ℤ
  pub some : (s : ℕ) → s < 2 ^ n → test s ≡ true → pos 1 ≤ℤ weights s
  pub none : (s : ℕ) → s < 2 ^ n → test s ≡ false → weights s ≡ pos 0
  pub balance : (i : ℕ) → i < n
      → sum_below (2 ^ n) (λ s. weights s *ℤ (if has_player s i then pos 1 else pos 0)) ≡ total

-- the coalitions but the empty one and that of all that have at least the excess of t
abbrev pub is_level : {C : Type 0} → Numbers C → NumberGame C → List C → ℕ → ℕ → Bool
is_level N g y t s =
    not (nat_eq s 0)
    && (not (nat_eq s (grand_coalition g.players)) && N.at_most (excess_in N g y t) (excess_in N g y s))

-- shares that add to the worth of all are the prenucleolus exactly when, for each coalition, the coalitions of at
-- least its excess are balanced
abbrev pub KohlbergTheorem : Type 0
KohlbergTheorem =
    (N : Numbers Real) (g : NumberGame Real) (y : List Real) → AreReals N → InFamilyIn N Preimputations g y →
    IsNucleolusIn N Preimputations g y
    ↔ ((t : ℕ) → 0 < t → t < grand_coalition g.players → IsBalancedTest g.players (is_level N g y t))
