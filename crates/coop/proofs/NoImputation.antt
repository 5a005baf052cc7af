-- If the players alone are worth more than all, there is no imputation.
--
-- An imputation gives each player at least its worth alone, and its shares add to the worth of all. So the sum of the
-- worths alone is at most that. This is said of the numbers as they are printed.
use Rattle.std.proofs.Common.{◌≡◌, ℕ, ℤ, pos, ◌*ℤ◌, ◌<ℤ◌, ◌≤ℤ◌, sym, subst, ◌∙◌}
use Rattle.std.proofs.Common.{arith}
use Rattle.definitions.specs.Sums.{sum_below}
use Rattle.definitions.specs.Coalitions.{singleton, grand_coalition, sum_over}
use Rattle.definitions.specs.Games.{Game, Allocation, share, InFamily}
use Rattle.definitions.specs.declared.Family.{Family}
use Rattle.definitions.specs.declared.Family.TheVariants.{Imputations}
use Rattle.definitions.proofs.Members.{sum_below-times, sum_over-grand_coalition}
use Rattle.definitions.proofs.Parts.{sum_below-le}
use Rattle.definitions.proofs.Ring.{linear, mul-le_cancelℤ}
use Rattle.nested_programs.specs.Answer.{singles, LacksImputation}

none_is_rational : (g : Game) → g.worth (grand_coalition g.players) <ℤ singles g → (y : Allocation)
    → ¬ InFamily Imputations g y
none_is_rational g above y h =
    let n = g.players in
    let alone : ℕ → ℤ = λ i. y.den *ℤ g.worth (singleton i) in
    let total = y.den *ℤ g.worth (grand_coalition n) in
    let each : sum_below n alone ≤ℤ sum_below n (share y) = sum_below-le n alone (share y) h.2 in
    let times : sum_below n alone ≡ y.den *ℤ singles g = sum_below-times n (λ i. g.worth (singleton i)) y.den in
    let all : sum_over n (share y) (grand_coalition n) ≡ sum_below n (share y) =
    sum_over-grand_coalition n (share y) in
    let given : sum_over n (share y) (grand_coalition n) ≡ total =
    subst (λ (m : ℕ). sum_over m (share y) (grand_coalition n) ≡ total) h.0.0 h.1 in
    let scaled : (y.den *ℤ singles g) ≤ℤ total =
    subst (λ (z : ℤ). z ≤ℤ total) times (subst (λ (z : ℤ). sum_below n alone ≤ℤ z) (sym all ∙ given) each) in
    let some : pos 0 <ℤ y.den = omega (arith, linear, h.0.1) in
    let least : singles g ≤ℤ g.worth (grand_coalition n) =
    mul-le_cancelℤ y.den (singles g) (g.worth (grand_coalition n)) some scaled in
    omega (arith, linear, above, least)

module _ (family : Family) (g : Game) (alone total : ℤ) (lacks : LacksImputation family g alone total) where
  pub is_above : g.worth (grand_coalition g.players) <ℤ singles g
  is_above =
      subst (λ (w : ℤ). w <ℤ singles g) lacks.total_is (subst (λ (w : ℤ). total <ℤ w) lacks.alone_is lacks.above)

  pub no_imputation : (y : Allocation) → ¬ InFamily Imputations g y
  no_imputation = none_is_rational g is_above
