-- Balanced collections of excess worth, which show that a core is empty (Bondareva 1963, Shapley 1967).
--
--   AscendsFrom low ps           the masks ascend strictly, from above low
--   Divides d z                  d divides the integer z
--   IsBalancedOfExcessWorth      weights that add to k at each player, and are worth more than k times the grand
--                                coalition
use Rattle.std.specs.Prelude.{◌≡◌, ℕ, ◌^◌, ◌<◌, ◌≤◌, List, [], ◌∷◌, ℤ, pos}
use Rattle.std.specs.Prelude.{◌*ℤ◌, ◌<ℤ◌, ◌≤ℤ◌}
use Rattle.std.specs.List.{AllByRecursion}
use Rattle.definitions.specs.Sums.{weighted_sum}
use Rattle.definitions.specs.Coalitions.{grand_coalition, weight_at}
use Rattle.definitions.specs.Games.{Game}

abbrev pub AscendsFrom : ℕ → List (ℕ × ℤ) → Type 0
AscendsFrom low [] = Unit {0}
AscendsFrom low (p ∷ ps) = (low < p.0) × AscendsFrom p.0 ps

abbrev pub Divides : ℕ → ℤ → Type 0
Divides d z = (c : ℤ) × (z ≡ pos d *ℤ c)

-- coalitions with weights that add to k at each player, and are worth together more than k times all
pub record IsBalancedOfExcessWorth (g : Game) (ps : List (ℕ × ℤ)) (k : ℤ) : Type 0 where
  pub positive : pos 1 ≤ℤ k
  pub ascends : AscendsFrom 0 ps
  pub within : AllByRecursion (λ p. p.0 < 2 ^ g.players) ps
  pub weights : AllByRecursion (λ p. pos 1 ≤ℤ p.1) ps
  pub balanced : (i : ℕ) → i < g.players → weight_at ps i ≡ k
  pub excess_worth : (k *ℤ g.worth (grand_coalition g.players)) <ℤ weighted_sum g.worth ps
  pub lowest_terms : (d : ℕ) → Divides d k → AllByRecursion (λ p. Divides d p.1) ps → d ≤ 1
