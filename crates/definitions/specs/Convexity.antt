-- Convex games (Shapley 1971).
--
--   AreOutside n s i j              two different players outside the coalition s
--   apart, together                 the worths of s with each of two players; of s with both, and of s itself
--   IsConvex g                      together is at least apart, for all coalitions and players outside
--   ComesEarlier                    triples compare by mask, then by the first player, then by the second
--   IsFirstNonconvexity g s i j d   the first coalition and the first two players at which this fails, and by how much
--   IsMarginal g order x            each player gets what it adds to the worth of those in front of it
use Rattle.std.specs.Prelude.{◌≡◌, ◌⊎◌, ℕ, ◌+◌, ◌^◌, ◌<◌, false, List, ℤ, ◌+ℤ◌}
use Rattle.std.specs.Prelude.{◌-ℤ◌, ◌*ℤ◌, ◌<ℤ◌, ◌≤ℤ◌}
use Rattle.definitions.specs.Coalitions.{has_player, singleton}
use Rattle.definitions.specs.Games.{Game, Allocation, share, IsAllocation}
use Rattle.definitions.specs.Shapley.{marginal_worth}

abbrev pub AreOutside : ℕ → ℕ → ℕ → ℕ → Type 0
AreOutside n s i j =
    (s < 2 ^ n) × (i < n) × (j < n) × (¬ (i ≡ j)) × (has_player s i ≡ false) × (has_player s j ≡ false)

-- the worths of s with i and of s with j
abbrev pub apart : Game → ℕ → ℕ → ℕ → ℤ
apart g s i j = g.worth (s + singleton i) +ℤ g.worth (s + singleton j)

-- the worths of s with both and of s itself
abbrev pub together : Game → ℕ → ℕ → ℕ → ℤ
together g s i j = g.worth (s + singleton i + singleton j) +ℤ g.worth s

-- a player adds at least as much to a coalition if another player has joined it before
abbrev pub IsConvex : Game → Type 0
IsConvex g = (s i j : ℕ) → AreOutside g.players s i j → apart g s i j ≤ℤ together g s i j

abbrev pub ComesEarlier : ℕ → ℕ → ℕ → ℕ → ℕ → ℕ → Type 0
ComesEarlier t k l s i j = (t < s) ⊎ ((t ≡ s) × ((k < i) ⊎ ((k ≡ i) × (l < j))))

-- s, i and j, the lesser player first, fail by d, and no earlier ones do
pub record IsFirstNonconvexity (g : Game) (s i j : ℕ) (d : ℤ) : Type 0 where
  pub outside : AreOutside g.players s i j
  pub ascends : i < j
  pub fails : together g s i j <ℤ apart g s i j
  pub deficit : d ≡ apart g s i j -ℤ together g s i j
  pub first : (t k l : ℕ) → AreOutside g.players t k l → k < l → ComesEarlier t k l s i j
      → apart g t k l ≤ℤ together g t k l

-- the marginal shares of an order: each player gets what it adds to the worth of those in front of it
abbrev pub IsMarginal : Game → List ℕ → Allocation → Type 0
IsMarginal g order x =
    IsAllocation g x × ((i : ℕ) → i < g.players → share x i ≡ x.den *ℤ marginal_worth g.worth i 0 order)
