-- For the private functions of this crate.
-- The search for the first coalition and players at which a game isn't convex.
--
--   HoldsAt g s i j            what a convex game needs at one coalition and two players
--   FailsBy g s i j d          that fails by d
--   IsFirstPartner g s i j d   j is the first player after i that fails with it at s
--   IsFirstPair g s i j d      i and j are the first two players that fail at s
use Rattle.std.specs.Prelude.{◌≡◌, ◌⊎◌, ℕ, ◌<◌, ℤ, ◌-ℤ◌, ◌<ℤ◌, ◌≤ℤ◌}
use Rattle.definitions.specs.Games.{Game}
use Rattle.definitions.specs.Convexity.{AreOutside, apart, together}

-- if both are outside, they add no less together
abbrev pub HoldsAt : Game → ℕ → ℕ → ℕ → Type 0
HoldsAt g s i j = AreOutside g.players s i j → apart g s i j ≤ℤ together g s i j

-- they fail by d
pub record FailsBy (g : Game) (s i j : ℕ) (d : ℤ) : Type 0 where
  pub outside : AreOutside g.players s i j
  pub ascends : i < j
  pub fails : together g s i j <ℤ apart g s i j
  pub deficit : d ≡ apart g s i j -ℤ together g s i j

-- j fails with i by d, and no player between them does
abbrev pub IsFirstPartner : Game → ℕ → ℕ → ℕ → ℤ → Type 0
IsFirstPartner g s i j d = FailsBy g s i j d × ((l : ℕ) → i < l → l < j → HoldsAt g s i l)

-- i and j fail by d, and no earlier two players do
abbrev pub IsFirstPair : Game → ℕ → ℕ → ℕ → ℤ → Type 0
IsFirstPair g s i j d =
    FailsBy g s i j d × ((k l : ℕ) → k < l → ((k < i) ⊎ ((k ≡ i) × (l < j))) → HoldsAt g s k l)
