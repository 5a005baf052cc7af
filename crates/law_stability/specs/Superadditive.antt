-- Games in which it harms no two coalitions to join each other (superadditive games; von Neumann and Morgenstern 1944).
-- Each law is the contract of a function of this crate.
--
--   IsJoined n s t u               u has the members of s and those of t, who are others
--   IsSuperadditive g              two coalitions without a common member are worth no more than all of them together
--   ConvexIsSuperadditive          convex games are so
--   SuperadditiveIsZeroMonotonic   and games that are so are zero-monotonic
use Rattle.std.specs.Prelude.{◌≡◌, ℕ, ◌^◌, ◌<◌, false, true, ◌||◌, pos, ◌+ℤ◌, ◌≤ℤ◌}
use Rattle.definitions.specs.Coalitions.{has_player}
use Rattle.definitions.specs.Convexity.{IsConvex}
use Rattle.definitions.specs.Games.{Game}
use Rattle.law_stability.specs.ZeroMonotonic.{IsZeroMonotonic}

-- coalitions s and t of n players without a common member, and u of the members of both
pub record IsJoined (n s t u : ℕ) : Type 0 where
  pub first : s < 2 ^ n
  pub second : t < 2 ^ n
  pub all : u < 2 ^ n
  pub apart : (i : ℕ) → i < n → has_player s i ≡ true → has_player t i ≡ false
  pub members : (i : ℕ) → i < n → has_player u i ≡ (has_player s i || has_player t i)

abbrev pub IsSuperadditive : Game → Type 0
IsSuperadditive g = (s t u : ℕ) → IsJoined g.players s t u → (g.worth s +ℤ g.worth t) ≤ℤ g.worth u

-- a convex game in which the empty coalition is worth nothing is superadditive
abbrev pub ConvexIsSuperadditive : Type 0
ConvexIsSuperadditive = (g : Game) → g.worth 0 ≡ pos 0 → IsConvex g → IsSuperadditive g

-- so there the prenucleolus is the nucleolus, and the kernel the prekernel
abbrev pub SuperadditiveIsZeroMonotonic : Type 0
SuperadditiveIsZeroMonotonic = (g : Game) → IsSuperadditive g → IsZeroMonotonic g
